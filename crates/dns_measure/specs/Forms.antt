-- The words that the program takes, and the statuses with which it ends.
use Rattle.std.specs.Prelude.{ℕ, ◌≡◌, ◌<◌, ◌⊎◌, List, [], ◌∷◌, map, codes, Vec, Option, None, Some, if◌then◌else◌}
use Rattle.std.specs.Option.{option_map, option_and_then}
use Rattle.dns_model.specs.Keys.{bytes_eq}
use Rattle.dns_text.specs.Words.{decimal_in}
use Rattle.dns_io.specs.Reading.{OfInput}
use Rattle.dns_io.specs.Runs.{Asked, FixedText, NoInput, AnInput}
use Rattle.dns_io.specs.Writing.{bad_words_text, WritesText}
use Rattle.dns_session.specs.Grammar.{session_of}
use Rattle.dns_session.specs.Stops.{session_status}
use Rattle.dns_measure.specs.declared.form.Form.{Form}
use Rattle.dns_measure.specs.declared.form.Form.TheVariants.{Reading, Signed}
use Rattle.dns_measure.specs.declared.form.Work.{Work}
use Rattle.dns_measure.specs.declared.form.Work.TheVariants.{Decode, OnSession, Signatures, Replies, Responses}
use Rattle.dns_measure.specs.declared.denials.Judging.{Judging}
use Rattle.dns_measure.specs.declared.denials.Judging.TheVariants.{Gathered, Listed, Indexed, InList, InIndex}
use Rattle.dns_measure.specs.declared.form.SessionWork.TheVariants.{LookUp, LookUpAnew, Respond, RespondAnew, Verdicts, Denials}

-- how often is a number of 32 bits
abbrev pub passes_in : List ℕ → Option ℕ
passes_in word = decimal_in 4294967295 word

abbrev pub reading_form : Work → Option ℕ → Option Form
reading_form work passes = option_map (λ n. Reading work n) passes

abbrev pub signed_form : Option ℕ → Option ℕ → Option Form
signed_form records passes = option_and_then (λ r. option_map (λ n. Signed r n) passes) records

-- what is asked of denying records
abbrev pub judging_in : List ℕ → Option Judging
judging_in word =
    if bytes_eq word (codes "gathered") then Some Gathered
    else if bytes_eq word (codes "listed") then Some Listed
    else if bytes_eq word (codes "indexed") then Some Indexed
    else if bytes_eq word (codes "in-list") then Some InList
    else if bytes_eq word (codes "in-index") then Some InIndex
    else None

abbrev pub denials_form : Option Judging → Option ℕ → Option Form
denials_form judging passes = option_and_then (λ j. reading_form (OnSession (Denials j)) passes) judging

-- what is done as often as is said
abbrev pub repeated_work : List ℕ → Option Work
repeated_work word =
    if bytes_eq word (codes "decode") then Some Decode
    else if bytes_eq word (codes "lookup") then Some (OnSession LookUp)
    else if bytes_eq word (codes "anew") then Some (OnSession LookUpAnew)
    else if bytes_eq word (codes "respond") then Some (OnSession Respond)
    else if bytes_eq word (codes "respond-anew") then Some (OnSession RespondAnew)
    else None

abbrev pub repeated_form : Option Work → Option ℕ → Option Form
repeated_form work passes = option_and_then (λ w. reading_form w passes) work

-- what words ask for: `verdicts`, `signatures`, `forwarded`, `responded`, `decode PASSES`, `lookup PASSES`, `anew PASSES`,
-- `respond PASSES`, `respond-anew PASSES`, `denials JUDGING PASSES`, or `signed RECORDS PASSES` with at most 65535 records
abbrev pub form_in : List (List ℕ) → Option Form
form_in (name ∷ []) =
    if bytes_eq name (codes "verdicts") then Some (Reading (OnSession Verdicts) 1)
    else if bytes_eq name (codes "signatures") then Some (Reading Signatures 1)
    else if bytes_eq name (codes "forwarded") then Some (Reading Replies 1)
    else if bytes_eq name (codes "responded") then Some (Reading Responses 1)
    else None
form_in (name ∷ passes ∷ []) = repeated_form (repeated_work name) (passes_in passes)
form_in (name ∷ what ∷ passes ∷ []) =
    if bytes_eq name (codes "signed") then signed_form (decimal_in 65535 what) (passes_in passes)
    else if bytes_eq name (codes "denials") then denials_form (judging_in what) (passes_in passes)
    else None
form_in words = None

-- what the words of a call ask for
abbrev pub asked_form : {Z : Type 0} → List (Vec ℕ Z) → Option Form
asked_form words = form_in (map (λ w. w.items) words)

-- an input, work without one, or the text for words that are no form
abbrev pub form_asks : Option Form → Asked
form_asks None = FixedText
form_asks (Some (Signed records passes)) = NoInput
form_asks (Some (Reading work passes)) = AnInput

-- the status of work on bytes: 3 where they are no frames, no session, or no lines of signatures or of requests, or no
-- request with a session behind it
abbrev pub EndsWork : Work → List ℕ → ℕ → Type 0
EndsWork Decode bytes status = (status ≡ 0) ⊎ (status ≡ 3)
EndsWork Signatures bytes status = (status ≡ 0) ⊎ (status ≡ 3)
EndsWork Replies bytes status = (status ≡ 0) ⊎ (status ≡ 3)
EndsWork Responses bytes status = (status ≡ 0) ⊎ (status ≡ 3)
EndsWork (OnSession work) bytes status = status ≡ session_status (session_of bytes)

-- a status below 4, by what the words ask for; where a source tells no bytes, by some bytes
abbrev pub EndsAsAsked : Option Form → ℕ → Option (List ℕ) → Option (List ℕ) → Option (List ℕ) → Type 0
EndsAsAsked None status told before now = WritesText status 2 before now bad_words_text
EndsAsAsked (Some (Signed records passes)) status told before now = status < 4 → status ≡ 0
EndsAsAsked (Some (Reading work passes)) status told before now = status < 4 → OfInput told (λ bytes. EndsWork work bytes status)
