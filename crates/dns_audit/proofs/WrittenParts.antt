-- Parts of a report that are written are read as what they were written for.
use Rattle.std.proofs.Common.{◌≡◌, ℕ, zero, suc, ◌+◌, ◌≤◌, Bool, true, false, ◌&&◌, List, [], ◌∷◌, length, map, get_or, codes, Option, None, Some, Result, Ok, refl, ap, ◌∙◌, arith, inl, inr}
use Rattle.std.specs.List.{list_all}
use Rattle.std.specs.Option.{option_map}
use Rattle.std.proofs.lemmas.Bool.{and_parts, cases_Bool}
use Rattle.dns_model.specs.Keys.{bytes_eq}
use Rattle.dns_model.specs.OptionSteps as steps
use Rattle.dns_model.specs.Trails.{JudgedSetValue}
use Rattle.dns_model.specs.declared.section.Section.{Section}
use Rattle.dns_model.specs.declared.section.Section.TheVariants.{Answer, Authority, Additional}
use Rattle.dns_session.specs.LinePlaces.{Place, place, one, optional, many_in}
use Rattle.dns_session.specs.Lines.{Words, after, words}
use Rattle.dns_report.specs.LineWords.{section_word}
use Rattle.dns_report.specs.Fields.{is_u32}
use Rattle.dns_report.specs.View.{Shown, ChainView, fitting_link, fitting_chain}
use Rattle.dns_report.specs.TrailView.{HeardView, Records, Fault, StepView, fitting_told, fitting_heard, fitting_set, fitting_step, fitting_trail}
use Rattle.dns_text.proofs.LineShapes.{Line, is_line}
use Rattle.dns_report.proofs.LineBlocks.{Block, blocks, one_line, starts, named}
use Rattle.dns_report.proofs.ReportLines.{link_of, front_of, chain_lines, last}
use Rattle.dns_report.proofs.LinkLaws.{fits_chain, chain_good}
use Rattle.dns_report.proofs.StepLines.{step_of, got_of, told_of, told_in, told_lines, set_of, ending_of, judged_lines, step_lines, count_of, trail_lines}
use Rattle.dns_report.proofs.StepLaws.{is_told, told_good, Untold, additionals_start, others_start, fits_records, set_good, ending_line_good, judged_untold, fits_step, fits_trail}
use Rattle.dns_audit.specs.ReportLines.{chain_line, link_line, trail_line, step_line, got_line, told_line, set_in, set_line, ending_line}
use Rattle.dns_audit.specs.ReportGrammar.{times, chain_after, chains_in, told_at, step_at, trail_at}
use Rattle.dns_audit.specs.Written.{link_shown, chain_shown, told_shown, heard_shown, step_shown, short_link, short_chain, short_told, short_heard, short_step, short_trail}
use Rattle.dns_session.proofs.WordLines.{joined, line_words}
use Rattle.dns_audit.proofs.WrittenLines.{left_of, read_line, one_line_read, Stops, none_read, stop_many, more_many}
use Rattle.dns_audit.proofs.WrittenForms.{told_by, front_reads, link_reads, count_reads, step_reads, got_shown, got_reads, told_reads, set_reads, ending_reads}

-- ---- what a part reads

-- a part reads a value from lines, and leaves those after them
pub record Reads {X : Type 0} (part : Place → Result (X × Place) ℕ) (number : ℕ) (ls more : List Line)
    (x : X) : Type 0 where
  pub next : ℕ
  pub reads : part (place number (left_of ls)) ≡ Ok (x, place next (left_of more))

-- as many lines of a form as there are
pub record Many {X : Type 0} (form : List ℕ → Option X) (number : ℕ) (ls more : List Line) (xs : List X) : Type 0 where
  pub next : ℕ
  pub reads : many_in form number (left_of ls) ≡ (xs, place next (left_of more))

-- the line of each value says it
abbrev pub AllSay : {A X : Type 0} → (List ℕ → Option X) → (A → Line) → (A → X) → List A → Type 0
AllSay form line_of value [] = Unit {0}
AllSay form line_of value (v ∷ vs) = (form (joined (line_of v)) ≡ Some (value v)) × AllSay form line_of value vs

pub all_say : {A X : Type 0} (form : List ℕ → Option X) (line_of : A → Line) (value : A → X) (fits short : A → Bool)
    → ((v : A) → fits v ≡ true → short v ≡ true → form (joined (line_of v)) ≡ Some (value v))
    → (vs : List A) → list_all fits vs ≡ true → list_all short vs ≡ true → AllSay form line_of value vs
all_say form line_of value fits short one [] h s = tt
all_say form line_of value fits short one (v ∷ vs) h s =
    let parts = and_parts (fits v) (list_all fits vs) h in
    let sizes = and_parts (short v) (list_all short vs) s in
    (one v parts.0 sizes.0, all_say form line_of value fits short one vs parts.1 sizes.1)

abbrev with_first : {X : Type 0} → X → List X × Place → List X × Place
with_first x read = (x ∷ read.0, read.1)

pub many_reads : {A X : Type 0} (form : List ℕ → Option X) (line_of : A → Line) (value : A → X) (vs : List A)
    (more : List Line)
    → AllSay form line_of value vs → Stops form more → (number : ℕ)
    → Many form number (blocks (one_line line_of) vs more) more (map value vs)
many_reads form line_of value [] more say stops number = record
    { next = number; reads = stop_many form number more stops }
many_reads form line_of value (v ∷ vs) more say stops number =
    let rest = many_reads form line_of value vs more say.1 stops (number + 1) in
    record {
      next = rest.next;
      reads = more_many form number (line_of v) (blocks (one_line line_of) vs more) (value v) say.0
          ∙ ap (with_first (value v)) rest.reads;
    }

-- each value is read from its lines, whatever follows
abbrev pub AllRead : {A X : Type 0} → (Place → Result (X × Place) ℕ) → Block A → (A → X) → List A → Type 0
AllRead part block value [] = Unit {0}
AllRead part block value (v ∷ vs) =
    ((more : List Line) (number : ℕ) → Reads part number (block v more) more (value v)) × AllRead part block value vs

pub all_read : {A X : Type 0} (part : Place → Result (X × Place) ℕ) (block : Block A) (value : A → X)
    (fits short : A → Bool)
    → ((v : A) → fits v ≡ true → short v ≡ true → (more : List Line) (number : ℕ)
    → Reads part number (block v more) more (value v))
    → (vs : List A) → list_all fits vs ≡ true → list_all short vs ≡ true → AllRead part block value vs
all_read part block value fits short one [] h s = tt
all_read part block value fits short one (v ∷ vs) h s =
    let parts = and_parts (fits v) (list_all fits vs) h in
    let sizes = and_parts (short v) (list_all short vs) s in
    (one v parts.0 sizes.0, all_read part block value fits short one vs parts.1 sizes.1)

pub times_reads : {A X : Type 0} (part : Place → Result (X × Place) ℕ) (block : Block A) (value : A → X) (vs : List A)
    (more : List Line)
    → AllRead part block value vs → (number : ℕ)
    → Reads (times part (length vs)) number (blocks block vs more) more (map value vs)
unfolding times
times_reads part block value [] more read number = record { next = number; reads = refl }
times_reads part block value (v ∷ vs) more read number =
    let first = read.0 (blocks block vs more) number in
    let rest = times_reads part block value vs more read.1 first.next in
    record { next = rest.next; reads = rw (first.reads, rest.reads) refl }

-- ---- which line comes next

-- the first line is one of words
abbrev pub FirstGood : List Line → Type 0
FirstGood [] = Unit {0}
FirstGood (l ∷ ls) = is_line l ≡ true

pub blocks_first : {A : Type 0} (line_of : A → Line) (fits : A → Bool)
    → ((v : A) → fits v ≡ true → is_line (line_of v) ≡ true)
    → (vs : List A) (more : List Line) → list_all fits vs ≡ true → FirstGood more
    → FirstGood (blocks (one_line line_of) vs more)
blocks_first line_of fits one [] more h good = good
blocks_first line_of fits one (v ∷ vs) more h good = one v (and_parts (fits v) (list_all fits vs) h).0

abbrev after_by : {X : Type 0} → List ℕ → (Words → Option X) → Words → Option X
after_by word then ws = steps.◌>>=◌ (after word ws) then

abbrev pub after_word : {X : Type 0} → List ℕ → (Words → Option X) → List ℕ → Option X
after_word word then line = after_by word then (words line)

-- a line that begins otherwise hasn't the form
pub named_stops : {X : Type 0} (word : List ℕ) (then : Words → Option X) (ls : List Line) → FirstGood ls
    → starts (named word) ls ≡ false → Stops (after_word word then) ls
named_stops word then [] good other = tt
named_stops word then (l ∷ ls) good other = ap (after_by word then) (line_words l good) ∙ rw other refl

told_other : (section : Section) (w : List ℕ) (ws : Words)
    → (bytes_eq w (codes "told") && bytes_eq (get_or ws 0 []) (section_word section)) ≡ false
    → steps.◌>>=◌ (after (codes "told") (w ∷ ws)) (after (section_word section)) ≡ None
told_other section w ws h =
    elim (cases_Bool (bytes_eq w (codes "told"))) [
      | inl is ↦
          let second : bytes_eq (get_or ws 0 []) (section_word section) ≡ false = rw is at h in
          rw is (section_other section ws second)
      | inr isnt ↦ rw isnt refl
    ]
  where
    section_other : (section : Section) (ws : Words) → bytes_eq (get_or ws 0 []) (section_word section) ≡ false
        → after (section_word section) ws ≡ None
    section_other section [] h = refl
    section_other section (v ∷ vs) h = let apart : bytes_eq v (section_word section) ≡ false = h in rw apart refl

told_stops : (section : Section) (ls : List Line) → FirstGood ls → starts (is_told section) ls ≡ false
    → Stops (told_line section) ls
told_stops section [] good other = tt
told_stops section (l ∷ ls) good other =
    ap (told_by section) (line_words l good) ∙ rw (told_other section l.0 l.1 other) refl

-- ---- chains

link_part : (l : Shown) → fitting_link l ≡ true → short_link l ≡ true → (more : List Line) (number : ℕ)
    → Reads (one link_line) number (one_line link_of l more) more (link_shown l)
link_part l h short more number =
    record {
      next = number + 1;
      reads = one_line_read link_line number (link_of l) more (link_shown l)
          (link_reads l h short);
    }

pub front_good : (c : ChainView) → fitting_chain c ≡ true → is_line (front_of c) ≡ true
front_good c h = (and_parts (is_line (front_of c)) (list_all is_line (blocks (one_line link_of) c.links []))
    (chain_good c [] h refl)).0

longer_links : (ls : List Shown) (more : List Line)
    → length (left_of more) ≤ length (left_of (blocks (one_line link_of) ls more))
longer_links [] more = omega arith
longer_links (l ∷ ls) more = let rest = longer_links ls more in omega (arith, rest)

-- each chain has a line
pub longer_chains : (cs : List ChainView) (more : List Line) → length cs ≤ length (left_of (blocks chain_lines cs more))
longer_chains [] more = omega arith
longer_chains (c ∷ cs) more =
    let rest = longer_chains cs more in
    let links = longer_links c.links (blocks chain_lines cs more) in
    omega (arith, rest, links)

pub chains_read : (cs : List ChainView) (more : List Line) → list_all fitting_chain cs ≡ true
    → list_all short_chain cs ≡ true
    → Stops chain_line more → (n : ℕ) → length cs ≤ n → (number : ℕ)
    → Reads (chains_in n) number (blocks chain_lines cs more) more (map chain_shown cs)
unfolding chains_in chain_after
chains_read [] more h short stops zero most number = record { next = number; reads = refl }
chains_read [] more h short stops (suc n) most number =
    record { next = number; reads = rw (none_read chain_line number more stops) refl }
chains_read (c ∷ cs) more h short stops zero most number = absurd (omega (arith, most))
chains_read (c ∷ cs) more h short stops (suc n) most number =
    let parts = and_parts (fitting_chain c) (list_all fitting_chain cs) h in
    let sizes = and_parts (short_chain c) (list_all short_chain cs) short in
    let size = and_parts (is_u32 (length c.links)) (list_all short_link c.links) sizes.0 in
    let f = fits_chain c parts.0 in
    let rest = blocks chain_lines cs more in
    let head = read_line chain_line number (front_of c) (blocks (one_line link_of) c.links rest)
    (record { section = c.section; count = length c.links }) (front_reads c size.0 (front_good c parts.0)) in
    let links = times_reads (one link_line) (one_line link_of) link_shown c.links rest
    (all_read (one link_line) (one_line link_of) link_shown fitting_link short_link link_part c.links f.links size.1)
    (number + 1) in
    let others = chains_read cs more parts.1 sizes.1 stops n (omega (arith, most)) links.next in
    record { next = others.next; reads = rw (head, links.reads, others.reads) refl }

-- ---- steps

told_part : (reply : HeardView) (more : List Line) → fitting_heard reply ≡ true → short_heard reply ≡ true → Untold more
    → FirstGood more → (number : ℕ)
    → (next : ℕ) × (told_at (got_shown reply) (place number (left_of (told_lines reply more)))
    ≡ (heard_shown reply, place next (left_of more)))
told_part Fault more h short untold good number = (number, refl)
told_part (Records code empty a u n) more h short untold good number =
    let f = fits_records code empty a u n h in
    let s = and_parts (list_all short_told a) (list_all short_told u && list_all short_told n) short in
    let t = and_parts (list_all short_told u) (list_all short_told n) s.1 in
    let third = told_in Additional n more in
    let second = told_in Authority u third in
    let good_third = blocks_first (told_of Additional) fitting_told (told_good Additional) n more f.third good in
    let good_second = blocks_first (told_of Authority) fitting_told (told_good Authority) u third f.second good_third in
    let answers = many_reads (told_line Answer) (told_of Answer) told_shown a second
    (all_say (told_line Answer) (told_of Answer) told_shown fitting_told short_told (told_reads Answer) a f.first s.0)
    (told_stops Answer second good_second (others_start u n more untold)) number in
    let authorities = many_reads (told_line Authority) (told_of Authority) told_shown u third
    (all_say (told_line Authority) (told_of Authority) told_shown fitting_told short_told (told_reads Authority) u
    f.second t.0)
    (told_stops Authority third good_third (additionals_start n more untold)) answers.next in
    let additionals = many_reads (told_line Additional) (told_of Additional) told_shown n more
    (all_say (told_line Additional) (told_of Additional) told_shown fitting_told short_told (told_reads Additional) n
    f.third t.1)
    (told_stops Additional more good untold.additionals) authorities.next in
    (additionals.next, rw (answers.reads, authorities.reads, additionals.reads) refl)

always : JudgedSetValue → Bool
always s = true

all_always : (ss : List JudgedSetValue) → list_all always ss ≡ true
unfolding always
all_always [] = refl
all_always (s ∷ ss) = all_always ss

sets_say : (ss : List JudgedSetValue) → list_all fitting_set ss ≡ true → AllSay set_line set_of (λ s. s) ss
sets_say ss h = all_say set_line set_of (λ s. s) fitting_set always (λ s fits yes. set_reads s fits) ss h
    (all_always ss)

pub map_same : {X : Type 0} (xs : List X) → map (λ x. x) xs ≡ xs
map_same [] = refl
map_same (x ∷ xs) = ap (λ ys. x ∷ ys) (map_same xs)

pub step_part : (s : StepView) → fitting_step s ≡ true → short_step s ≡ true → (more : List Line) (number : ℕ)
    → Reads step_at number (step_lines s more) more (step_shown s)
unfolding step_at
step_part s h short more number =
    let f = fits_step s h in
    let end = ending_of s.ending s.excuse in
    let ends : is_line end ≡ true = ending_line_good s.ending s.excuse f.ending f.excuse in
    let judged = judged_lines s more in
    let good = blocks_first set_of fitting_set set_good s.sets (end ∷ more) f.sets ends in
    let head = one_line_read step_line number (step_of s) (got_of s.reply ∷ told_lines s.reply judged) _
    (step_reads s f) in
    let got = one_line_read got_line (number + 1) (got_of s.reply) (told_lines s.reply judged) (got_shown s.reply)
    (got_reads s.reply f.reply) in
    let told = told_part s.reply judged f.reply short (judged_untold s more) good (number + 1 + 1) in
    let sets = many_reads set_line set_of (λ t. t) s.sets (end ∷ more) (sets_say s.sets f.sets)
    (named_stops (codes "set") set_in (end ∷ more) ends refl) told.0 in
    let last = one_line_read ending_line sets.next end more _ (ending_reads s.ending s.excuse f.ending f.excuse) in
    record { next = sets.next + 1; reads = rw (head, got, told.1, sets.reads, map_same s.sets, last) refl }

pub trail_reads : (trail : Option (List StepView)) → fitting_trail trail ≡ true → short_trail trail ≡ true
    → (number : ℕ)
    → Reads trail_at number (trail_lines trail last) last (option_map (λ steps. map step_shown steps) trail)
unfolding optional
trail_reads None h short number =
    record { next = number; reads = refl }
trail_reads (Some steps) h short number =
    let f = fits_trail steps h in
    let size = and_parts (is_u32 (length steps)) (list_all short_step steps) short in
    let head = read_line trail_line number (count_of steps) (blocks step_lines steps last) (length steps)
    (count_reads steps size.0) in
    let read = times_reads step_at step_lines step_shown steps last
    (all_read step_at step_lines step_shown fitting_step short_step step_part steps f.each size.1) (number + 1) in
    record { next = read.next; reads = rw (head, read.reads) refl }
