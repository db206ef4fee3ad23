-- Parts of a report that are read have the lines that would be written, but that names may be spelled in another way.
use Rattle.std.proofs.Common.{◌≡◌, ℕ, zero, suc, ◌+◌, ◌^◌, Bool, true, nat_lt, List, [], ◌∷◌, length, map, codes, Option, None, Some, Result, Ok, refl, sym, ap, subst, arith}
use Rattle.std.specs.Fmt.{decimal}
use Rattle.std.specs.List.{list_all}
use Rattle.std.specs.Option.{option_map, option_map_or}
use Rattle.std.proofs.lemmas.Bool.{ltb-true, lt-ltb}
use Rattle.dns_model.specs.Gives.{or_error}
use Rattle.dns_model.specs.SoundAnswers.{ChainValue}
use Rattle.dns_model.specs.Trails.{HeardValue, AskedValue, JudgedSetValue}
use Rattle.dns_model.specs.declared.section.Section.{Section}
use Rattle.dns_model.specs.declared.section.Section.TheVariants.{Answer, Authority, Additional}
use Rattle.dns_session.specs.LinePlaces.{Place, place, read_next, one, optional, many, many_in, before_more}
use Rattle.dns_session.specs.Lines.{Words, words}
use Rattle.dns_report.specs.Fields.{is_u32}
use Rattle.dns_report.specs.LineWords.{section_word}
use Rattle.dns_report.specs.View.{shown_link, chain_view, fitting_link, fitting_chain}
use Rattle.dns_report.specs.TrailView.{StepView, unmarked, heard_view, step_view, fitting_told, fitting_heard, fitting_set, fitting_step, fitting_trail}
use Rattle.dns_text.proofs.LineShapes.{Line}
use Rattle.dns_report.proofs.LineBlocks.{Block, blocks, one_line}
use Rattle.dns_report.proofs.ReportLines.{link_of, chain_lines}
use Rattle.dns_report.proofs.StepLines.{step_of, got_of, told_of, told_in, told_lines, set_of, ending_of, judged_lines, step_lines, trail_lines}
use Rattle.dns_audit.specs.ReportValue.{ChainHead, GotValue, Code, NoReply}
use Rattle.dns_audit.specs.ReportLines.{chain_line, link_line, trail_line, step_line, got_line, told_line, set_line, ending_line}
use Rattle.dns_audit.specs.ReportGrammar.{times, chain_after, chain_and_more, chains_in, told_at, step_at, steps_at, trail_at}
use Rattle.dns_audit.specs.Written.{short_link, short_chain, short_told, short_heard, short_step, short_trail}
use Rattle.dns_audit.specs.Respelled.{WordsRespell}
use Rattle.dns_audit.proofs.FromSteps.{given, same_ok}
use Rattle.dns_audit.proofs.ReadLines.{Says, link_from}
use Rattle.dns_audit.proofs.ReadTrailLines.{chain_from, count_from, step_from, got_spelled, got_fits, got_from, told_from, set_from, ending_from}
use Rattle.dns_audit.proofs.WrittenParts.{map_same}

-- pieces of a text have the words of these lines, one by one, and no byte behind the last
abbrev pub Tell : List (List ℕ) → List Line → Type 0
Tell [] ls = ⊥
Tell (p ∷ ps) [] = p ∷ ps ≡ [] ∷ []
Tell (p ∷ ps) (l ∷ ls) = WordsRespell (words p) (l.0 ∷ l.1) × Tell ps ls

-- ---- one line

-- one line of a form was read
pub record OneLine {X : Type 0} (form : List ℕ → Option X) (at : Place) (read : X × Place) : Type 0 where
  pub line : List ℕ
  pub says : form line ≡ Some read.0
  pub cut : at.pieces ≡ line ∷ read.1.pieces

next_by : {X : Type 0} (form : List ℕ → Option X) (number : ℕ) (l k : List ℕ) (rest : List (List ℕ)) (read : X × Place)
    → (said : Option X) → form l ≡ said
    → option_map (λ (x : X). (x, place (number + 1) (k ∷ rest))) said ≡ Some read
    → OneLine form (place number (l ∷ k ∷ rest)) read
next_by {X} form number l k rest read None e h = cc
next_by {X} form number l k rest read (Some x) e h =
    subst (OneLine form (place number (l ∷ k ∷ rest))) (same_pair x (place (number + 1) (k ∷ rest)) read h)
    (record { line = l; says = e; cut = refl })
  where
    same_pair : {X : Type 0} (x : X) (at : Place) (read : X × Place)
        → ◌≡◌ {A = Option (X × Place)} (Some (x, at)) (Some read) → ◌≡◌ {A = X × Place} (x, at) read
    same_pair {X} x at read h = ap (λ (o : Option (X × Place)). option_map_or (λ (r : X × Place). r) o (x, at)) h

next_read : {X : Type 0} (form : List ℕ → Option X) (number : ℕ) (ps : List (List ℕ)) (read : X × Place)
    → read_next form (place number ps) ≡ Some read → OneLine form (place number ps) read
next_read form number [] read h = cc
next_read form number (l ∷ []) read h = cc
next_read form number (l ∷ k ∷ rest) read h = next_by form number l k rest read (form l) refl h

or_error_ok : {X : Type 0} (number : ℕ) (o : Option X) (x : X) → or_error number o ≡ Ok x → o ≡ Some x
or_error_ok number None x h = cc
or_error_ok number (Some y) x h = ap Some (same_ok y x h)

pub one_read : {X : Type 0} (form : List ℕ → Option X) (at : Place) (read : X × Place) → one form at ≡ Ok read
    → OneLine form at read
unfolding one
one_read form at read h = next_read form at.number at.pieces read (or_error_ok at.number (read_next form at) read h)

-- the pieces from a line that was read on
pub one_tells : {X : Type 0} (form : List ℕ → Option X) (at : Place) (read : X × Place) (l : Line) (more : List Line)
    → one form at ≡ Ok read
    → ((line : List ℕ) → form line ≡ Some read.0 → WordsRespell (words line) (l.0 ∷ l.1))
    → Tell read.1.pieces more → Tell at.pieces (l ∷ more)
one_tells form at read l more h each rest =
    let r = one_read form at read h in
    subst (λ (ps : List (List ℕ)). Tell ps (l ∷ more)) (sym r.cut) (each r.line r.says, rest)

-- ---- lines of values

-- the line of each value that a form reads has its words, and the value fits and is short
abbrev pub EachSays : {A X : Type 0} → (List ℕ → Option X) → (A → Line) → (X → A) → (A → Bool) → (A → Bool) → Type 0
EachSays {A} {X} form line_of view fits short =
    (line : List ℕ) (x : X) → form line ≡ Some x → Says (words line) (line_of (view x)) (fits (view x)) (short (view x))

-- what was read of a part: its values fit and are short, and where lines follow that tell the rest, theirs tell the
-- whole
pub record Back {A X : Type 0} (block : Block A) (view : X → A) (is_fit is_small : A → Bool)
    (before after : List (List ℕ)) (xs : List X) : Type 0 where
  pub tells : (more : List Line) → Tell after more → Tell before (blocks block (map view xs) more)
  pub fits : list_all is_fit (map view xs) ≡ true
  pub short : list_all is_small (map view xs) ≡ true

abbrev ManyBack : {A X : Type 0} → (A → Line) → (X → A) → (A → Bool) → (A → Bool) → List (List ℕ) → List X × Place
    → Type 0
ManyBack line_of view fits short before read = Back (one_line line_of) view fits short before read.1.pieces read.0

many_at : {A X : Type 0} (form : List ℕ → Option X) (line_of : A → Line) (view : X → A) (fits short : A → Bool)
    → EachSays form line_of view fits short → (number : ℕ) (ps : List (List ℕ))
    → ManyBack line_of view fits short ps (many_in form number ps)
unfolding many_in
many_at form line_of view fits short each number [] = record { tells = λ more h. h; fits = refl; short = refl }
many_at form line_of view fits short each number (l ∷ []) = record { tells = λ more h. h; fits = refl; short = refl }
many_at {A} {X} form line_of view fits short each number (l ∷ k ∷ rest) =
    many_by (many_in form (number + 1) (k ∷ rest)) (many_at form line_of view fits short each (number + 1) (k ∷ rest))
    (form l) refl
  where
    many_by : (others : List X × Place) → ManyBack line_of view fits short (k ∷ rest) others → (said : Option X)
        → form l ≡ said
        → ManyBack line_of view fits short (l ∷ k ∷ rest) (before_more said (place number (l ∷ k ∷ rest)) others)
    many_by others back None e = record { tells = λ more h. h; fits = refl; short = refl }
    many_by others back (Some x) e =
        let says = each l x e in
        record {
          tells = λ more h. (says.alike, back.tells more h);
          fits = rw says.fits back.fits;
          short = rw says.short back.short;
        }

pub many_back : {A X : Type 0} (form : List ℕ → Option X) (line_of : A → Line) (view : X → A) (fits short : A → Bool)
    → EachSays form line_of view fits short → (at : Place)
    → Back (one_line line_of) view fits short at.pieces (many form at).1.pieces (many form at).0
many_back form line_of view fits short each at = many_at form line_of view fits short each at.number at.pieces

-- what was read of one part
pub record PartBack {A : Type 0} (block : Block A) (is_fit is_small : A → Bool) (before after : List (List ℕ))
    (v : A) : Type 0 where
  pub tells : (more : List Line) → Tell after more → Tell before (block v more)
  pub fits : is_fit v ≡ true
  pub short : is_small v ≡ true

-- each part that is read is told by its lines
abbrev pub EachBack : {A X : Type 0} → (Place → Result (X × Place) ℕ) → Block A → (X → A) → (A → Bool) → (A → Bool)
    → Type 0
EachBack {A} {X} part block view fits short =
    (at : Place) (read : X × Place) → part at ≡ Ok read
    → PartBack block fits short at.pieces read.1.pieces (view read.0)

-- so many parts were read
pub record TimesBack {A X : Type 0} (block : Block A) (view : X → A) (fits short : A → Bool)
    (before after : List (List ℕ)) (count : ℕ) (xs : List X) : Type 0 where
  pub back : Back block view fits short before after xs
  pub size : length (map view xs) ≡ count

-- what is read of so many parts is told by their lines
abbrev pub TimesRead : {A X : Type 0} → (Place → Result (X × Place) ℕ) → Block A → (X → A) → (A → Bool) → (A → Bool) → ℕ
    → Type 0
TimesRead {A} {X} part block view fits short n =
    (at : Place) (read : List X × Place) → times part n at ≡ Ok read
    → TimesBack block view fits short at.pieces read.1.pieces n read.0

pub times_back : {A X : Type 0} (part : Place → Result (X × Place) ℕ) (block : Block A) (view : X → A)
    (fits short : A → Bool) → EachBack part block view fits short → (n : ℕ) → TimesRead part block view fits short n
unfolding times
times_back {A} {X} part block view fits short each zero at read h =
    subst (λ (r : List X × Place). TimesBack block view fits short at.pieces r.1.pieces 0 r.0) (same_ok ([], at) read h)
    (record { back = record { tells = λ more h. h; fits = refl; short = refl }; size = refl })
times_back {A} {X} part block view fits short each (suc n) at read h =
    let first = given (part at) _ read h in
    let others = given (times part n first.value.1) _ read first.gives in
    let one = each at first.value first.was in
    let rest = times_back part block view fits short each n first.value.1 others.value others.was in
    let size : length (map view others.value.0) ≡ n = rest.size in
    subst (λ (r : List X × Place). TimesBack block view fits short at.pieces r.1.pieces (suc n) r.0)
    (same_ok _ read others.gives)
    (record {
      back = record {
        tells = λ more h. one.tells (blocks block (map view others.value.0) more) (rest.back.tells more h);
        fits = rw one.fits rest.back.fits;
        short = rw one.short rest.back.short;
      };
      size = omega (arith, size);
    })

-- ---- chains

link_back : EachBack (one link_line) (one_line link_of) shown_link fitting_link short_link
link_back at read h =
    let r = one_read link_line at read h in
    let says = link_from (words r.line) read.0 r.says in
    record {
      tells = λ more rest.
          one_tells link_line at read (link_of (shown_link read.0)) more h
          (λ line e. (link_from (words line) read.0 e).alike) rest;
      fits = says.fits;
      short = says.short;
    }

abbrev ChainBack : List (List ℕ) → ChainValue × Place → Type 0
ChainBack before read = PartBack chain_lines fitting_chain short_chain before read.1.pieces (chain_view read.0)

-- a count of 32 bits is less than 2^64
small_count : (n : ℕ) → is_u32 n ≡ true → nat_lt n (2 ^ 64) ≡ true
small_count n h = let lt = ltb-true n (2 ^ 32) h in lt-ltb n (2 ^ 64) (omega (arith, lt))

-- a chain after the line before its links
chain_back : (at : Place) (head : ChainHead × Place) (read : ChainValue × Place) → OneLine chain_line at head
    → chain_after head.0 head.1 ≡ Ok read → ChainBack at.pieces read
unfolding chain_after
chain_back at head read front h =
    let says = chain_from (words front.line) head.0 front.says in
    let links = given (times (one link_line) head.0.count head.1) _ read h in
    let back = times_back (one link_line) (one_line link_of) shown_link fitting_link short_link link_back head.0.count
    head.1 links.value links.was in
    let count : is_u32 (length (map shown_link links.value.0)) ≡ true = rw back.size says.count in
    subst (ChainBack at.pieces) (same_ok _ read links.gives)
    (record {
      tells = λ more rest.
          subst (λ (ps : List (List ℕ)). Tell ps
          (chain_lines (chain_view (record { section = head.0.section; links = links.value.0 })) more))
          (sym front.cut) (
            subst (λ (n : ℕ). WordsRespell (words front.line)
                (codes "chain" ∷ section_word head.0.section ∷ decimal n ∷ [])) (sym back.size) says.alike,
            back.back.tells more rest,
          );
      fits = rw (small_count (length (map shown_link links.value.0)) count) back.back.fits;
      short = rw count back.back.short;
    })

abbrev ChainsBack : List (List ℕ) → List ChainValue × Place → Type 0
ChainsBack before read = Back chain_lines chain_view fitting_chain short_chain before read.1.pieces read.0

chains_by : (n : ℕ) (at : Place) (read : List ChainValue × Place)
    → ((at : Place) (read : List ChainValue × Place) → chains_in n at ≡ Ok read → ChainsBack at.pieces read)
    → (next : Option (ChainHead × Place)) → read_next chain_line at ≡ next
    → chain_and_more next at (chains_in n) ≡ Ok read → ChainsBack at.pieces read
chains_by n at read later None e h =
    subst (ChainsBack at.pieces) (same_ok ([], at) read h) (record { tells = λ more h. h; fits = refl; short = refl })
chains_by n at read later (Some head) e h =
    let chain = given (chain_after head.0 head.1) _ read h in
    let others = given (chains_in n chain.value.1) _ read chain.gives in
    let one = chain_back at head chain.value (next_read chain_line at.number at.pieces head e) chain.was in
    let rest = later chain.value.1 others.value others.was in
    subst (ChainsBack at.pieces) (same_ok _ read others.gives)
    (record {
      tells = λ more h. one.tells (blocks chain_lines (map chain_view others.value.0) more) (rest.tells more h);
      fits = rw one.fits rest.fits;
      short = rw one.short rest.short;
    })

pub chains_back : (n : ℕ) (at : Place) (read : List ChainValue × Place) → chains_in n at ≡ Ok read
    → ChainsBack at.pieces read
unfolding chains_in
chains_back zero at read h =
    subst (ChainsBack at.pieces) (same_ok ([], at) read h) (record { tells = λ more h. h; fits = refl; short = refl })
chains_back (suc n) at read h = chains_by n at read (chains_back n) (read_next chain_line at) refl h

-- ---- steps

told_back : (section : Section) (at : Place)
    → Back (one_line (told_of section)) unmarked fitting_told short_told at.pieces
    (many (told_line section) at).1.pieces (many (told_line section) at).0
told_back section = many_back (told_line section) (told_of section) unmarked fitting_told short_told
    (λ line r h. told_from section (words line) r h)

-- what was heard of a reply
record HeardBack (got : GotValue) (before : List (List ℕ)) (read : HeardValue × Place) : Type 0 where
  spelled : got_spelled got ≡ (got_of (heard_view read.0)).1
  tells : (more : List Line) → Tell read.1.pieces more → Tell before (told_lines (heard_view read.0) more)
  fits : fitting_heard (heard_view read.0) ≡ true
  short : short_heard (heard_view read.0) ≡ true

heard_back : (got : GotValue) (at : Place) → got_fits got ≡ true → HeardBack got at.pieces (told_at got at)
heard_back NoReply at h = record { spelled = refl; tells = λ more rest. rest; fits = refl; short = refl }
heard_back (Code code empty) at h =
    let answers = many (told_line Answer) at in
    let authorities = many (told_line Authority) answers.1 in
    let additionals = many (told_line Additional) authorities.1 in
    let a = told_back Answer at in
    let u = told_back Authority answers.1 in
    let n = told_back Additional authorities.1 in
    record {
      spelled = refl;
      tells = λ more rest.
          let third = told_in Additional (map unmarked additionals.0) more in
          let second = told_in Authority (map unmarked authorities.0) third in
          a.tells second (u.tells third (n.tells more rest));
      fits = rw (h, a.fits, u.fits) n.fits;
      short = rw (a.short, u.short) n.short;
    }

sets_back : (at : Place)
    → Back (one_line set_of) (λ (s : JudgedSetValue). s) fitting_set (λ s. true) at.pieces (many set_line at).1.pieces
    (many set_line at).0
sets_back = many_back set_line set_of (λ s. s) fitting_set (λ s. true) (λ line s h. set_from_line line s h)
  where
    set_from_line : (line : List ℕ) (s : JudgedSetValue) → set_line line ≡ Some s
        → Says (words line) (set_of s) (fitting_set s) true
    set_from_line line s h = set_from (words line) s h

abbrev StepBack : List (List ℕ) → AskedValue × Place → Type 0
StepBack before read = PartBack step_lines fitting_step short_step before read.1.pieces (step_view read.0)

step_back : EachBack step_at step_lines step_view fitting_step short_step
unfolding step_at
step_back at read h =
    let head = given (one step_line at) _ read h in
    let got = given (one got_line head.value.1) _ read head.gives in
    let told = told_at got.value.0 got.value.1 in
    let sets = many set_line told.1 in
    let last = given (one ending_line sets.1) _ read got.gives in
    let hl = one_read step_line at head.value head.was in
    let gl = one_read got_line head.value.1 got.value got.was in
    let el = one_read ending_line sets.1 last.value last.was in
    let hs = step_from (words hl.line) head.value.0 hl.says in
    let gs = got_from (words gl.line) got.value.0 gl.says in
    let es = ending_from (words el.line) last.value.0 el.says in
    let heard = heard_back got.value.0 got.value.1 gs.1 in
    let judged = sets_back told.1 in
    let same_sets : map (λ (s : JudgedSetValue). s) sets.0 ≡ sets.0 = map_same sets.0 in
    let sets_fit : list_all fitting_set sets.0 ≡ true =
    subst (λ (ss : List JudgedSetValue). list_all fitting_set ss ≡ true) same_sets judged.fits in
    let end : Line = ending_of last.value.0.ending last.value.0.excuse in
    let it : AskedValue = record {
      depth = head.value.0.depth;
      judged = head.value.0.judged;
      query = head.value.0.query;
      reply = told.0;
      sets = sets.0;
      ending = last.value.0.ending;
      excuse = last.value.0.excuse;
    } in
    let view : StepView = step_view it in
    let tells : (more : List Line) → Tell last.value.1.pieces more
    → Tell at.pieces (step_lines view more) = λ more rest.
    let ended : Tell sets.1.pieces (end ∷ more) =
    one_tells ending_line sets.1 last.value end more last.was
    (λ line e. (ending_from (words line) last.value.0 e).alike) rest in
    let set_lines : Tell told.1.pieces (blocks (one_line set_of) sets.0 (end ∷ more)) =
    subst (λ (ss : List JudgedSetValue). Tell told.1.pieces (blocks (one_line set_of) ss (end ∷ more))) same_sets
    (judged.tells (end ∷ more) ended) in
    let told_all : Tell got.value.1.pieces (told_lines (heard_view told.0) (judged_lines view more)) =
    heard.tells (judged_lines view more) set_lines in
    let got_all : Tell head.value.1.pieces
    (got_of (heard_view told.0) ∷ told_lines (heard_view told.0) (judged_lines view more)) =
    one_tells got_line head.value.1 got.value (got_of (heard_view told.0))
    (told_lines (heard_view told.0) (judged_lines view more)) got.was
    (λ line e. subst (λ (ws : Words). WordsRespell (words line) (codes "got" ∷ ws)) heard.spelled
    (got_from (words line) got.value.0 e).0)
    told_all in
    one_tells step_line at head.value (step_of view)
    (got_of (heard_view told.0) ∷ told_lines (heard_view told.0) (judged_lines view more))
    head.was (λ line e. (step_from (words line) head.value.0 e).alike) got_all in
    subst (StepBack at.pieces) (same_ok (it, last.value.1) read last.gives)
    (record {
      tells = tells;
      fits = rw (hs.depth, hs.owner, hs.rtype, heard.fits, sets_fit, es.ending) es.excuse;
      short = heard.short;
    })

-- ---- a trail

abbrev TrailBack : List (List ℕ) → Option (List AskedValue) × Place → Type 0
TrailBack before read =
    PartBack trail_lines fitting_trail short_trail before read.1.pieces
    (option_map (λ steps. map step_view steps) read.0)

-- a number that may be missing, and the place after it
abbrev counted : Place → Option (ℕ × Place) → Option ℕ × Place
counted start next = option_map_or (λ (x : ℕ × Place). (Some x.0, x.1)) next (None, start)

trail_by : (start : Place) (read : Option (List AskedValue) × Place) (next : Option (ℕ × Place))
    → read_next trail_line start ≡ next
    → steps_at (counted start next).0 (counted start next).1 ≡ Ok read
    → TrailBack start.pieces read
trail_by start read None e h =
    subst (TrailBack start.pieces) (same_ok (None, start) read h)
    (record { tells = λ more rest. rest; fits = refl; short = refl })
trail_by start read (Some count) e h =
    let front = next_read trail_line start.number start.pieces count e in
    let says = count_from (words front.line) count.0 front.says in
    let steps = given (times step_at count.0 count.1) _ read h in
    let back = times_back step_at step_lines step_view fitting_step short_step step_back count.0 count.1 steps.value
    steps.was in
    let size : is_u32 (length (map step_view steps.value.0)) ≡ true = rw back.size says.1 in
    subst (TrailBack start.pieces) (same_ok _ read steps.gives)
    (record {
      tells = λ more rest.
          subst (λ (ps : List (List ℕ)). Tell ps (trail_lines (Some (map step_view steps.value.0)) more))
          (sym front.cut) (
            subst (λ (n : ℕ). WordsRespell (words front.line) (codes "trail" ∷ decimal n ∷ [])) (sym back.size) says.0,
            back.back.tells more rest,
          );
      fits = rw (small_count (length (map step_view steps.value.0)) size) back.back.fits;
      short = rw size back.back.short;
    })

pub trail_back : (start : Place) (read : Option (List AskedValue) × Place) → trail_at start ≡ Ok read
    → TrailBack start.pieces read
unfolding optional
trail_back start read h = trail_by start read (read_next trail_line start) refl h
