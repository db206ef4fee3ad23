-- The lines of a step tell the step, and those of a trail the trail.
use Rattle.std.proofs.Common.{◌≡◌, ℕ, ◌^◌, ◌<◌, Bool, true, false, ◌&&◌, nat_lt, List, [], ◌∷◌, ◌++◌, length, map, codes, get_or, Option, None, Some, refl, sym, ap, ◌∙◌, arith}
use Rattle.std.specs.Fmt.{decimal}
use Rattle.std.specs.List.{list_all}
use Rattle.std.proofs.lemmas.Bool.{and_parts, ltb-true}
use Rattle.std.proofs.lemmas.Fmt.{decimal_injective}
use Rattle.std.proofs.lemmas.List.Folds.{list_all-append}
use Rattle.dns_model.specs.NameText.{printed}
use Rattle.dns_model.specs.Keys.{bytes_eq}
use Rattle.dns_model.specs.declared.section.Section.{Section}
use Rattle.dns_model.specs.declared.section.Section.TheVariants.{Answer, Authority, Additional}
use Rattle.dns_model.specs.declared.trail.AskRef.{AskRef}
use Rattle.dns_model.specs.Trails.{JudgedSetValue, EndingValue}
use Rattle.dns_model.proofs.ChainLemmas.{bytes_refl}
use Rattle.dns_record.specs.Words.{type_word, class_word}
use Rattle.dns_text.specs.Words.{octets_word}
use Rattle.dns_text.proofs.WordShapes.{is_word, decimal_word, octets_is_word, octets_injective}
use Rattle.dns_report.specs.LineWords.{mark_word, section_word}
use Rattle.dns_report.specs.Fields.{fitting_name, is_u16}
use Rattle.dns_report.specs.TrailView.{ToldRecord, HeardView, Records, Fault, StepView, fitting_told, fitting_heard, fitting_ask, fitting_origin, fitting_set, fitting_ending, fitting_step, fitting_trail}
use Rattle.dns_report.specs.TrailLines.{purpose_word, empty_words, ask_word, origin_word, place_word, ending_words}
use Rattle.dns_text.proofs.LineShapes.{Line, is_line}
use Rattle.dns_report.proofs.NameShapes.{printed_word}
use Rattle.dns_report.proofs.MarkWords.{mark_injective, mark_is_word, section_injective, section_is_word}
use Rattle.dns_report.proofs.FieldWords.{FitFields, fit_fields, below_u16, small_good, number_good, class_good, type_good, small_tells, number_tells, name_tells, class_tells, type_tells, more_words, each_good, each_tells}
use Rattle.dns_report.proofs.LineBlocks.{Tells, Same, blocks, one_line, starts, named, no_yes, first_line, other_lines, one_line_tells, blocks_tell, counted_tell, blocks_start, one_line_good, blocks_good, word_same}
use Rattle.dns_report.proofs.TrailWords.{purpose_tells, purpose_good, empty_tells, empty_good, no_number, ask_tells, ask_good, origin_tells, origin_good, place_tells, place_good, ending_tells, ending_good, fitting_place}
use Rattle.dns_report.proofs.StepLines.{step_of, got_of, told_of, told_in, told_lines, set_of, ending_of, judged_lines, step_lines, count_of, trail_lines}

-- ---- records as they were told

pub fits_told : (r : ToldRecord) → fitting_told r ≡ true → FitFields r.owner r.class r.rtype r.ttl r.rdata
fits_told r h = fit_fields r.owner r.class r.rtype r.ttl r.rdata h

pub told_good : (section : Section) (r : ToldRecord) → fitting_told r ≡ true → is_line (told_of section r) ≡ true
told_good section r h =
    let f = fits_told r h in
    rw (
      section_is_word section,
      printed_word r.owner,
      class_good r.class f.class,
      type_good r.rtype f.rtype,
      number_good r.ttl f.ttl,
      octets_is_word r.rdata f.rdata,
    ) refl

told_same : (r q : ToldRecord) → r.owner ≡ q.owner → r.rtype ≡ q.rtype → r.class ≡ q.class → r.ttl ≡ q.ttl
    → r.rdata ≡ q.rdata → r ≡ q
told_same r q owner rtype class ttl rdata = λ i. record {
  owner = owner i;
  rtype = rtype i;
  class = class i;
  ttl = ttl i;
  rdata = rdata i;
}

told_tells : (section : Section) (r q : ToldRecord) → fitting_told r ≡ true → fitting_told q ≡ true
    → told_of section r ≡ told_of section q → r ≡ q
told_tells section r q first second h =
    let f = fits_told r first in
    let g = fits_told q second in
    let owner : printed r.owner ≡ printed q.owner = word_same _ _ 1 h in
    let class : class_word r.class ≡ class_word q.class = word_same _ _ 2 h in
    let rtype : type_word r.rtype ≡ type_word q.rtype = word_same _ _ 3 h in
    let ttl : decimal r.ttl ≡ decimal q.ttl = word_same _ _ 4 h in
    let rdata : octets_word r.rdata ≡ octets_word q.rdata = word_same _ _ 5 h in
    told_same r q
    (name_tells r.owner q.owner f.owner g.owner owner)
    (type_tells r.rtype q.rtype f.rtype g.rtype rtype) (class_tells r.class q.class f.class g.class class)
    (number_tells r.ttl q.ttl f.ttl g.ttl ttl)
    (octets_injective r.rdata q.rdata f.rdata g.rdata rdata)

-- the line of a record that was told in this section
abbrev pub is_told : Section → Line → Bool
is_told section l = bytes_eq l.0 (codes "told") && bytes_eq (get_or l.1 0 []) (section_word section)

told_shows : (section : Section) (r : ToldRecord) (x : List Line)
    → starts (is_told section) (one_line (told_of section) r x) ≡ true
told_shows section r x = bytes_refl (section_word section)

told_in_tells : (section : Section) (rs qs : List ToldRecord) (x y : List Line) → list_all fitting_told rs ≡ true
    → list_all fitting_told qs ≡ true
    → starts (is_told section) x ≡ false → starts (is_told section) y ≡ false
    → told_in section rs x ≡ told_in section qs y → Same rs qs x y
told_in_tells section =
    blocks_tell (one_line (told_of section)) fitting_told (is_told section)
    (one_line_tells (told_of section) fitting_told (told_tells section)) (told_shows section)

told_in_good : (section : Section) (rs : List ToldRecord) (more : List Line) → list_all fitting_told rs ≡ true
    → list_all is_line more ≡ true
    → list_all is_line (told_in section rs more) ≡ true
told_in_good section =
    blocks_good (one_line (told_of section)) fitting_told
    (one_line_good (told_of section) fitting_told (told_good section))

-- no told line follows
pub record Untold (x : List Line) : Type 0 where
  pub answers : starts (is_told Answer) x ≡ false
  pub authorities : starts (is_told Authority) x ≡ false
  pub additionals : starts (is_told Additional) x ≡ false

pub additionals_start : (rs : List ToldRecord) (x : List Line) → Untold x
    → starts (is_told Authority) (told_in Additional rs x) ≡ false
additionals_start rs x after =
    blocks_start (one_line (told_of Additional)) (is_told Authority) (λ r x. refl) rs x after.authorities

pub others_start : (qs rs : List ToldRecord) (x : List Line) → Untold x
    → starts (is_told Answer) (told_in Authority qs (told_in Additional rs x)) ≡ false
others_start qs rs x after =
    blocks_start (one_line (told_of Authority)) (is_told Answer) (λ r x. refl) qs (told_in Additional rs x)
    (blocks_start (one_line (told_of Additional)) (is_told Answer) (λ r x. refl) rs x after.answers)

-- ---- what was heard

pub record FitsRecords (code : ℕ) (answers authorities additionals : List ToldRecord) : Type 0 where
  pub coded : is_u16 code ≡ true
  pub first : list_all fitting_told answers ≡ true
  pub second : list_all fitting_told authorities ≡ true
  pub third : list_all fitting_told additionals ≡ true

pub fits_records : (code : ℕ) (empty : Bool) (a u n : List ToldRecord) → fitting_heard (Records code empty a u n) ≡ true
    → FitsRecords code a u n
fits_records code empty a u n h =
    let p =
    and_parts (is_u16 code) (list_all fitting_told a && (list_all fitting_told u && list_all fitting_told n)) h in
    let q = and_parts (list_all fitting_told a) (list_all fitting_told u && list_all fitting_told n) p.1 in
    let r = and_parts (list_all fitting_told u) (list_all fitting_told n) q.1 in
    record { coded = p.0; first = q.0; second = r.0; third = r.1 }

module _ (c d : ℕ) (e f : Bool) where
  records_same : (a b u v n m : List ToldRecord) → c ≡ d → e ≡ f → a ≡ b → u ≡ v → n ≡ m
      → Records c e a u n ≡ Records d f b v m
  records_same a b u v n m g h i j k = rw (g, h, i, j, k) refl

heard_tells : (r q : HeardView) (x y : List Line) → fitting_heard r ≡ true → fitting_heard q ≡ true → Untold x
    → Untold y
    → got_of r ≡ got_of q → told_lines r x ≡ told_lines q y → Same r q x y
heard_tells (Records c e a u n) (Records d f b v m) x y first second before after got h =
    let one = fits_records c e a u n first in
    let two = fits_records d f b v m second in
    let code : decimal c ≡ decimal d = word_same _ _ 0 got in
    let empty : empty_words e ≡ empty_words f = ap (λ (l : Line). more_words l.1) got in
    let answers =
    told_in_tells Answer a b (told_in Authority u (told_in Additional n x))
    (told_in Authority v (told_in Additional m y))
    one.first two.first (others_start u n x before) (others_start v m y after) h in
    let authorities = told_in_tells Authority u v (told_in Additional n x) (told_in Additional m y)
    one.second two.second (additionals_start n x before) (additionals_start m y after) answers.rest in
    let additionals =
    told_in_tells Additional n m x y one.third two.third before.additionals after.additionals authorities.rest in
    record {
      value =
          records_same c d e f a b u v n m (small_tells c d one.coded two.coded code)
          (empty_tells e f empty) answers.value authorities.value additionals.value;
      rest = additionals.rest;
    }
heard_tells (Records c e a u n) Fault x y first second before after got h =
    let code : decimal c ≡ codes "fault" = word_same _ _ 0 got in
    let le = below_u16 c (fits_records c e a u n first).coded in
    no_number c (codes "fault") (omega (arith, le)) refl code
heard_tells Fault (Records d f b v m) x y first second before after got h =
    let code : codes "fault" ≡ decimal d = word_same _ _ 0 got in
    let le = below_u16 d (fits_records d f b v m second).coded in
    no_number d (codes "fault") (omega (arith, le)) refl (sym code)
heard_tells Fault Fault x y first second before after got h = record { value = refl; rest = h }

pub got_good : (reply : HeardView) → fitting_heard reply ≡ true → is_line (got_of reply) ≡ true
got_good (Records c e a u n) h = rw (small_good c (fits_records c e a u n h).coded, empty_good e) refl
got_good Fault h = refl

pub heard_good : (reply : HeardView) (more : List Line) → fitting_heard reply ≡ true → list_all is_line more ≡ true
    → list_all is_line (told_lines reply more) ≡ true
heard_good (Records c e a u n) more h rest =
    let f = fits_records c e a u n h in
    told_in_good Answer a (told_in Authority u (told_in Additional n more)) f.first
    (told_in_good Authority u (told_in Additional n more) f.second (told_in_good Additional n more f.third rest))
heard_good Fault more h rest = rest

-- ---- sets and endings

pub record FitsSet (s : JudgedSetValue) : Type 0 where
  pub owner : fitting_name s.owner ≡ true
  pub rtype : is_u16 s.rtype ≡ true
  pub origin : fitting_origin s.origin ≡ true
  pub place : fitting_place s.sig ≡ true
  pub asked : list_all fitting_ask s.asked ≡ true

pub fits_set : (s : JudgedSetValue) → fitting_set s ≡ true → FitsSet s
fits_set s h =
    let a =
    and_parts (fitting_name s.owner)
    (is_u16 s.rtype && (fitting_origin s.origin && (fitting_place s.sig && list_all fitting_ask s.asked))) h in
    let b =
    and_parts (is_u16 s.rtype) (fitting_origin s.origin && (fitting_place s.sig && list_all fitting_ask s.asked)) a.1 in
    let c = and_parts (fitting_origin s.origin) (fitting_place s.sig && list_all fitting_ask s.asked) b.1 in
    let d = and_parts (fitting_place s.sig) (list_all fitting_ask s.asked) c.1 in
    record { owner = a.0; rtype = b.0; origin = c.0; place = d.0; asked = d.1 }

pub set_good : (s : JudgedSetValue) → fitting_set s ≡ true → is_line (set_of s) ≡ true
set_good s h =
    let f = fits_set s h in
    rw (
      section_is_word s.section,
      printed_word s.owner,
      type_good s.rtype f.rtype,
      mark_is_word s.mark,
      origin_good s.origin f.origin,
      place_good s.sig f.place,
      each_good ask_word fitting_ask ask_good s.asked f.asked,
    ) refl

set_same : (s t : JudgedSetValue) → s.section ≡ t.section → s.owner ≡ t.owner → s.rtype ≡ t.rtype → s.mark ≡ t.mark
    → s.origin ≡ t.origin → s.sig ≡ t.sig → s.asked ≡ t.asked → s ≡ t
set_same s t section owner rtype mark origin sig asked = λ i. record {
  section = section i;
  owner = owner i;
  rtype = rtype i;
  mark = mark i;
  origin = origin i;
  sig = sig i;
  asked = asked i;
}

set_tells : (s t : JudgedSetValue) → fitting_set s ≡ true → fitting_set t ≡ true → set_of s ≡ set_of t → s ≡ t
set_tells s t first second h =
    let f = fits_set s first in
    let g = fits_set t second in
    let section : section_word s.section ≡ section_word t.section = word_same _ _ 0 h in
    let owner : printed s.owner ≡ printed t.owner = word_same _ _ 1 h in
    let rtype : type_word s.rtype ≡ type_word t.rtype = word_same _ _ 2 h in
    let mark : mark_word s.mark ≡ mark_word t.mark = word_same _ _ 3 h in
    let origin : origin_word s.origin ≡ origin_word t.origin = word_same _ _ 4 h in
    let place : place_word s.sig ≡ place_word t.sig = word_same _ _ 5 h in
    let asked : map ask_word s.asked ≡ map ask_word t.asked =
    ap (λ (l : Line). more_words (more_words (more_words (more_words (more_words (more_words l.1)))))) h in
    set_same s t
    (section_injective s.section t.section section) (name_tells s.owner t.owner f.owner g.owner owner)
    (type_tells s.rtype t.rtype f.rtype g.rtype rtype)
    (mark_injective s.mark t.mark mark) (origin_tells s.origin t.origin f.origin g.origin origin)
    (place_tells s.sig t.sig f.place g.place place)
    (each_tells ask_word fitting_ask ask_tells s.asked t.asked f.asked g.asked asked)

sets_tell : (ss ts : List JudgedSetValue) (x y : List Line) → list_all fitting_set ss ≡ true
    → list_all fitting_set ts ≡ true
    → starts (named (codes "set")) x ≡ false → starts (named (codes "set")) y ≡ false
    → blocks (one_line set_of) ss x ≡ blocks (one_line set_of) ts y → Same ss ts x y
sets_tell = blocks_tell (one_line set_of) fitting_set (named (codes "set")) (one_line_tells set_of fitting_set set_tells) (λ s x. refl)

pub ending_line_good : (e : EndingValue) (asks : List AskRef) → fitting_ending e ≡ true → list_all fitting_ask asks ≡ true
    → is_line (ending_of e asks) ≡ true
ending_line_good e asks h asked =
    rw (
      list_all-append is_word (ending_words e) (map ask_word asks),
      ending_good e h,
      each_good ask_word fitting_ask ask_good asks asked,
    ) refl

judged_start : (is_one : Line → Bool) (s : StepView) (more : List Line)
    → ((t : JudgedSetValue) → is_one (set_of t) ≡ false)
    → is_one (ending_of s.ending s.excuse) ≡ false → starts is_one (judged_lines s more) ≡ false
judged_start is_one s more set ending =
    blocks_start (one_line set_of) is_one (λ t x. set t) s.sets (ending_of s.ending s.excuse ∷ more) ending

pub judged_untold : (s : StepView) (more : List Line) → Untold (judged_lines s more)
judged_untold s more = record {
  answers = judged_start (is_told Answer) s more (λ t. refl) refl;
  authorities = judged_start (is_told Authority) s more (λ t. refl) refl;
  additionals = judged_start (is_told Additional) s more (λ t. refl) refl;
}

-- ---- steps

pub record FitsStep (s : StepView) : Type 0 where
  pub depth : is_u16 s.depth ≡ true
  pub owner : fitting_name s.owner ≡ true
  pub rtype : is_u16 s.rtype ≡ true
  pub reply : fitting_heard s.reply ≡ true
  pub sets : list_all fitting_set s.sets ≡ true
  pub ending : fitting_ending s.ending ≡ true
  pub excuse : list_all fitting_ask s.excuse ≡ true

pub fits_step : (s : StepView) → fitting_step s ≡ true → FitsStep s
fits_step s h =
    let last = fitting_ending s.ending && list_all fitting_ask s.excuse in
    let a =
    and_parts (is_u16 s.depth) (fitting_name s.owner
    && (is_u16 s.rtype && (fitting_heard s.reply && (list_all fitting_set s.sets && last)))) h in
    let b =
    and_parts (fitting_name s.owner)
    (is_u16 s.rtype && (fitting_heard s.reply && (list_all fitting_set s.sets && last))) a.1 in
    let c = and_parts (is_u16 s.rtype) (fitting_heard s.reply && (list_all fitting_set s.sets && last)) b.1 in
    let d = and_parts (fitting_heard s.reply) (list_all fitting_set s.sets && last) c.1 in
    let e = and_parts (list_all fitting_set s.sets) last d.1 in
    let f = and_parts (fitting_ending s.ending) (list_all fitting_ask s.excuse) e.1 in
    record { depth = a.0; owner = b.0; rtype = c.0; reply = d.0; sets = e.0; ending = f.0; excuse = f.1 }

pub step_line_good : (s : StepView) → FitsStep s → is_line (step_of s) ≡ true
step_line_good s f =
    rw (small_good s.depth f.depth, purpose_good s.judged, printed_word s.owner, type_good s.rtype f.rtype) refl

pub step_good : (s : StepView) (more : List Line) → fitting_step s ≡ true → list_all is_line more ≡ true
    → list_all is_line (step_lines s more) ≡ true
step_good s more h rest =
    let f = fits_step s h in
    let ends : list_all is_line (ending_of s.ending s.excuse ∷ more) ≡ true =
    rw (ending_line_good s.ending s.excuse f.ending f.excuse) rest in
    let judged =
    blocks_good (one_line set_of) fitting_set (one_line_good set_of fitting_set set_good) s.sets
    (ending_of s.ending s.excuse ∷ more) f.sets ends in
    rw (step_line_good s f, got_good s.reply f.reply) (heard_good s.reply (judged_lines s more) f.reply judged)

step_same : (s t : StepView) → s.depth ≡ t.depth → s.judged ≡ t.judged → s.owner ≡ t.owner → s.rtype ≡ t.rtype
    → s.reply ≡ t.reply → s.sets ≡ t.sets → s.ending ≡ t.ending → s.excuse ≡ t.excuse → s ≡ t
step_same s t depth judged owner rtype reply sets ending excuse = λ i. record {
  depth = depth i;
  judged = judged i;
  owner = owner i;
  rtype = rtype i;
  reply = reply i;
  sets = sets i;
  ending = ending i;
  excuse = excuse i;
}

-- the lines of a step tell the step
step_tells : Tells step_lines fitting_step
step_tells s t x y first second h =
    let f = fits_step s first in
    let g = fits_step t second in
    let front : step_of s ≡ step_of t = first_line h in
    let depth : decimal s.depth ≡ decimal t.depth = word_same _ _ 0 front in
    let judged : purpose_word s.judged ≡ purpose_word t.judged = word_same _ _ 1 front in
    let owner : printed s.owner ≡ printed t.owner = word_same _ _ 2 front in
    let rtype : type_word s.rtype ≡ type_word t.rtype = word_same _ _ 3 front in
    let after_front = other_lines h in
    let got : got_of s.reply ≡ got_of t.reply = first_line after_front in
    let reply =
    heard_tells s.reply t.reply (judged_lines s x) (judged_lines t y) f.reply g.reply (judged_untold s x)
    (judged_untold t y) got (other_lines after_front) in
    let sets =
    sets_tell s.sets t.sets (ending_of s.ending s.excuse ∷ x)
    (ending_of t.ending t.excuse ∷ y) f.sets g.sets refl refl reply.rest in
    let ends : ending_of s.ending s.excuse ≡ ending_of t.ending t.excuse = first_line sets.rest in
    let words : ending_words s.ending ++ map ask_word s.excuse ≡ ending_words t.ending ++ map ask_word t.excuse =
    ap (λ (l : Line). l.1) ends in
    let ending =
    ending_tells s.ending t.ending (map ask_word s.excuse) (map ask_word t.excuse) f.ending g.ending words in
    record {
      value = step_same s t
          (small_tells s.depth t.depth f.depth g.depth depth) (purpose_tells s.judged t.judged judged)
          (name_tells s.owner t.owner f.owner g.owner owner)
          (type_tells s.rtype t.rtype f.rtype g.rtype rtype) reply.value sets.value ending.ending
          (each_tells ask_word fitting_ask ask_tells s.excuse t.excuse f.excuse g.excuse ending.rest);
      rest = other_lines sets.rest;
    }

-- ---- the trail

pub record FitsTrail (steps : List StepView) : Type 0 where
  pub count : length steps < 2 ^ 64
  pub each : list_all fitting_step steps ≡ true

pub fits_trail : (steps : List StepView) → fitting_trail (Some steps) ≡ true → FitsTrail steps
fits_trail steps h =
    let parts = and_parts (nat_lt (length steps) (2 ^ 64)) (list_all fitting_step steps) h in
    record { count = ltb-true _ _ parts.0; each = parts.1 }

no_more : {X : Type 0} (steps : List StepView) (x more : List Line) → starts (named (codes "trail")) x ≡ false
    → x ≡ count_of steps ∷ more → X
no_more steps x more other h = absurd (no_yes (sym other ∙ ap (starts (named (codes "trail"))) h))

-- the lines of a trail tell the trail, and whether it is shown
pub trail_tells : (trail other : Option (List StepView)) (x y : List Line) → fitting_trail trail ≡ true
    → fitting_trail other ≡ true
    → starts (named (codes "trail")) x ≡ false → starts (named (codes "trail")) y ≡ false
    → trail_lines trail x ≡ trail_lines other y → trail ≡ other
trail_tells None None x y first second before after h = refl
trail_tells None (Some ts) x y first second before after h = no_more ts x (blocks step_lines ts y) before h
trail_tells (Some ss) None x y first second before after h = no_more ss y (blocks step_lines ss x) after (sym h)
trail_tells (Some ss) (Some ts) x y first second before after h =
    let f = fits_trail ss first in
    let g = fits_trail ts second in
    let front : count_of ss ≡ count_of ts = first_line h in
    let count : decimal (length ss) ≡ decimal (length ts) = word_same _ _ 0 front in
    let steps =
    counted_tell step_lines fitting_step step_tells ss ts x y
    (decimal_injective (length ss) (length ts) f.count g.count count)
    f.each g.each (other_lines h) in
    ap Some steps.value

pub trail_good : (trail : Option (List StepView)) (more : List Line) → fitting_trail trail ≡ true
    → list_all is_line more ≡ true
    → list_all is_line (trail_lines trail more) ≡ true
trail_good None more h rest = rest
trail_good (Some steps) more h rest =
    let f = fits_trail steps h in
    rw (decimal_word (length steps) f.count) (blocks_good step_lines fitting_step step_good steps more f.each rest)
