-- A trail as its lines.
use Rattle.std.proofs.Common.{◌≡◌, ℕ, List, [], ◌∷◌, ◌++◌, map, length, codes, Option, None, Some, refl, sym, ap, ◌∙◌}
use Rattle.std.specs.Fmt.{decimal}
use Rattle.std.specs.List.{flat_map}
use Rattle.std.proofs.lemmas.List.{append_assoc}
use Rattle.dns_model.specs.declared.section.Section.{Section}
use Rattle.dns_model.specs.declared.section.Section.TheVariants.{Answer, Authority, Additional}
use Rattle.dns_model.specs.declared.trail.AskRef.{AskRef}
use Rattle.dns_model.specs.NameText.{printed}
use Rattle.dns_model.specs.Trails.{JudgedSetValue, EndingValue}
use Rattle.dns_record.specs.Words.{type_word, class_word}
use Rattle.dns_text.specs.Words.{octets_word}
use Rattle.dns_report.specs.LineWords.{mark_word, section_word}
use Rattle.dns_report.specs.TrailView.{ToldRecord, HeardView, Records, Fault, StepView}
use Rattle.dns_report.specs.TrailLines.{purpose_word, got_words, ask_word, origin_word, place_word, ending_words, told_line, told_text, set_line, step_text, trail_text}
use Rattle.dns_report.specs.WrittenLines.{ending_line, count_line, step_line, got_line}
use Rattle.dns_text.proofs.LineShapes.{Line, text_of}
use Rattle.dns_report.proofs.LineBlocks.{Block, blocks, one_line, blocks_are}

abbrev pub step_of : StepView → Line
step_of s = (codes "step", decimal s.depth ∷ purpose_word s.judged ∷ printed s.owner ∷ type_word s.rtype ∷ [])

abbrev pub got_of : HeardView → Line
got_of reply = (codes "got", got_words reply)

abbrev pub told_of : Section → ToldRecord → Line
told_of section r = (
  codes "told",
  section_word section ∷ printed r.owner ∷ class_word r.class ∷ type_word r.rtype ∷ decimal
      r.ttl ∷ octets_word r.rdata ∷ [],
)

-- the lines of a section's records as they were told, and those that follow
abbrev pub told_in : Section → List ToldRecord → List Line → List Line
told_in section records more = blocks (one_line (told_of section)) records more

-- the lines of what a reply told, and those that follow
abbrev pub told_lines : Block HeardView
told_lines (Records code empty answers authorities additionals) more =
    told_in Answer answers (told_in Authority authorities (told_in Additional additionals more))
told_lines Fault more = more

abbrev pub set_of : JudgedSetValue → Line
set_of s = (
  codes "set",
  section_word s.section ∷ printed s.owner ∷ type_word s.rtype ∷ mark_word s.mark ∷ origin_word
      s.origin ∷ place_word s.sig ∷ map ask_word s.asked,
)

abbrev pub ending_of : EndingValue → List AskRef → Line
ending_of ending excuse = (codes "ending", ending_words ending ++ map ask_word excuse)

-- the lines of a step's sets and its ending, and those that follow
abbrev pub judged_lines : StepView → List Line → List Line
judged_lines s more = blocks (one_line set_of) s.sets (ending_of s.ending s.excuse ∷ more)

-- the lines of a step, and those that follow
abbrev pub step_lines : Block StepView
step_lines s more = step_of s ∷ got_of s.reply ∷ told_lines s.reply (judged_lines s more)

abbrev pub count_of : List StepView → Line
count_of steps = (codes "trail", decimal (length steps) ∷ [])

-- the lines of a trail, where it is shown, and those that follow
abbrev pub trail_lines : Block (Option (List StepView))
trail_lines None more = more
trail_lines (Some steps) more = count_of steps ∷ blocks step_lines steps more

told_is : (section : Section) (r : ToldRecord) (more : List Line)
    → flat_map text_of (one_line (told_of section) r more) ≡ told_line section r ++ flat_map text_of more
told_is section r more = refl

told_in_is : (section : Section) (rs : List ToldRecord) (more : List Line)
    → flat_map text_of (told_in section rs more) ≡ flat_map (told_line section) rs ++ flat_map text_of more
told_in_is section rs more = blocks_are (one_line (told_of section)) (told_line section) (told_is section) rs more

told_lines_are : (reply : HeardView) (more : List Line)
    → flat_map text_of (told_lines reply more) ≡ told_text reply ++ flat_map text_of more
unfolding told_text
told_lines_are (Records code empty answers authorities additionals) more =
    let a = flat_map (told_line Answer) answers in
    let u = flat_map (told_line Authority) authorities in
    let n = flat_map (told_line Additional) additionals in
    let t = flat_map text_of more in
    told_in_is Answer answers (told_in Authority authorities (told_in Additional additionals more))
    ∙ ap (λ x. a ++ x)
    (told_in_is Authority authorities (told_in Additional additionals more) ∙ ap (λ x. u ++ x) (told_in_is Additional additionals more))
    ∙ sym (append_assoc a u (n ++ t))
    ∙ sym (append_assoc (a ++ u) n t)
told_lines_are Fault more = refl

set_is : (s : JudgedSetValue) (more : List Line)
    → flat_map text_of (one_line set_of s more) ≡ set_line s ++ flat_map text_of more
set_is s more = refl

joined_alike : (s g t k e x : List ℕ) → s ++ (g ++ (t ++ (k ++ (e ++ x)))) ≡ ((((s ++ g) ++ t) ++ k) ++ e) ++ x
joined_alike s g t k e x =
    rw (
      append_assoc (((s ++ g) ++ t) ++ k) e x,
      append_assoc ((s ++ g) ++ t) k (e ++ x),
      append_assoc (s ++ g) t (k ++ (e ++ x)),
      append_assoc s g (t ++ (k ++ (e ++ x))),
    ) refl

step_is : (s : StepView) (more : List Line)
    → flat_map text_of (step_lines s more) ≡ step_text s ++ flat_map text_of more
unfolding step_text
step_is s more =
    let e = ending_line s.ending s.excuse in
    let told = told_lines_are s.reply (judged_lines s more) in
    let sets = blocks_are (one_line set_of) set_line set_is s.sets (ending_of s.ending s.excuse ∷ more) in
    ap (λ t. step_line s ++ (got_line s.reply ++ t)) (told ∙ ap (λ t. told_text s.reply ++ t) sets)
    ∙ joined_alike (step_line s) (got_line s.reply) (told_text s.reply) (flat_map set_line s.sets) e
    (flat_map text_of more)

-- the text of a trail is that of its lines
pub trail_is : (trail : Option (List StepView)) (more : List Line)
    → flat_map text_of (trail_lines trail more) ≡ trail_text trail ++ flat_map text_of more
trail_is None more = refl
trail_is (Some steps) more =
    ap (λ t. count_line steps ++ t) (blocks_are step_lines step_text step_is steps more)
    ∙ sym (append_assoc (count_line steps) (flat_map step_text steps) (flat_map text_of more))
