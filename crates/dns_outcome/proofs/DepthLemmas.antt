-- The sets that are judged at a depth, section by section.
use Rattle.std.proofs.Common.{◌≡◌, ℕ, List, [], ◌++◌, map, sym, ap, ◌∙◌}
use Rattle.std.specs.List.{filter}
use Rattle.std.proofs.lemmas.List.Elements.{filter-append}
use Rattle.dns_model.specs.declared.section.Section.TheVariants.{Answer, Authority, Additional}
use Rattle.dns_model.specs.Sections.{sets_of}
use Rattle.dns_model.specs.SoundAnswers.{Told, PlacedSet, in_section}
use Rattle.dns_rules.specs.Asking.{is_judged_at, judged_at, judged_part}

pub judged_sections : (depth : ℕ) (told : Told) → (one two three : List PlacedSet)
    → one ≡ [] ++ judged_at depth (map (in_section Answer) (sets_of told.answers))
    → two ≡ one ++ judged_at depth (map (in_section Authority) (sets_of told.authorities))
    → three ≡ two ++ judged_at depth (map (in_section Additional) (sets_of told.additionals))
    → three ≡ judged_part depth told
judged_sections depth told one two three e f g =
    let test = λ (p : PlacedSet). is_judged_at depth p.set.rtype in
    let a = map (in_section Answer) (sets_of told.answers) in
    let b = map (in_section Authority) (sets_of told.authorities) in
    let c = map (in_section Additional) (sets_of told.additionals) in
    g ∙ ap (λ xs. xs ++ filter test c) (f ∙ ap (λ xs. xs ++ filter test b) e ∙ sym (filter-append test a b))
    ∙ sym (filter-append test (a ++ b) c)
