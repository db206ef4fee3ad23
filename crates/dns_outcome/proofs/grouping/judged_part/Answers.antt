use Rattle.std.proofs.Common.{rules, ◌≡◌, [], ◌++◌, map}
use Rattle.dns_model.specs.declared.section.Section.TheVariants.{Answer, Authority, Additional}
use Rattle.dns_model.specs.Sections.{sets_of}
use Rattle.dns_model.specs.SoundAnswers.{told_by, in_section}
use Rattle.dns_rules.specs.Asking.{judged_at}
use Rattle.dns_outcome.proofs.DepthLemmas.{judged_sections}
use Rattle.dns_outcome.proofs.grouping.judged_part.Goals as goal

pub returns : goal.returns
returns c =
    let one : c.place_section.new.into.items ≡ []
    ++ judged_at c.args.depth (map (in_section Answer) (sets_of c.args.message.now.answers)) = search rules in
    let two : c.place_section-2.new.into.items ≡ c.place_section.new.into.items
    ++ judged_at c.args.depth (map (in_section Authority) (sets_of c.args.message.now.authorities)) = search rules in
    let three : c.place_section-3.new.into.items ≡ c.place_section-2.new.into.items
    ++ judged_at c.args.depth (map (in_section Additional) (sets_of c.args.message.now.additionals)) = search rules in
    judged_sections c.args.depth (told_by c.args.message.now) c.place_section.new.into.items c.place_section-2.new.into.items
    c.place_section-3.new.into.items one two three
