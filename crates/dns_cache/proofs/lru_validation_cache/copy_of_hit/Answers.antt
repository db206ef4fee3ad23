use Rattle.std.proofs.Common.{◌≡◌, Some, sym, ap, ◌∙◌}
use Rattle.std.specs.Prelude.{option_copied}
use Rattle.std.specs.Map.{lookup}
use Rattle.std.proofs.lemmas.Result.{IfOk-weaker}
use Rattle.dns_rules.specs.CacheKeys.{key_eq}
use Rattle.dns_cache.proofs.PairLemmas.{live_is, none_is_hit}
use Rattle.dns_cache.proofs.lru_validation_cache.copy_of_hit.Goals as goal

pub returns-in-Some : goal.returns-in-Some
returns-in-Some g c =
    let there : lookup (key_eq c.args.key.now) c.args.kept.now.entries ≡ Some c.in-Some.found.now = sym c.peek.ensures
    ∙ ap option_copied c.in-Some.is in
    IfOk-weaker c.copy_of_live.result _ _
    (λ found is. is ∙ live_is c.args.key.now c.args.now c.args.kept.now.entries c.in-Some.found.now c.requires there) c.copy_of_live.ensures

pub returns-in-None : goal.returns-in-None
returns-in-None g c =
    sym (none_is_hit c.args.key.now c.args.now c.args.kept.now.entries (sym c.peek.ensures ∙ ap option_copied c.in-None.is))
