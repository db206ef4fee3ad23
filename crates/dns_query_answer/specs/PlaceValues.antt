-- For private functions of this crate only: places of the code as the definitions have them.
use Rattle.std.specs.Option.{option_map}
use Rattle.dns_cache.specs.Kinds.{kind_value}
use Rattle.dns_causes.specs.Values.{kinds_by_step}
use Rattle.dns_query_answer.specs.Places as seen
use Rattle.dns_query_answer.specs.Places.{Explained}
use Rattle.dns_query_answer.specs.declared.places.Context.{Context}
use Rattle.dns_query_answer.specs.declared.places.Place.{Place}

abbrev pub explained_by : Context → Explained
explained_by c = record { moment = c.moment; steps = c.steps.now; causes = kinds_by_step c.causes.now }

abbrev pub place_of : Place → seen.Place
place_of p = record { step = p.step.now; set = p.set.now; cause = option_map (λ k. kind_value k.now) p.cause }
