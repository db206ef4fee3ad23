-- For private functions of this crate only: by what questions are found, and how they are gathered one after another.
use Rattle.std.specs.Prelude.{List, [], ◌++◌}
use Rattle.dns_evidence.specs.Listing.{answers_of}
use Rattle.dns_model.specs.Chains.{Judge, judge}
use Rattle.dns_model.specs.Keys.{AcceptedSignatureValue}
use Rattle.dns_model.specs.Trails.{AskedValue}
use Rattle.dns_questions.specs.declared.keys.Context.{Context}
use Rattle.dns_questions.specs.Questions.{each_once}

-- the algorithms that are supported, and the moment
abbrev pub judge_by : Context → Judge
judge_by context = judge (answers_of context.verifier.now) [] context.moment

-- the trail
abbrev pub steps_of : Context → List AskedValue
steps_of context = context.steps.now

-- questions, and after them those of others that aren't among them, each once
unfoldable pub then_once : List AcceptedSignatureValue → List AcceptedSignatureValue → List AcceptedSignatureValue
then_once all more = all ++ each_once all more
