-- The laws of justified chains.
use Rattle.std.proofs.Common.{◌≡◌, ℕ, true, List, Option, None, Some, refl}
use Rattle.std.specs.Prelude.{is_some}
use Rattle.dns_model.specs.Names.{Labels}
use Rattle.dns_model.specs.Views.{DnskeyValue, dnskey_in}
use Rattle.dns_model.specs.Keys.{VerifierAnswers, AnchorValue}
use Rattle.dns_model.specs.Chains.{LinkValue, Judge, accepted_alone, judge, judge_alone, justified}
use Rattle.dns_model.proofs.ChainLemmas.{justified-take}
use Rattle.dns_chain_check.specs.Prefixes.{PrefixesHold}
use Rattle.dns_chain_check.specs.MoreTrust.{HoldsForMore, TrustsMore}
use Rattle.dns_chain_check.proofs.MoreTrust.{justified-more}
use Rattle.dns_model.proofs.ViewSteps.{anchored_by}

-- each prefix with a link is justified
pub prefixes_hold : (j : Judge) (chain : List LinkValue) → justified j chain ≡ true → PrefixesHold j chain
prefixes_hold j chain held n some = justified-take j n chain some held

anchored_more : (less more : List AnchorValue) → TrustsMore less more → (owner : Labels) (key : Option DnskeyValue)
    → anchored_by less owner key ≡ true → anchored_by more owner key ≡ true
anchored_more less more are owner None h = h
anchored_more less more are owner (Some key) h = are owner key.algorithm key.key h

-- it stays justified for whoever accepts and trusts more
pub holds_for_more : (answers : VerifierAnswers) (anchors : List AnchorValue) (now : ℕ) (chain : List LinkValue)
    → justified (judge answers anchors now) chain ≡ true → HoldsForMore answers anchors now chain
holds_for_more answers anchors now chain held wider more answered trusted =
    justified-more (judge answers anchors now) (judge wider more now) (record {
      answers = answered;
      is_anchored = λ owner key. anchored_more anchors more trusted owner (dnskey_in key);
      is_timely = λ sig h. h;
    }) chain held

readable : (anchors : List AnchorValue) (owner : Labels) (key : Option DnskeyValue) → anchored_by anchors owner key ≡ true
    → is_some key ≡ true
readable anchors owner None h = h
readable anchors owner (Some key) h = refl

-- its verifier accepts it alone, whatever the anchors and the moment
pub holds_alone : (answers : VerifierAnswers) (anchors : List AnchorValue) (now : ℕ) (chain : List LinkValue)
    → justified (judge answers anchors now) chain ≡ true → accepted_alone answers chain ≡ true
holds_alone answers anchors now chain held =
    justified-more (judge answers anchors now) (judge_alone answers) (record {
      answers = record { supports = λ algorithm h. h; accepts = λ algorithm key bytes signature h. h };
      is_anchored = λ owner key. readable anchors owner (dnskey_in key);
      is_timely = λ sig h. refl;
    }) chain held
