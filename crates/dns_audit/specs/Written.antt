-- What a report that was written says when it is read again: the whole answer that it shows, but that a question's class is IN, and
-- that records that were told have no mark.
use Rattle.std.specs.Prelude.{ℕ, Bool, true, ◌&&◌, nat_le, List, map, length, Option, None, Some, option_map}
use Rattle.std.specs.List.{list_all}
use Rattle.dns_model.specs.declared.proof.Proof.TheVariants.{Indeterminate}
use Rattle.dns_model.specs.Chains as trust
use Rattle.dns_model.specs.Chains.{LinkValue}
use Rattle.dns_model.specs.Records.{Rr}
use Rattle.dns_model.specs.SoundAnswers.{ChainValue}
use Rattle.dns_model.specs.Trails as trails
use Rattle.dns_model.specs.Trails.{HeardValue, AskedValue}
use Rattle.dns_model.specs.Types.{class_in}
use Rattle.dns_report.specs.Fields.{is_u32}
use Rattle.dns_report.specs.View.{Numbered, Shown, Anchored, Matched, KeySet, Signed, ChainView, View}
use Rattle.dns_report.specs.TrailView.{ToldRecord, HeardView, Records, Fault, StepView}
use Rattle.dns_audit.specs.ReportValue.{ReportValue}

abbrev pub link_shown : Shown → LinkValue
link_shown (Anchored owner class key) = trust.Anchored owner class key
link_shown (Matched owner class key ds_link ds) = trust.Matched owner class key ds_link ds
link_shown (KeySet owner class keys) = trust.KeySet owner class (map (λ (k : Numbered). k.1) keys) (map (λ (k : Numbered). k.0) keys)
link_shown (Signed owner class rtype rdatas sig key_link key) = trust.Signed owner class rtype rdatas sig key_link key

abbrev pub chain_shown : ChainView → ChainValue
chain_shown chain = record { section = chain.section; links = map link_shown chain.links }

abbrev pub told_shown : ToldRecord → Rr
told_shown r =
    record { owner = r.owner; rtype = r.rtype; class = r.class; ttl = r.ttl; rdata = r.rdata; proof = Indeterminate }

abbrev pub heard_shown : HeardView → HeardValue
heard_shown (Records code empty answers authorities additionals) =
    trails.Records (record {
      code = code;
      answers = map told_shown answers;
      authorities = map told_shown authorities;
      additionals = map told_shown additionals;
    }) empty
heard_shown Fault = trails.Fault

abbrev pub step_shown : StepView → AskedValue
step_shown step = record {
  depth = step.depth;
  judged = step.judged;
  query = record { owner = step.owner; rtype = step.rtype; class = class_in };
  reply = heard_shown step.reply;
  sets = step.sets;
  ending = step.ending;
  excuse = step.excuse;
}

abbrev pub report_shown : View → ReportValue
report_shown v = record {
  code = v.code;
  denial = v.denial;
  answers = v.answers;
  authorities = v.authorities;
  additionals = v.additionals;
  chains = map chain_shown v.chains;
  trail = option_map (λ steps. map step_shown steps) v.trail;
}

-- ---- what fits into a report beside the widths of fields: rdatas of at most 65,535 bytes, and counts of 32 bits

abbrev pub is_short : List ℕ → Bool
is_short bytes = nat_le (length bytes) 65535

abbrev pub short_key : Numbered → Bool
short_key pair = is_short pair.1

abbrev pub short_link : Shown → Bool
short_link (Anchored owner class key) = is_short key
short_link (Matched owner class key ds_link ds) = is_short key && is_short ds
short_link (KeySet owner class keys) = list_all short_key keys
short_link (Signed owner class rtype rdatas sig key_link key) = is_short key && (is_short sig && list_all is_short rdatas)

abbrev pub short_chain : ChainView → Bool
short_chain chain = is_u32 (length chain.links) && list_all short_link chain.links

abbrev pub short_record : Rr → Bool
short_record r = is_short r.rdata

abbrev pub short_told : ToldRecord → Bool
short_told r = is_short r.rdata

abbrev pub short_heard : HeardView → Bool
short_heard (Records code empty answers authorities additionals) =
    list_all short_told answers && (list_all short_told authorities && list_all short_told additionals)
short_heard Fault = true

abbrev pub short_step : StepView → Bool
short_step step = short_heard step.reply

abbrev pub short_trail : Option (List StepView) → Bool
short_trail None = true
short_trail (Some steps) = is_u32 (length steps) && list_all short_step steps

abbrev pub short_view : View → Bool
short_view v =
    list_all short_record v.answers && (list_all short_record v.authorities && (list_all short_record v.additionals
    && (list_all short_chain v.chains && short_trail v.trail)))
