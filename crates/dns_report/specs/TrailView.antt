-- What a report shows of a trail (RFC 4035, 4.3): each step's question without its class, the records that it heard without their
-- marks, and the rest whole.
use Rattle.std.specs.Prelude.{ℕ, Bool, true, ◌&&◌, nat_lt, ◌^◌, List, map, length, Option, None, Some}
use Rattle.std.specs.List.{list_all}
use Rattle.dns_model.specs.Bytes.{is_bytes}
use Rattle.dns_model.specs.Names.{Labels}
use Rattle.dns_model.specs.Records.{Rr}
use Rattle.dns_model.specs.declared.trail.AskRef.{AskRef}
use Rattle.dns_model.specs.declared.trail.AskRef.TheVariants.{Step}
use Rattle.dns_model.specs.declared.trail.MarkOrigin.{MarkOrigin}
use Rattle.dns_model.specs.declared.trail.MarkOrigin.TheVariants.{Repeat}
use Rattle.dns_model.specs.Trails as trails
use Rattle.dns_model.specs.Trails.{HeardValue, JudgedSetValue, EndingValue, Answered, Denied, Foreign, Failed, Seen, AskedValue}
use Rattle.dns_report.specs.Fields.{fitting_name, is_u16, is_u32}
use Rattle.std.specs.Option.{option_map_or}

-- a record as it was told, without a mark
pub record ToldRecord : Type 0 where
  pub owner : Labels
  pub rtype : ℕ
  pub class : ℕ
  pub ttl : ℕ
  pub rdata : List ℕ

abbrev pub unmarked : Rr → ToldRecord
unmarked r = record { owner = r.owner; rtype = r.rtype; class = r.class; ttl = r.ttl; rdata = r.rdata }

-- what was heard of a reply: its code, whether it said that there are no records, and those that it told; or a fault
pub data HeardView : Type 0 where
  Records : (code : ℕ) (empty : Bool) (answers authorities additionals : List ToldRecord) → HeardView
  Fault : HeardView

abbrev pub heard_view : HeardValue → HeardView
heard_view (trails.Records told empty) =
    Records told.code empty (map unmarked told.answers) (map unmarked told.authorities) (map unmarked told.additionals)
heard_view trails.Fault = Fault

-- a step as its lines show it
pub record StepView : Type 0 where
  pub depth : ℕ
  pub judged : Bool
  pub owner : Labels
  pub rtype : ℕ
  pub reply : HeardView
  pub sets : List JudgedSetValue
  pub ending : EndingValue
  pub excuse : List AskRef

abbrev pub step_view : AskedValue → StepView
step_view step = record {
  depth = step.depth;
  judged = step.judged;
  owner = step.query.owner;
  rtype = step.query.rtype;
  reply = heard_view step.reply;
  sets = step.sets;
  ending = step.ending;
  excuse = step.excuse;
}

-- ---- what can stand in a trail: names (RFC 1035, 3.1), bytes, and numbers of their fields' widths

abbrev pub fitting_told : ToldRecord → Bool
fitting_told r = fitting_name r.owner && (is_u16 r.class && (is_u16 r.rtype && (is_u32 r.ttl && is_bytes r.rdata)))

abbrev pub fitting_heard : HeardView → Bool
fitting_heard (Records code empty answers authorities additionals) =
    is_u16 code && (list_all fitting_told answers && (list_all fitting_told authorities && list_all fitting_told additionals))
fitting_heard Fault = true

abbrev pub fitting_ask : AskRef → Bool
fitting_ask (Step number) = is_u32 number
fitting_ask _ = true

abbrev pub fitting_origin : MarkOrigin → Bool
fitting_origin (Repeat number) = is_u32 number
fitting_origin _ = true

abbrev pub fitting_set : JudgedSetValue → Bool
fitting_set set =
    fitting_name set.owner && (is_u16 set.rtype && (fitting_origin set.origin && (option_map_or is_u32 set.sig true && list_all fitting_ask set.asked)))

abbrev pub fitting_ending : EndingValue → Bool
fitting_ending (Foreign owner class rtype) = fitting_name owner && (is_u16 class && is_u16 rtype)
fitting_ending _ = true

abbrev pub fitting_step : StepView → Bool
fitting_step step =
    is_u16 step.depth && (fitting_name step.owner && (is_u16 step.rtype && (fitting_heard step.reply
    && (list_all fitting_set step.sets && (fitting_ending step.ending && list_all fitting_ask step.excuse)))))

-- a trail that isn't shown fits
abbrev pub fitting_trail : Option (List StepView) → Bool
fitting_trail None = true
fitting_trail (Some steps) = nat_lt (length steps) (2 ^ 64) && list_all fitting_step steps
