-- What a report shows of an answer: its code, what it denies, the records of its sections, its chains, and its trail where that is
-- asked for. The message's other fields aren't shown.
use Rattle.std.specs.Prelude.{ℕ, Bool, ◌&&◌, nat_lt, ◌^◌, List, [], ◌∷◌, map, length, Option, None, Some}
use Rattle.std.specs.List.{list_all}
use Rattle.dns_model.specs.Bytes.{is_bytes}
use Rattle.dns_model.specs.Names.{Labels}
use Rattle.dns_model.specs.declared.section.Section.{Section}
use Rattle.dns_model.specs.declared.denial.Denial.{Denial}
use Rattle.dns_model.specs.Records.{Rr}
use Rattle.dns_model.specs.Chains as trust
use Rattle.dns_model.specs.Chains.{Judge, justified}
use Rattle.dns_model.specs.Trails.{AskedValue}
use Rattle.dns_model.specs.SoundAnswers.{ChainValue, ResponseValue}
use Rattle.dns_report.specs.declared.parts.Parts.{Parts}
use Rattle.dns_report.specs.declared.parts.Parts.TheVariants as parts
use Rattle.dns_report.specs.Fields.{fitting_name, is_u16, is_u32}
use Rattle.dns_report.specs.TrailView.{StepView, step_view, fitting_trail}

-- a key of a set, after the number of the link that shows it
abbrev pub Numbered : Type 0
Numbered = ℕ × List ℕ

-- a link of a chain as its line shows it
pub data Shown : Type 0 where
  Anchored : (owner : Labels) (class : ℕ) (key : List ℕ) → Shown
  Matched : (owner : Labels) (class : ℕ) (key : List ℕ) (ds_link : ℕ) (ds : List ℕ) → Shown
  KeySet : (owner : Labels) (class : ℕ) (keys : List Numbered) → Shown
  Signed : (owner : Labels) (class : ℕ) (rtype : ℕ) (rdatas : List (List ℕ)) (sig : List ℕ) (key_link : ℕ) (key : List ℕ) → Shown

-- each key with its number, as long as there are both
unfoldable pub numbered : List (List ℕ) → List ℕ → List Numbered
numbered (key ∷ keys) (number ∷ numbers) = (number, key) ∷ numbered keys numbers
numbered _ _ = []

abbrev pub shown_link : trust.LinkValue → Shown
shown_link (trust.Anchored owner class key) = Anchored owner class key
shown_link (trust.Matched owner class key ds_link ds) = Matched owner class key ds_link ds
shown_link (trust.KeySet owner class keys links) = KeySet owner class (numbered keys links)
shown_link (trust.Signed owner class rtype rdatas sig key_link key) = Signed owner class rtype rdatas sig key_link key

pub record ChainView : Type 0 where
  pub section : Section
  pub links : List Shown

abbrev pub chain_view : ChainValue → ChainView
chain_view chain = record { section = chain.section; links = map shown_link chain.links }

-- the steps of a trail, where they are asked for
abbrev pub trail_view : Parts → List AskedValue → Option (List StepView)
trail_view parts.Answer trail = None
trail_view parts.WithTrail trail = Some (map step_view trail)

pub record View : Type 0 where
  pub code : ℕ
  pub denial : Denial
  pub answers : List Rr
  pub authorities : List Rr
  pub additionals : List Rr
  pub chains : List ChainView
  pub trail : Option (List StepView)

-- what a report shows of an answer, with the trail or without
abbrev pub view_of : Parts → ResponseValue → View
view_of shows answer = record {
  code = answer.message.response_code;
  denial = answer.denial;
  answers = answer.message.answers;
  authorities = answer.message.authorities;
  additionals = answer.message.additionals;
  chains = map chain_view answer.chains;
  trail = trail_view shows answer.trail;
}

-- ---- what can stand in an answer: names (RFC 1035, 3.1), bytes, and numbers of their fields' widths

abbrev pub fitting_record : Rr → Bool
fitting_record r = fitting_name r.owner && (is_u16 r.class && (is_u16 r.rtype && (is_u32 r.ttl && is_bytes r.rdata)))

abbrev pub fitting_key : Numbered → Bool
fitting_key pair = is_u32 pair.0 && is_bytes pair.1

abbrev pub fitting_link : Shown → Bool
fitting_link (Anchored owner class key) = fitting_name owner && (is_u16 class && is_bytes key)
fitting_link (Matched owner class key ds_link ds) = fitting_name owner && (is_u16 class && (is_bytes key && (is_u32 ds_link && is_bytes ds)))
fitting_link (KeySet owner class keys) = fitting_name owner && (is_u16 class && list_all fitting_key keys)
fitting_link (Signed owner class rtype rdatas sig key_link key) =
    fitting_name owner && (is_u16 class && (is_u16 rtype && (is_u32 key_link && (is_bytes key && (is_bytes sig && list_all is_bytes rdatas)))))

abbrev pub fitting_chain : ChainView → Bool
fitting_chain chain = nat_lt (length chain.links) (2 ^ 64) && list_all fitting_link chain.links

abbrev pub fitting_view : View → Bool
fitting_view v =
    is_u16 v.code && (list_all fitting_record v.answers && (list_all fitting_record v.authorities && (list_all fitting_record v.additionals
    && (list_all fitting_chain v.chains && fitting_trail v.trail))))

-- each chain is justified (RFC 4035, 5.2 and 5.3), so that each key of its key sets has the number of a link
abbrev pub all_justified : Judge → List ChainValue → Bool
all_justified j chains = list_all (λ chain. justified j chain.links) chains
