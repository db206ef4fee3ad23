-- What status 0 says: nothing that counts is worse than Secure.
use Rattle.std.proofs.Common.{◌≡◌, ℕ, Bool, true, false, not, ◌&&◌, ◌||◌, List, [], ◌∷◌}
use Rattle.std.proofs.Common.{Option, None, Some, Ok, Err, refl, ap, if◌then◌else◌}
use Rattle.std.specs.Prelude.{IfSome}
use Rattle.std.specs.List.{list_any, list_all}
use Rattle.std.specs.Option.{option_map_or}
use Rattle.dns_model.specs.declared.proof.Proof.{Proof}
use Rattle.dns_model.specs.declared.proof.Proof.TheVariants.{Secure, Insecure, Bogus, Indeterminate}
use Rattle.dns_model.specs.Records.{Rr, Question}
use Rattle.dns_model.specs.SoundAnswers.{is_secure}
use Rattle.dns_handle.specs.Errors.{ErrorValue, DnsErrorValue, Reply, ResponseCode, NoRecordsFound, Nsec, DnssecBogus}
use Rattle.dns_handle.specs.Errors.{Busy, Dns, Message, Msg, NoConnections, Proto, Io, Timeout, QueryCaseMismatch}
use Rattle.dns_handle.specs.Errors.{ForeignClassRecord, Truncated, NoMemory}
use Rattle.dns_query_answer.specs.Status.{IsAllSecure, IsProved, answer_status, counts, denial_mark, error_status}
use Rattle.dns_query_answer.specs.Status.{has_status, shows_status, worst_status}

-- a mark that is neither Bogus nor Insecure is Secure
secure_mark : (p : Proof) → has_status 3 p ≡ false → has_status 1 p ≡ false → p ≡ Secure
secure_mark Secure bogus insecure = refl
secure_mark Insecure bogus insecure = cc
secure_mark Bogus bogus insecure = cc
secure_mark Indeterminate bogus insecure = cc

-- the same of one that counts or not
counted_mark : (counted : Bool) (p : Proof) → (counted && has_status 3 p) ≡ false → (counted && has_status 1 p) ≡ false
    → (not counted || is_secure p) ≡ true
counted_mark false p bogus insecure = refl
counted_mark true p bogus insecure = ap is_secure (secure_mark p bogus insecure)

or_false : (a b : Bool) → (a || b) ≡ false → a ≡ false
or_false false b neither = refl
or_false true b neither = cc

or_false_right : (a b : Bool) → (a || b) ≡ false → b ≡ false
or_false_right false b neither = neither
or_false_right true b neither = cc

and_true : (a b : Bool) → a ≡ true → b ≡ true → (a && b) ≡ true
and_true a b one other = rw (one, other) refl

-- records of which none that counts is Bogus or Insecure
secure_records : (q : Question) (records : List Rr) → list_any (λ r. counts q r && has_status 3 r.proof) records ≡ false
    → list_any (λ r. counts q r && has_status 1 r.proof) records ≡ false
    → list_all (λ r. not (counts q r) || is_secure r.proof) records ≡ true
secure_records q [] bogus insecure = refl
secure_records q (r ∷ rs) bogus insecure =
    and_true _ _
    (counted_mark (counts q r) r.proof (or_false _ _ bogus) (or_false _ _ insecure))
    (secure_records q rs (or_false_right (counts q r && has_status 3 r.proof) _ bogus)
    (or_false_right (counts q r && has_status 1 r.proof) _ insecure))

secure_denial : (denial : Option Proof) → option_map_or (has_status 3) denial false ≡ false
    → option_map_or (has_status 1) denial false ≡ false → IfSome denial (λ mark. mark ≡ Secure)
secure_denial None bogus insecure = tt
secure_denial (Some p) bogus insecure = secure_mark p bogus insecure

-- so it is where neither a record nor the denial has a worse status
secure_both : (q : Question) (denial : Option Proof) (records : List Rr) → shows_status 3 q denial records ≡ false
    → shows_status 1 q denial records ≡ false → shows_status 0 q denial records ≡ true → IsAllSecure q denial records
secure_both q denial records bogus insecure secure = record {
  all = secure_records q records (or_false _ _ bogus) (or_false _ _ insecure);
  denied = secure_denial denial
      (or_false_right (list_any (λ r. counts q r && has_status 3 r.proof) records) _ bogus)
      (or_false_right (list_any (λ r. counts q r && has_status 1 r.proof) records) _ insecure);
  some = secure;
}

three_no_0 : ◌≡◌ {A = ℕ} 3 0 → ⊥
three_no_0 h = cc

one_no_0 : ◌≡◌ {A = ℕ} 1 0 → ⊥
one_no_0 h = cc

four_no_0 : ◌≡◌ {A = ℕ} 4 0 → ⊥
four_no_0 h = cc

six_no_0 : ◌≡◌ {A = ℕ} 6 0 → ⊥
six_no_0 h = cc

-- the last case but one is that of status 0
record IsZeroCase (bogus insecure secure : Bool) : Type 0 where
  no_bogus : bogus ≡ false
  no_insecure : insecure ≡ false
  has_secure : secure ≡ true

zero_case : (a b c : Bool) → ◌≡◌ {A = ℕ} (if a then 3 else if b then 1 else if c then 0 else 3) 0 → IsZeroCase a b c
zero_case true b c zero = absurd (three_no_0 zero)
zero_case false true c zero = absurd (one_no_0 zero)
zero_case false false false zero = absurd (three_no_0 zero)
zero_case false false true zero = record { no_bogus = refl; no_insecure = refl; has_secure = refl }

-- status 0 comes only so
pub all_secure : (q : Question) (denial : Option Proof) (records : List Rr) → worst_status q denial records ≡ 0
    → IsAllSecure q denial records
unfolding worst_status
all_secure q denial records zero =
    let only = zero_case (shows_status 3 q denial records) (shows_status 1 q denial records)
    (shows_status 0 q denial records) zero in
    secure_both q denial records only.no_bogus only.no_insecure only.has_secure

refused_proved : (q : Question) (e : DnsErrorValue) → error_status q (Dns e) ≡ 0 → IsProved q (Err (Dns e))
refused_proved q (ResponseCode code) zero = four_no_0 zero
refused_proved q (NoRecordsFound missing) zero = four_no_0 zero
refused_proved q (Nsec asked response proof) zero = all_secure q (Some proof) response.message.answers zero
refused_proved q DnssecBogus zero = three_no_0 zero

error_proved : (q : Question) (e : ErrorValue) → error_status q e ≡ 0 → IsProved q (Err e)
error_proved q Busy zero = four_no_0 zero
error_proved q (Dns e) zero = refused_proved q e zero
error_proved q (Message notice) zero = four_no_0 zero
error_proved q (Msg text) zero = four_no_0 zero
error_proved q NoConnections zero = four_no_0 zero
error_proved q (Proto error) zero = four_no_0 zero
error_proved q (Io kind) zero = four_no_0 zero
error_proved q Timeout zero = four_no_0 zero
error_proved q QueryCaseMismatch zero = four_no_0 zero
error_proved q (ForeignClassRecord owner class rtype) zero = four_no_0 zero
error_proved q Truncated zero = four_no_0 zero
error_proved q NoMemory zero = six_no_0 zero

-- so it is of whatever a lookup came to
pub proved : (q : Question) (reply : Reply) → answer_status q reply ≡ 0 → IsProved q reply
proved q (Ok answer) zero = all_secure q (denial_mark answer.denial) answer.message.answers zero
proved q (Err error) zero = error_proved q error zero
