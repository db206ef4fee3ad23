-- What may come of a transfer, by what may come of the stream inside.
use Rattle.std.proofs.Common.{◌≡◌, Bool, true, false, List, [], ◌∷◌, Option, Some, Result, Ok, Err, refl, subst}
use Rattle.futures.specs.Runs.{Runs, After, Within}
use Rattle.dns_model.specs.SoundAnswers.{ResponseValue}
use Rattle.dns_handle.specs.declared.error.NetError.TheVariants.{Message}
use Rattle.dns_handle.specs.declared.notice.Notice.{Notice}
use Rattle.dns_transfer.specs.Transfers.{Transfer, answer_by, is_ended}
use Rattle.dns_transfer.specs.TransferStreams.{Item, given_by, given_for, left_after, ComesOf, LastBy, YieldsTransfer}
use Rattle.dns_transfer.specs.declared.stage.Stage.{Stage}

last_within : (ended : Bool) (old new : Runs Item) (transfer : Transfer) → Within old new → (last : Option Item)
    → LastBy ended new transfer last → LastBy ended old transfer last
last_within true old new transfer within last may = may
last_within false old new transfer within last may =
    record { inner = may.inner; came = within [] may.inner may.came; given = may.given }

-- what may come of a stream that gives no more than another may come of that one
pub transfer_within : (old new : Runs Item) (transfer : Transfer) → Within old new
    → Within (YieldsTransfer old transfer) (YieldsTransfer new transfer)
transfer_within old new transfer within [] last may = last_within (is_ended transfer) old new transfer within last may
transfer_within old new transfer within (x ∷ items) last may = (
  may.0,
  may.1,
  within [] (Some may.0) may.2,
  may.3,
  transfer_within (λ rest. old (may.0 ∷ rest)) (λ rest. new (may.0 ∷ rest)) (left_after transfer may.0)
      (λ rest. within (may.0 ∷ rest)) items last may.4,
)

-- after an item comes what may come of the rest
pub transfer_after_item : (old new : Runs Item) (transfer next : Transfer) (x inner : Item) → is_ended transfer ≡ false
    → old [] (Some inner) → x ≡ given_for transfer inner → next ≡ left_after transfer inner → After old inner new
    → After (YieldsTransfer old transfer) x (YieldsTransfer new next)
transfer_after_item old new transfer next x inner goes came given left after items last may =
    let P : Transfer → Type 0 = λ t. YieldsTransfer new t items last in
    let rest : YieldsTransfer (λ more. old (inner ∷ more)) (left_after transfer inner) items last =
    transfer_within (λ more. old (inner ∷ more)) new (left_after transfer inner) after items last (subst P left may) in
    (inner, goes, came, given, rest)

-- while the transfer goes on, an answer comes of one of the stream inside
pub last_goes : (ended : Bool) (source : Runs Item) (transfer : Transfer) (last : Option Item) → ended ≡ false
    → ComesOf source transfer last → LastBy ended source transfer last
last_goes true source transfer last goes comes = cc
last_goes false source transfer last goes comes = comes

-- what a message is given as, by what is answered to its records
pub given_ok : (stage : Result Stage Notice) (response : ResponseValue) → answer_by stage ≡ Ok tt
    → Ok response ≡ given_by stage response
given_ok (Ok stage) response answered = refl
given_ok (Err notice) response answered = cc

pub given_err : (stage : Result Stage Notice) (notice : Notice) (response : ResponseValue) → answer_by stage ≡ Err notice
    → Err (Message notice) ≡ given_by stage response
given_err (Ok stage) notice response answered = cc
given_err (Err other) notice response answered = cc
