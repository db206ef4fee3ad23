-- What is saved of notes, one after another.
use Rattle.std.proofs.Common.{◌≡◌, List, [], ◌∷◌, ◌++◌, subst, sym, ap, ◌∙◌, append_assoc, inl, inr}
use Rattle.std.proofs.lemmas.List.{append-nil}
use Rattle.dns_query_handle.specs.Notes.{NoteValue}
use Rattle.dns_saved_lookup.specs.Heard.{IsSavedOf, IsUnsaid}
use Rattle.dns_saved_lookup.specs.declared.save_error.SaveError.{SaveError}
use Rattle.dns_saved_session.specs.Saved.{SavedReplyValue}
use Rattle.dns_query_run.specs.Saving.{AreSavedOf, HasUnsaid}

-- what the notes that are left come to, behind the replies so far, is what all come to
abbrev pub Continues : List NoteValue → List SavedReplyValue → List NoteValue → Type 0
Continues notes replies left =
    ((rest : List SavedReplyValue) → AreSavedOf left rest → AreSavedOf notes (replies ++ rest))
    × ((why : SaveError) → HasUnsaid why left → HasUnsaid why notes)

pub continues_more : (notes : List NoteValue) (replies : List SavedReplyValue) (note : NoteValue)
    (more : List NoteValue) (reply : SavedReplyValue) (pushed : List SavedReplyValue)
    → Continues notes replies (note ∷ more) → IsSavedOf note.question note.reply reply → pushed ≡ replies ++ reply ∷ []
    → Continues notes pushed more
continues_more notes replies note more reply pushed so_far saved is = (
  λ rest later.
      subst (λ l. AreSavedOf notes l) (sym (ap (λ l. l ++ rest) is ∙ append_assoc replies (reply ∷ []) rest))
      (so_far.0 (reply ∷ rest) (saved, later)),
  λ why later. so_far.1 why (inr later),
)

pub continues_end : (notes : List NoteValue) (replies : List SavedReplyValue) → Continues notes replies []
    → AreSavedOf notes replies
continues_end notes replies so_far = subst (λ l. AreSavedOf notes l) (append-nil replies) (so_far.0 [] tt)

pub unsaid_here : (notes : List NoteValue) (replies : List SavedReplyValue) (note : NoteValue) (more : List NoteValue)
    (why : SaveError) → Continues notes replies (note ∷ more) → IsUnsaid note.reply why → HasUnsaid why notes
unsaid_here notes replies note more why so_far unsaid = so_far.1 why (inl unsaid)
