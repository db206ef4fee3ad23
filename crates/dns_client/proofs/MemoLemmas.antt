-- What a memo keeps under a key, it keeps for each question with that key.
use Rattle.std.proofs.Common.{◌≡◌, ◌≢◌, ℕ, true, false, cond, Option, Some, None, Err, refl, sym, ap, subst, ◌∙◌, inl, inr, true≢false}
use Rattle.std.specs.Prelude.{IsSome}
use Rattle.std.specs.BTreeMap as tree
use Rattle.std.specs.BTreeMap.{BTreeMap}
use Rattle.std.specs.Option.{option_map}
use Rattle.dns_model.specs.Records.{Question, question_eq}
use Rattle.dns_handle.specs.Errors as seen
use Rattle.dns_handle.specs.Errors.{Reply}
use Rattle.dns_handle.specs.QueryKeys.{key_cmp, key_of}
use Rattle.dns_handle.specs.Requests.{RequestValue, first_question}
use Rattle.dns_handle.specs.declared.handle.DnsHandle as handle
use Rattle.dns_handle.specs.declared.notice.Notice.TheVariants.{NoQueryInRequest}
use Rattle.dns_handle.specs.declared.query_key.QueryKey.{QueryKey}
use Rattle.dns_handle.proofs.KeyLemmas.{key_ties}
use Rattle.dns_client.specs.Memos.{AnswersOnce, Again, Asked, IsPut, IsSent, Lost, Refused, Unsent}
use Rattle.dns_client.specs.MemoParts.{GivesKept, IsKeptUnder, kept_in, says_no_memory}

-- a reply that doesn't say that memory ran out is another one
pub remembered : (came : Reply) → says_no_memory came ≡ false → came ≢ Err seen.NoMemory
remembered came says same = true≢false (sym (ap says_no_memory same) ∙ says)

-- a reply that is put under a question's key is put for that question
put_under : (before after : BTreeMap QueryKey Reply) (q : Question) (came : Reply)
    → tree.Updates key_cmp before after (key_of q) (Some came) → IsPut (kept_in before) q came (kept_in after)
put_under before after q came updates p =
    updates.0 (key_of p) ∙ ap (λ b. cond b (Some came) (tree.get key_cmp before (key_of p))) (sym (key_ties q p))

-- where nothing is given, nothing is kept
pub nothing_kept : (found : Option Reply) → GivesKept found None → found ≡ None
nothing_kept None gives = refl
nothing_kept (Some kept) gives = absurd gives

module _ {H : Type 0} (meanings : handle.Ghosts H) (request : RequestValue) (now : ℕ) where
  -- a request without a question
  pub refused : (kept : BTreeMap QueryKey Reply) (client : H) (first : Option Question) → first_question request ≡ first
      → None ≡ option_map key_of first
      → AnswersOnce meanings request now (kept_in kept) (kept_in kept) client client (Err (seen.Message NoQueryInRequest))
  refused kept client None asks none = Refused asks (λ p. refl) refl
  refused kept client (Some q) asks none = absurd (let wrong : Some (key_of q) ≡ None = sym none in cc)

  -- a request with a question, for whose key there is no memory
  pub unsent : (kept : BTreeMap QueryKey Reply) (client : H) (first : Option Question) → first_question request ≡ first
      → IsSome first → AnswersOnce meanings request now (kept_in kept) (kept_in kept) client client (Err seen.NoMemory)
  unsent kept client None asks some = absurd (true≢false (sym some))
  unsent kept client (Some q) asks some = Unsent q asks (λ p. refl) refl

  -- a request whose question has a kept reply
  pub given_again : (kept : BTreeMap QueryKey Reply) (client : H) (first : Option Question) (key : QueryKey)
      (found : Option Reply) (reply : Reply) → first_question request ≡ first → Some key ≡ option_map key_of first
      → tree.get key_cmp kept key ≡ found → GivesKept found (Some reply)
      → AnswersOnce meanings request now (kept_in kept) (kept_in kept) client client reply
  given_again kept client None key found reply asks same is gives =
      absurd (let wrong : Some key ≡ None = same in cc)
  given_again kept client (Some q) key None reply asks same is gives =
      absurd (let wrong : Some reply ≡ None = gives in cc)
  given_again kept client (Some q) key (Some was) reply asks same is gives =
      let key_is : key ≡ key_of q = cc in
      Again q was reply asks (subst (λ k. tree.get key_cmp kept k ≡ Some was) key_is is) gives (λ p. refl) refl

  -- a request whose question was sent, by what became of the reply
  pub asked_once : (before after : BTreeMap QueryKey Reply) (old new : H) (first : Option Question) (key : QueryKey)
      (came reply : Reply) → first_question request ≡ first → Some key ≡ option_map key_of first
      → tree.get key_cmp before key ≡ None → IsSent meanings request now old new came
      → IsKeptUnder before after key came reply
      → AnswersOnce meanings request now (kept_in before) (kept_in after) old new reply
  asked_once before after old new None key came reply asks same none sent keeps =
      absurd (let wrong : Some key ≡ None = same in cc)
  asked_once before after old new (Some q) key came reply asks same none sent keeps =
      let key_is : key ≡ key_of q = cc in
      let none_kept : kept_in before q ≡ None = subst (λ k. tree.get key_cmp before k ≡ None) key_is none in
      elim keeps as (λ _. AnswersOnce meanings request now (kept_in before) (kept_in after) old new reply) [
        | inl kept ↦
            let updates = subst (λ k. tree.Updates key_cmp before after k (Some came)) key_is kept.1 in
            Asked q came reply asks none_kept sent kept.0 (put_under before after q came updates) kept.2
        | inr lost ↦
            subst (λ r. AnswersOnce meanings request now (kept_in before) (kept_in after) old new r) (sym lost.0)
            (Lost q came asks none_kept sent (λ p. lost.1 (key_of p)))
      ]
