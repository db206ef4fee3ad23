use Rattle.std.proofs.Common.{sym, ◌∙◌, inl}
use Rattle.dns_client.proofs.MemoLemmas.{remembered}
use Rattle.dns_client.proofs.memoize_client_handle.keep.Goals as goal

pub returns : goal.returns
returns c =
    inl (
      remembered _ (sym c.says_no_memory.ensures ∙ c.if-says_no_memory.false),
      c.in_ok-insert.ensures.updates,
      c.again-copy.ensures,
    )
