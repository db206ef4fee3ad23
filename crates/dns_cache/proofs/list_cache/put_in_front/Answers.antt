use Rattle.std.proofs.Common.{◌≡◌, ◌+◌, Some, None, take, sym, ap, ◌∙◌}
use Rattle.std.specs.Prelude.{Option, ℕ, List, position, remove}
use Rattle.dns_rules.specs.CacheKeys.{CacheKeyValue}
use Rattle.dns_rules.specs.CacheEntries.{EntryValue}
use Rattle.dns_cache.specs.CacheLists.{has_key}
use Rattle.dns_cache.proofs.ListLemmas.{put_more, put_over, remove_next}
use Rattle.dns_cache.proofs.list_cache.put_in_front.Goals as goal

-- what a search for a key found in a list
searched : (key own : CacheKeyValue) (entries shown : List EntryValue) (told wanted : Option ℕ) → own ≡ key → shown ≡ entries
    → told ≡ position (has_key own) shown → told ≡ wanted → position (has_key key) entries ≡ wanted
searched key own entries shown told wanted same lent by is =
    ap (λ k. position (has_key k) entries) (sym same) ∙ ap (position (has_key own)) (sym lent) ∙ sym by ∙ is

pub returns-in-Some-clause-ok : goal.returns-in-Some-clause-ok
returns-in-Some-clause-ok c =
    let first : position (has_key c.args.entry.key) c.args.entries.now.items ≡ Some c.in-Some.place =
    searched c.args.entry.key c.entry.inside.key c.args.entries.now.items c.deref.result.now c.place_of-place.result (Some c.in-Some.place)
    (ap (λ (e : EntryValue). e.key) c.entry.view_is) c.deref.ensures.value c.place_of-place.ensures c.in-Some.is in
    c.remove.ensures.items
    ∙ ap (λ es. remove es (c.in-Some.place + 1)) c.in_ok-insert.ensures.items
    ∙ remove_next c.args.entry c.args.entries.now.items c.in-Some.place
    ∙ put_over c.args.entry c.args.entries.now.items c.args.capacity c.in-Some.place c.requires first

pub returns-in-None-clause-ok : goal.returns-in-None-clause-ok
returns-in-None-clause-ok c =
    let none : position (has_key c.args.entry.key) c.args.entries.now.items ≡ None =
    searched c.args.entry.key c.entry.inside.key c.args.entries.now.items c.deref.result.now c.place_of-place.result None
    (ap (λ (e : EntryValue). e.key) c.entry.view_is) c.deref.ensures.value c.place_of-place.ensures c.in-None.is in
    c.truncate.ensures.items
    ∙ ap (take c.args.capacity) c.in_ok-insert.ensures.items
    ∙ put_more c.args.entry c.args.entries.now.items c.args.capacity none
