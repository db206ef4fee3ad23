use Rattle.std.proofs.Common.{ℕ, ap, refl, subst, sym, ◌∙◌}
use Rattle.std.proofs.lemmas.Result.{err_from_is_err_and}
use Rattle.std.specs.Option.{option_map}
use Rattle.dns_record.specs.declared.no_memory.NoMemory.{NoMemory}
use Rattle.dns_validation.specs.Validations.{AcceptedWhereKept}
use Rattle.dns_lookup.proofs.ServingLoop.{hits_any}
use Rattle.dns_lookup.proofs.lookup.hand_on.Goals as goal

pub returns-in_err-given-clause-handed : goal.returns-in_err-given-clause-handed
returns-in_err-given-clause-handed g c =
    let p = err_from_is_err_and c.from_residual.result c.from_residual.ensures.1 in
    rw p.1 (record { left = c.in_err-given.ensures.after; same = refl })

pub found-requires : goal.found-requires
found-requires g c = record {
  accepted = subst (λ answers. AcceptedWhereKept answers c.in_ok-given.given) (sym c.requires.verifier)
      c.in_ok-given.ensures.accepted;
}

pub returns-clause-handed : goal.returns-clause-handed
returns-clause-handed g c = record {
  given = c.in_ok-given.given;
  gives = c.in_ok-given.ensures.may_give;
  got = record {
    hits = c.in_ok-given.ensures.given;
    told = c.in_ok-given.ensures.found;
    left = c.in_ok-given.ensures.after;
    count = c.in_ok-given.ensures.hits
        ∙ hits_any NoMemory ℕ (g.C.ValidationCache.hits c.args.cache.now) (option_map (λ p. p.0) c.in_ok-given.given);
    known = c.in_ok-given.ensures.told;
    listed = c.in_ok-given.ensures.listed_before;
  };
  taken = c.found.ensures.taken;
  idle = c.found.ensures.idle;
}
