-- Answers on worked rows: the set that a chain ends at, answers that are sound, and answers that aren't.
use Rattle.std.specs.Prelude.{◌≡◌, ℕ, true, false, ◌==◌, List, [], ◌∷◌, map, None, refl}
use Rattle.dns_model.specs.NameForm.{label_in, labels_in, name_in}
use Rattle.dns_model.specs.Keys.{bytes_eq}
use Rattle.dns_model.specs.Chains.{LinkValue, judge, last_link, ends_at}
use Rattle.dns_model.specs.SoundAnswers.{Told, ResponseValue, Sound}
use Rattle.dns_model.specs.declared.proof.Proof.{Proof}
use Rattle.dns_model.specs.declared.proof.Proof.TheVariants.{Secure, Bogus, Indeterminate}
use Rattle.dns_model.specs.declared.section.Section.TheVariants.{Answer}
use Rattle.dns_model.specs.declared.denial.Denial.TheVariants.{None as Nothing}
use Rattle.std.proofs.Common.{sym, ◌∙◌, ap, true≢false, ◌≤◌, lit≤, arith}
use Rattle.dns_model.specs.Views.{rrsig_in}
use Rattle.dns_model.specs.Records.{Rr, RrSet}
use Rattle.dns_model.specs.Sections.{leaders, sets_of}
use Rattle.dns_model.proofs.Worked.{key, name_a, signature, verifier, anchors, chain_by, justified_at_1000, not_justified_after_its_end}

-- ---- the set that the chain ends at, and a sound answer

abbrev pub record_of : ℕ → ℕ → List ℕ → Proof → Rr
record_of rtype ttl rdata mark = record { owner = []; rtype = rtype; class = 1; ttl = ttl; rdata = rdata; proof = mark }

abbrev pub told_records : Told
told_records = record {
  code = 0;
  answers = record_of 2 3600 name_a Indeterminate ∷ record_of 46 3600 signature Indeterminate ∷ [];
  authorities = [];
  additionals = [];
}

abbrev pub set_of_root : RrSet
set_of_root = record {
  owner = [];
  rtype = 2;
  class = 1;
  records = record_of 2 1000 name_a Secure ∷ [];
  signatures = record_of 46 1000 signature Secure ∷ [];
}

pub ends_at_the_set : ends_at (chain_by key) set_of_root ≡ true
unfolding last_link
ends_at_the_set = refl

pub ends_at_no_other_type : ends_at (chain_by key) (record set_of_root { rtype = 48 }) ≡ false
unfolding last_link
ends_at_no_other_type = refl

pub ends_at_no_other_class : ends_at (chain_by key) (record set_of_root { class = 3 }) ≡ false
unfolding last_link
ends_at_no_other_class = refl

pub ends_at_no_longer_set : ends_at (chain_by key)
    (record set_of_root { records = record_of 2 1000 name_a Secure ∷ record_of 2 1000 name_a Secure ∷ [] }) ≡ false
unfolding last_link
ends_at_no_longer_set = refl

pub ends_nowhere : ends_at [] set_of_root ≡ false
unfolding last_link
ends_nowhere = refl

-- an answer to the question for the root's NS set, with these records and chains
abbrev pub answer_of : List Rr → List (List LinkValue) → ResponseValue
answer_of records chains = record {
  message = record {
    id = 0;
    response = true;
    op_code = 0;
    authoritative = true;
    truncated = false;
    recursion_desired = false;
    recursion_available = false;
    authentic_data = false;
    checking_disabled = false;
    response_code = 0;
    queries = record { owner = []; rtype = 2; class = 1 } ∷ [];
    answers = records;
    authorities = [];
    additionals = [];
    edns = None;
  };
  chains = map (λ links. record { section = Answer; links = links }) chains;
  denial = Nothing;
  trail = [];
}

-- the root's NS set Secure until 2000, seen at 1000
abbrev pub answer : ResponseValue
answer = answer_of (record_of 2 1000 name_a Secure ∷ record_of 46 1000 signature Secure ∷ []) (chain_by key ∷ [])

pub one_set : sets_of answer.message.answers ≡ set_of_root ∷ []
unfolding sets_of leaders rrsig_in name_in labels_in label_in
one_set = refl

pub sound_answer : Sound (judge verifier anchors 1000) 1000 told_records answer
unfolding sets_of leaders rrsig_in name_in labels_in label_in last_link
sound_answer = record {
  code = refl;
  answers = (
    record {
      owner = refl;
      rtype = refl;
      class = refl;
      rdata = refl;
      plain = λ no. absurd (true≢false no);
      secure = λ yes. (λ signs. absurd (true≢false (sym signs)), refl);
    },
    (
      record {
        owner = refl;
        rtype = refl;
        class = refl;
        rdata = refl;
        plain = λ no. absurd (true≢false no);
        secure = λ yes. (λ signs. refl, refl);
      },
      tt,
    ),
  );
  authorities = tt;
  additionals = tt;
  marks_of_answers = ((refl, tt), tt);
  marks_of_authorities = tt;
  marks_of_additionals = tt;
  deciders_of_answers = (lit≤ tt, tt);
  deciders_of_authorities = tt;
  deciders_of_additionals = tt;
  chains = (record { named = refl; ends = refl; holds = justified_at_1000 }, tt);
}

-- ---- what no answer to these records may be

-- a signature's ttl is its set's
pub not_with_two_ttls :
    Sound (judge verifier anchors 1000) 1000 told_records
    (answer_of (record_of 2 1000 name_a Secure ∷ record_of 46 999 signature Secure ∷ []) (chain_by key ∷ [])) → ⊥
unfolding sets_of leaders rrsig_in name_in labels_in label_in last_link
not_with_two_ttls s = absurd (true≢false (sym (ap (λ n. n == 1000) (s.answers.1.0.secure refl).1)))

pub not_without_a_chain :
    Sound (judge verifier anchors 1000) 1000 told_records
    (answer_of (record_of 2 1000 name_a Secure ∷ record_of 46 1000 signature Secure ∷ []) []) → ⊥
unfolding sets_of leaders
not_without_a_chain s = s.chains

pub not_with_two_chains :
    Sound (judge verifier anchors 1000) 1000 told_records
    (answer_of (record_of 2 1000 name_a Secure ∷ record_of 46 1000 signature Secure ∷ []) (chain_by key ∷ chain_by key ∷ [])) → ⊥
unfolding sets_of leaders
not_with_two_chains s = s.chains.1

pub not_after_its_end : Sound (judge verifier anchors 2001) 2001 told_records answer → ⊥
unfolding sets_of leaders
not_after_its_end s = absurd (true≢false (sym s.chains.0.holds ∙ not_justified_after_its_end))

pub not_with_a_longer_ttl :
    Sound (judge verifier anchors 1000) 1000 told_records
    (answer_of (record_of 2 1001 name_a Secure ∷ record_of 46 1000 signature Secure ∷ []) (chain_by key ∷ [])) → ⊥
unfolding sets_of leaders rrsig_in name_in labels_in label_in last_link
not_with_a_longer_ttl s = absurd (true≢false (sym (ap (λ n. n == 1000) (s.answers.0.secure refl).1)))

pub not_with_a_record_left_out :
    Sound (judge verifier anchors 1000) 1000 told_records (answer_of (record_of 2 1000 name_a Secure ∷ []) (chain_by key ∷ [])) → ⊥
not_with_a_record_left_out s = s.answers.1

pub not_with_another_rdata :
    Sound (judge verifier anchors 1000) 1000 told_records
    (answer_of (record_of 2 1000 (1 ∷ 98 ∷ 0 ∷ []) Secure ∷ record_of 46 1000 signature Secure ∷ []) (chain_by key ∷ [])) → ⊥
not_with_another_rdata s = absurd (true≢false (sym (ap (bytes_eq name_a) s.answers.0.rdata)))

-- a Bogus set keeps its ttl, and has no chain
pub sound_bogus :
    Sound (judge verifier anchors 2001) 2001 told_records
    (answer_of (record_of 2 3600 name_a Bogus ∷ record_of 46 3600 signature Indeterminate ∷ []) [])
unfolding sets_of leaders rrsig_in name_in labels_in label_in
sound_bogus = record {
  code = refl;
  answers = (
    record { owner = refl; rtype = refl; class = refl; rdata = refl; plain = λ no. refl; secure = λ yes. absurd (true≢false (sym yes)) },
    (
      record { owner = refl; rtype = refl; class = refl; rdata = refl; plain = λ no. refl; secure = λ yes. absurd (true≢false (sym yes)) },
      tt,
    ),
  );
  authorities = tt;
  additionals = tt;
  marks_of_answers = ((refl, tt), tt);
  marks_of_authorities = tt;
  marks_of_additionals = tt;
  deciders_of_answers = (lit≤ tt, tt);
  deciders_of_authorities = tt;
  deciders_of_additionals = tt;
  chains = tt;
}

-- ---- the signature that decided, and a copy beside it

-- the root's NS set with its signature told twice
abbrev pub told_twice : Told
told_twice = record told_records {
  answers = record_of 2 3600 name_a Indeterminate ∷ record_of 46 3600 signature Indeterminate ∷ record_of 46 3600 signature
      Indeterminate ∷ [];
}

-- the copy keeps its ttl and has no mark
pub sound_with_a_copy :
    Sound (judge verifier anchors 1000) 1000 told_twice
    (answer_of (record_of 2 1000 name_a Secure ∷ record_of 46 1000 signature Secure ∷ record_of 46 3600 signature Indeterminate ∷ [])
    (chain_by key ∷ []))
unfolding sets_of leaders rrsig_in name_in labels_in label_in last_link
sound_with_a_copy = record {
  code = refl;
  answers = (
    record {
      owner = refl;
      rtype = refl;
      class = refl;
      rdata = refl;
      plain = λ no. absurd (true≢false no);
      secure = λ yes. (λ signs. absurd (true≢false (sym signs)), refl);
    },
    (
      record {
        owner = refl;
        rtype = refl;
        class = refl;
        rdata = refl;
        plain = λ no. absurd (true≢false no);
        secure = λ yes. (λ signs. refl, refl);
      },
      (
        record {
          owner = refl;
          rtype = refl;
          class = refl;
          rdata = refl;
          plain = λ no. refl;
          secure = λ yes. absurd (true≢false (sym yes));
        },
        tt,
      ),
    ),
  );
  authorities = tt;
  additionals = tt;
  marks_of_answers = ((refl, tt), tt);
  marks_of_authorities = tt;
  marks_of_additionals = tt;
  deciders_of_answers = (lit≤ tt, tt);
  deciders_of_authorities = tt;
  deciders_of_additionals = tt;
  chains = (record { named = refl; ends = refl; holds = justified_at_1000 }, tt);
}

pub not_with_a_secure_copy :
    Sound (judge verifier anchors 1000) 1000 told_twice
    (answer_of (record_of 2 1000 name_a Secure ∷ record_of 46 1000 signature Secure ∷ record_of 46 1000 signature Secure ∷ [])
    (chain_by key ∷ [])) → ⊥
unfolding sets_of leaders rrsig_in name_in labels_in label_in
not_with_a_secure_copy s =
    let two : 2 ≤ 1 = s.deciders_of_answers.0 in
    omega arith
