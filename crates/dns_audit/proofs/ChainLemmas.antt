-- Reading chains, one after another.
use Rattle.std.proofs.Common.{◌≡◌, ℕ, zero, suc, ◌-◌, ◌<◌, ◌≤◌, List, [], ◌∷◌, ◌++◌, length, Option, None, Some, Result, Ok, Err, min, is_some, true, false, subst, refl, sym, ap, ◌∙◌, arith, append-nil}
use Rattle.std.specs.Option.{option_map}
use Rattle.std.proofs.lemmas.Option.{same_Some}
use Rattle.dns_model.specs.declared.section.Section.{Section}
use Rattle.std.specs.Result.{result_unwrap_or}
use Rattle.dns_model.specs.Chains.{LinkValue}
use Rattle.dns_model.specs.ResultSteps.{◌>>=◌}
use Rattle.dns_model.specs.OptionSteps as steps
use Rattle.dns_model.specs.SoundAnswers.{ChainValue}
use Rattle.dns_session.specs.LinePlaces.{Place, place, next_line, read_next, one}
use Rattle.dns_session.specs.Stops.{StopsAs}
use Rattle.dns_session.specs.declared.stop.SessionStop.{SessionStop}
use Rattle.dns_session.specs.declared.stop.SessionStop.TheVariants.{BadLine, NoMemory}
use Rattle.dns_session.proofs.ManyLemmas.{shorter}
use Rattle.dns_model.specs.Gives.{or_error}
use Rattle.dns_audit.specs.ReportValue.{ChainHead}
use Rattle.dns_audit.specs.ReportLines.{chain_line, link_line}
use Rattle.dns_audit.specs.ReportGrammar.{times, chain_after, chain_and_more, chains_in, chains_at}
use Rattle.dns_audit.specs.RecordForms.{one_chain}
use Rattle.dns_audit.proofs.TimesLemmas.{with_read, with_more}

-- ---- what is read leaves no more lines than there were

abbrev said_by : {X : Type 0} → (List ℕ → Option X) → Option (List ℕ × Place) → Option (X × Place)
said_by form next = steps.◌>>=◌ next (λ line. option_map (λ x. (x, line.1)) (form line.0))

second_same : {X : Type 0} (x y : X) (p q : Place) → ◌≡◌ {A = Option (X × Place)} (Some (x, p)) (Some (y, q)) → p ≡ q
second_same {X} x y p q h = ap (λ (read : X × Place). read.1) (same_Some (x, p) (y, q) h)

read_by_form : {X : Type 0} (at : Place) (x : X) (after : Place) (line : List ℕ) (then : Place) (said : Option X)
    → next_line at ≡ Some (line, then)
    → ◌≡◌ {A = Option (X × Place)} (option_map (λ y. (y, then)) said) (Some (x, after))
    → length after.pieces < length at.pieces
read_by_form at x after line then None e h = cc
read_by_form at x after line then (Some y) e h =
    let same : then ≡ after = second_same y x then after h in
    rw (← same) (shorter at line then e)

read_by : {X : Type 0} (form : List ℕ → Option X) (at : Place) (x : X) (after : Place)
    (next : Option (List ℕ × Place)) → next_line at ≡ next → said_by form next ≡ Some (x, after)
    → length after.pieces < length at.pieces
read_by form at x after None e h = cc
read_by form at x after (Some line) e h = read_by_form at x after line.0 line.1 (form line.0) e h

pub read_shorter : {X : Type 0} (form : List ℕ → Option X) (at : Place) (x : X) (after : Place)
    → read_next form at ≡ Some (x, after) → length after.pieces < length at.pieces
read_shorter form at x after h = read_by form at x after (next_line at) refl h

ok_same : {X : Type 0} (a b : X × Place) → ◌≡◌ {A = Result (X × Place) ℕ} (Ok a) (Ok b) → a ≡ b
ok_same a b h = ap (λ r. result_unwrap_or r a) h

one_by : {X : Type 0} (form : List ℕ → Option X) (at : Place) (x : X) (after : Place) (read : Option (X × Place))
    → read_next form at ≡ read → or_error at.number read ≡ Ok (x, after) → length after.pieces < length at.pieces
one_by form at x after None e h = cc
one_by form at x after (Some y) e h =
    let same : y ≡ (x, after) = ok_same y (x, after) h in
    read_shorter form at x after (e ∙ ap (λ p. Some p) same)

pub one_shorter : {X : Type 0} (form : List ℕ → Option X) (at : Place) (x : X) (after : Place)
    → one form at ≡ Ok (x, after) → length after.pieces < length at.pieces
unfolding one
one_shorter form at x after h = one_by form at x after (read_next form at) refl h

-- a part leaves no more lines than there were
abbrev pub Shortens : {X : Type 0} → (Place → Result (X × Place) ℕ) → Type 0
Shortens {X} part = (at : Place) (x : X) (after : Place) → part at ≡ Ok (x, after)
    → length after.pieces ≤ length at.pieces

abbrev then_more : {X : Type 0} → X → Result (List X × Place) ℕ → Result (List X × Place) ℕ
then_more x others = others >>= λ more. Ok (x ∷ more.0, more.1)

others_short : {X : Type 0} (x : X) (at : Place) (read : Result (List X × Place) ℕ)
    → ((ys : List X) (r : Place) → read ≡ Ok (ys, r) → length r.pieces ≤ length at.pieces)
    → (xs : List X) (rest : Place) → then_more x read ≡ Ok (xs, rest) → length rest.pieces ≤ length at.pieces
others_short x at (Err number) less xs rest h = cc
others_short x at (Ok more) less xs rest h =
    let same : more.1 ≡ rest = ap (λ p. p.1) (ok_same (x ∷ more.0, more.1) (xs, rest) h) in
    let below = less more.0 more.1 refl in
    rw (← same) below

abbrev then_times : {X : Type 0} → (Place → Result (X × Place) ℕ) → ℕ → Result (X × Place) ℕ → Result (List X × Place) ℕ
then_times part n said = said >>= λ first. then_more first.0 (times part n first.1)

first_short : {X : Type 0} (part : Place → Result (X × Place) ℕ) (n : ℕ) (at : Place) (said : Result (X × Place) ℕ)
    → ((x : X) (after : Place) → said ≡ Ok (x, after) → length after.pieces ≤ length at.pieces)
    → ((from : Place) (ys : List X) (r : Place) → times part n from ≡ Ok (ys, r) → length r.pieces ≤ length from.pieces)
    → (xs : List X) (rest : Place) → then_times part n said ≡ Ok (xs, rest) → length rest.pieces ≤ length at.pieces
first_short part n at (Err number) less all xs rest h = cc
first_short part n at (Ok first) less all xs rest h =
    let one = less first.0 first.1 refl in
    let more = others_short first.0 first.1 (times part n first.1) (all first.1) xs rest h in
    omega (arith, one, more)

pub times_shorten : {X : Type 0} (part : Place → Result (X × Place) ℕ) → Shortens part
    → (n : ℕ) (at : Place) (xs : List X) (rest : Place) → times part n at ≡ Ok (xs, rest)
    → length rest.pieces ≤ length at.pieces
unfolding times
times_shorten part less zero at xs rest h =
    let same : at ≡ rest = ap (λ p. p.1) (ok_same ([], at) (xs, rest) h) in rw same (omega arith)
times_shorten part less (suc n) at xs rest h =
    first_short part n at (part at) (less at) (λ from ys r e. times_shorten part less n from ys r e) xs rest h

links_shorten : Shortens (one link_line)
links_shorten at x after h = let below = one_shorter link_line at x after h in omega (arith, below)

abbrev chain_of : Section → Result (List LinkValue × Place) ℕ → Result (ChainValue × Place) ℕ
chain_of section links = links >>= λ read. Ok (record { section = section; links = read.0 }, read.1)

chain_short : (section : Section) (at : Place) (links : Result (List LinkValue × Place) ℕ)
    → ((ys : List LinkValue) (r : Place) → links ≡ Ok (ys, r) → length r.pieces ≤ length at.pieces)
    → (chain : ChainValue) (rest : Place) → chain_of section links ≡ Ok (chain, rest)
    → length rest.pieces ≤ length at.pieces
chain_short section at (Err number) less chain rest h = cc
chain_short section at (Ok read) less chain rest h =
    let made : ChainValue = record { section = section; links = read.0 } in
    let same : read.1 ≡ rest = ap (λ p. p.1) (ok_same {X = ChainValue} (made, read.1) (chain, rest) h) in
    let below = less read.0 read.1 refl in
    rw (← same) below

chain_shorten : (head : ChainHead) (at : Place) (chain : ChainValue) (rest : Place)
    → chain_after head at ≡ Ok (chain, rest) → length rest.pieces ≤ length at.pieces
unfolding chain_after
chain_shorten head at chain rest h =
    chain_short head.section at (times (one link_line) head.count at)
    (times_shorten (one link_line) links_shorten head.count at) chain rest h

-- ---- a number of chains that is enough

no_lines : {X : Type 0} (form : List ℕ → Option X) (number : ℕ) (ps : List (List ℕ)) → length ps ≤ 0
    → read_next form (place number ps) ≡ None
no_lines form number [] h = refl
no_lines form number (p ∷ ps) h = absurd (omega (arith, h))

abbrev then_chains : (Place → Result (List ChainValue × Place) ℕ) → Result (ChainValue × Place) ℕ
    → Result (List ChainValue × Place) ℕ
then_chains more chain = chain >>= λ c. then_more c.0 (more c.1)

-- two ways to go on that agree on all places with no more lines than one
abbrev AgreeBelow : ℕ → (Place → Result (List ChainValue × Place) ℕ) → (Place → Result (List ChainValue × Place) ℕ)
    → Type 0
AgreeBelow most more other = (at : Place) → length at.pieces ≤ most → more at ≡ other at

chain_alike : (more other : Place → Result (List ChainValue × Place) ℕ) (most : ℕ) → AgreeBelow most more other
    → (chain : Result (ChainValue × Place) ℕ)
    → ((c : ChainValue) (r : Place) → chain ≡ Ok (c, r) → length r.pieces ≤ most)
    → then_chains more chain ≡ then_chains other chain
chain_alike more other most agree (Err number) less = refl
chain_alike more other most agree (Ok c) less = ap (then_more c.0) (agree c.1 (less c.0 c.1 refl))

head_alike : (more other : Place → Result (List ChainValue × Place) ℕ) (most : ℕ) → AgreeBelow most more other
    → (at : Place) (head : Option (ChainHead × Place))
    → ((h : ChainHead) (after : Place) → head ≡ Some (h, after) → length after.pieces ≤ most)
    → chain_and_more head at more ≡ chain_and_more head at other
head_alike more other most agree at None less = refl
head_alike more other most agree at (Some head) less =
    let below = less head.0 head.1 refl in
    chain_alike more other most agree (chain_after head.0 head.1)
    (λ c r e. let fewer = chain_shorten head.0 head.1 c r e in omega (arith, fewer, below))

lesser : (at : Place) (n : ℕ) → length at.pieces ≤ suc n → (h : ChainHead) (after : Place)
    → read_next chain_line at ≡ Some (h, after) → length after.pieces ≤ n
lesser at n most h after e = let below = read_shorter chain_line at h after e in omega (arith, below, most)

fewest : (at : Place) (n m : ℕ) → length at.pieces ≤ suc n → length at.pieces ≤ suc m → (h : ChainHead) (after : Place)
    → read_next chain_line at ≡ Some (h, after) → length after.pieces ≤ min n m
fewest at n m first second h after e =
    let one = lesser at n first h after e in let two = lesser at m second h after e in grind (arith)

enough : (n m : ℕ) (at : Place) → length at.pieces ≤ n → length at.pieces ≤ m → chains_in n at ≡ chains_in m at
unfolding chains_in
enough zero zero at first second = refl
enough zero (suc m) at first second = rw (no_lines chain_line at.number at.pieces first) refl
enough (suc n) zero at first second = rw (no_lines chain_line at.number at.pieces second) refl
enough (suc n) (suc m) at first second =
    head_alike (chains_in n) (chains_in m) (min n m)
    (λ from most. enough n m from (grind (arith)) (grind (arith))) at (read_next chain_line at)
    (fewest at n m first second)

-- ---- the chains from a place on

counted : (n : ℕ) (at : Place) → 0 < n → chains_in n at ≡ chain_and_more (read_next chain_line at) at
    (chains_in (n - 1))
unfolding chains_in
counted zero at some = absurd (omega (arith, some))
counted (suc n) at some = let size : suc n - 1 ≡ n = omega arith in rw size refl

step_chains : (at : Place) (head : ChainHead) (after : Place) (chain : ChainValue) (rest : Place)
    → read_next chain_line at ≡ Some (head, after) → chain_after head after ≡ Ok (chain, rest)
    → chains_at at ≡ then_more chain (chains_at rest)
step_chains at head after chain rest h e =
    let below = read_shorter chain_line at head after h in
    let less = chain_shorten head after chain rest e in
    counted (length at.pieces) at (omega (arith, below))
    ∙ ap (λ read. chain_and_more read at (chains_in (length at.pieces - 1))) h
    ∙ ap (then_chains (chains_in (length at.pieces - 1))) e
    ∙ ap (then_more chain)
    (enough (length at.pieces - 1) (length rest.pieces) rest (omega (arith, below, less)) (omega arith))

-- one more chain was read
pub more_chains : (front : List ChainValue) (at : Place) (head : ChainHead) (after : Place) (chain : ChainValue)
    (rest : Place)
    (whole : Result (List ChainValue × Place) ℕ)
    → with_read front (chains_at at) ≡ whole → read_next chain_line at ≡ Some (head, after)
    → chain_after head after ≡ Ok (chain, rest) → with_read (front ++ chain ∷ []) (chains_at rest) ≡ whole
more_chains front at head after chain rest whole so_far h e =
    with_more front chain (chains_at rest) ∙ ap (with_read front) (sym (step_chains at head after chain rest h e))
    ∙ so_far

bad_chains : (at : Place) (head : ChainHead) (after : Place) (number : ℕ) → read_next chain_line at ≡ Some (head, after)
    → chain_after head after ≡ Err number → chains_at at ≡ Err number
bad_chains at head after number h e =
    let below = read_shorter chain_line at head after h in
    counted (length at.pieces) at (omega (arith, below))
    ∙ ap (λ read. chain_and_more read at (chains_in (length at.pieces - 1))) h
    ∙ ap (then_chains (chains_in (length at.pieces - 1))) e

-- a chain that stops ends the reading
pub stop_chains : (front : List ChainValue) (at : Place) (head : ChainHead) (after : Place)
    (whole : Result (List ChainValue × Place) ℕ) (stop : SessionStop)
    → with_read front (chains_at at) ≡ whole → read_next chain_line at ≡ Some (head, after)
    → StopsAs stop (chain_after head after) → StopsAs stop whole
stop_chains front at head after whole (BadLine number) so_far h e =
    sym so_far ∙ ap (with_read front) (bad_chains at head after number h e)
stop_chains front at head after whole NoMemory so_far h e = tt

no_chains : (n : ℕ) (at : Place) → read_next chain_line at ≡ None → chains_in n at ≡ Ok ([], at)
unfolding chains_in
no_chains zero at h = refl
no_chains (suc n) at h = rw h refl

-- no line of a chain follows
pub end_chains : (front : List ChainValue) (at : Place) (whole : Result (List ChainValue × Place) ℕ)
    → with_read front (chains_at at) ≡ whole → read_next chain_line at ≡ None → whole ≡ Ok (front, at)
end_chains front at whole so_far h =
    sym so_far ∙ ap (with_read front) (no_chains (length at.pieces) at h) ∙ ap
    (λ (xs : List ChainValue). Ok (xs, at)) (append-nil front)

-- a line that begins a chain leaves fewer lines
pub chain_shorter : (at : Place) (head : ChainHead) (after : Place) (chain : ChainValue) (rest : Place)
    → read_next chain_line at ≡ Some (head, after) → chain_after head after ≡ Ok (chain, rest)
    → length rest.pieces < length at.pieces
chain_shorter at head after chain rest h e =
    let below = read_shorter chain_line at head after h in
    let less = chain_shorten head after chain rest e in
    omega (arith, below, less)

-- ---- where the next line begins a chain

record Found (at : Place) : Type 0 where
  head : ChainHead
  after : Place
  reads : read_next chain_line at ≡ Some (head, after)

found_by : (at : Place) (read : Option (ChainHead × Place)) → read_next chain_line at ≡ read → is_some read ≡ true
    → Found at
found_by at None e h = cc
found_by at (Some head) e h = record { head = head.0; after = head.1; reads = e }

found : (at : Place) → is_some (read_next chain_line at) ≡ true → Found at
found at h = found_by at (read_next chain_line at) refl h

found_is : (at : Place) (f : Found at) → one_chain at ≡ chain_after f.head f.after
unfolding one
found_is at f = rw f.reads refl

none_by : (read : Option (ChainHead × Place)) → is_some read ≡ false → read ≡ None
none_by None h = refl
none_by (Some head) h = cc

pub more_here : (front : List ChainValue) (at : Place) (chain : ChainValue) (rest : Place)
    (whole : Result (List ChainValue × Place) ℕ)
    → is_some (read_next chain_line at) ≡ true → with_read front (chains_at at) ≡ whole
    → one_chain at ≡ Ok (chain, rest) → with_read (front ++ chain ∷ []) (chains_at rest) ≡ whole
more_here front at chain rest whole begins so_far h =
    let f = found at begins in
    more_chains front at f.head f.after chain rest whole so_far f.reads (sym (found_is at f) ∙ h)

pub stop_here : (front : List ChainValue) (at : Place) (whole : Result (List ChainValue × Place) ℕ) (stop : SessionStop)
    → is_some (read_next chain_line at) ≡ true → with_read front (chains_at at) ≡ whole
    → StopsAs stop (one_chain at) → StopsAs stop whole
stop_here front at whole stop begins so_far h =
    let f = found at begins in
    let P : Result (ChainValue × Place) ℕ → Type 0 = λ read. StopsAs stop read in
    stop_chains front at f.head f.after whole stop so_far f.reads (subst P (found_is at f) h)

pub end_here : (front : List ChainValue) (at : Place) (whole : Result (List ChainValue × Place) ℕ)
    → is_some (read_next chain_line at) ≡ false → with_read front (chains_at at) ≡ whole → whole ≡ Ok (front, at)
end_here front at whole ends so_far = end_chains front at whole so_far (none_by (read_next chain_line at) ends)

pub shorter_here : (at : Place) (chain : ChainValue) (rest : Place) → is_some (read_next chain_line at) ≡ true
    → one_chain at ≡ Ok (chain, rest) → length rest.pieces < length at.pieces
shorter_here at chain rest begins h =
    let f = found at begins in chain_shorter at f.head f.after chain rest f.reads (sym (found_is at f) ∙ h)
