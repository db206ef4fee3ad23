use Rattle.std.proofs.Common.{◌≡◌, true}
use Rattle.dns_text.specs.Words.{is_unpadded}
use Rattle.dns_text.proofs.DecimalLemmas.{decimal_within, decimal_above}
use Rattle.dns_text.proofs.decimals.decimal_in.Goals as goal

pub returns-then-number-limit-clause-value : goal.returns-then-number-limit-clause-value
returns-then-number-limit-clause-value c =
    let plain : is_unpadded c.args.word.now ≡ true = cc in
    decimal_within _ _ _ plain c.in_ok-number.ensures c.if-number-limit.true

pub returns-else-number-limit-clause-value : goal.returns-else-number-limit-clause-value
returns-else-number-limit-clause-value c =
    let plain : is_unpadded c.args.word.now ≡ true = cc in
    decimal_above _ _ _ plain c.in_ok-number.ensures c.if-number-limit.false
