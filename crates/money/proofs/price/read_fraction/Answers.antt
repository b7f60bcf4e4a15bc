use Rattle.std.proofs.Common.{sym}
use Rattle.money.proofs.Numerals.{fraction_bound}
use Rattle.money.proofs.price.read_fraction.Goals as goal

pub returns-clause-bound : goal.returns-clause-bound
returns-clause-bound c =
    rw c.pow.ensures (fraction_bound c.args.digits.now c.in_ok-value.field-0 (sym c.in_ok-value.ensures.value))
