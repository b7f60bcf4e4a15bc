use Rattle.std.proofs.Common.{◌≡◌, pos, ◌+ℤ◌, ◌-ℤ◌, arith}
use Rattle.std.specs.Int.{int_max}
use Rattle.std.proofs.lemmas.Int.{ints, clamps}
use Rattle.bound_tree.proofs.Signed.{saving-computed}
use Rattle.bound_tree.proofs.value.saving.Goals as goal

pub returns-clause-value : goal.returns-clause-value
returns-clause-value c =
    let m : c.max.result ≡ int_max (c.args.good +ℤ c.args.place -ℤ pos c.args.charge) (pos 0) = omega (arith, ints, clamps) in
    omega (arith, ints, saving-computed c.max.result c.args.good c.args.place c.args.charge m)
