use Rattle.std.proofs.Common.{◌≡◌, ◌*ℤ◌, arith}
use Rattle.std.proofs.lemmas.Int.{ints}
use mir.Syntax.{w128}
use mir.Val.{to_z, of_z}
use Rattle.bound_tree.specs.Value.{least_times}
use Rattle.bound_tree.proofs.Signed.{least_times-computed, price_times-bound}
use Rattle.bound_tree.proofs.value.least_times.Goals as goal

computed : (c : goal.After-from-2) → to_z w128 (of_z w128 (to_z w128 (of_z w128 c.from.result) *ℤ to_z w128 (of_z w128 c.from-2.result)))
    ≡ least_times c.args.price c.args.low c.args.high
computed c =
    least_times-computed c.from.result c.from-2.result c.args.price c.if-price-lt0.units c.args.low c.args.high c.requires.price c.requires.low c.requires.high
    (omega (arith, ints)) c.from-2.ensures (grind (arith, ints)) (record { sfits = c.from.type_inv }) (record { sfits = c.from-2.type_inv })

pub returns-clause-value : goal.returns-clause-value
returns-clause-value c = computed c

pub returns-clause-not_less : goal.returns-clause-not_less
returns-clause-not_less c = rw (computed c) (price_times-bound c.args.price c.args.low c.args.high c.requires.price c.requires.low c.requires.high).0

pub returns-clause-not_more : goal.returns-clause-not_more
returns-clause-not_more c = rw (computed c) (price_times-bound c.args.price c.args.low c.args.high c.requires.price c.requires.low c.requires.high).1
