use Rattle.std.proofs.Common.{ℕ, ◌≤◌, arith}
use Rattle.interval_box.specs.declared.boxes.IntervalBox.{IntervalBox}
use Rattle.branching.specs.Gap.{first_of}
use Rattle.branching.proofs.gap.gap_at.Goals as goal

some : (area : IntervalBox) (i p : ℕ) → first_of area i ≤ p → 1 ≤ p
unfolding first_of
some area i p le = omega arith

pub price-requires-clause-some : goal.price-requires-clause-some
price-requires-clause-some c = some c.args.area.now c.args.i c.args.p c.requires.from_first

pub relaxed_price-requires-clause-some : goal.relaxed_price-requires-clause-some
relaxed_price-requires-clause-some c = omega (arith, some c.args.area.now c.args.i c.args.p c.requires.from_first, c.requires.to_last)
