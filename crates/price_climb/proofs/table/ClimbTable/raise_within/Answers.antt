use Rattle.price_climb.proofs.Steps.{stands_more}
use Rattle.price_climb.proofs.table.ClimbTable.raise_within.Goals as goal

pub loop-place-preserved : goal.loop-place-preserved
loop-place-preserved c = stands_more c.args.self.now _ c.args.from c.loop-place.place c.loop-place.invariant c.in_default.ensures
