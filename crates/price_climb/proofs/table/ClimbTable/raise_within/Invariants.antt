use Rattle.price_climb.specs.Raises.{StandsWithin}
use Rattle.price_climb.proofs.table.ClimbTable.raise_within.Given as goal

abbrev pub invariant-loop-place : goal.invariant-loop-place
invariant-loop-place l = StandsWithin l.self l.step l.from l.place
