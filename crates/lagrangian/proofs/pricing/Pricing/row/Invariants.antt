use Rattle.std.proofs.Common.{◌≡◌}
use Rattle.lagrangian.specs.Pricing.{all_places}
use Rattle.lagrangian.proofs.pricing.Pricing.row.Given as goal

abbrev pub invariant-loop-i : goal.invariant-loop-i
invariant-loop-i l = l.places.items ≡ all_places l.area l.self l.i
