use Rattle.flow_prices.proofs.Narrowing.{IsPart, unmade}
use Rattle.flow_prices.proofs.narrow.narrow.Given as goal

abbrev pub invariant-loop-v : goal.invariant-loop-v
invariant-loop-v l = IsPart l.numbers l.gap l.narrowed.items l.last l.top

abbrev pub decreases-loop-v : goal.decreases-loop-v
decreases-loop-v l = unmade l.narrowed.items
