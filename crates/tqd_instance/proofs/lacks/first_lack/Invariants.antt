use Rattle.std.proofs.Common.{ℕ, ◌<◌, get_or}
use Rattle.tqd_instance.specs.Built.{LacksPrice}
use Rattle.tqd_instance.proofs.lacks.first_lack.Given as goal

abbrev pub invariant-loop-from : goal.invariant-loop-from
invariant-loop-from l = (a good : ℕ) → a < l.from-index → LacksPrice l.parts l.i (get_or l.froms a 0) good → ⊥
