use Rattle.lagrangian.specs.Repair.{ArePicks}
use Rattle.lagrangian.proofs.Repairs.{KeepsHeld}
use Rattle.lagrangian.proofs.repair.repaired.Given as goal

abbrev pub invariant-loop-change : goal.invariant-loop-change
invariant-loop-change l = record {
  admitted : ArePicks l.job l.area l.chosen;
  held : KeepsHeld l.job l.area l.picks l._change l.chosen;
}
