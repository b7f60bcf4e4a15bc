use Rattle.tqd_base.proofs.KeptLemmas.{Skips}
use Rattle.tqd_base.proofs.kept.find.Given as goal

abbrev pub invariant-loop-i : goal.invariant-loop-i
invariant-loop-i l = Skips l.files l.name l.i
