use Rattle.std.proofs.Common.{◌≡◌, vec_len}
use Rattle.search_run.proofs.kits.lanes_of.Given as goal

abbrev pub invariant-loop-owner : goal.invariant-loop-owner
invariant-loop-owner l = vec_len l.sources ≡ l.workers
