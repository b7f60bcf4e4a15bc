use Rattle.std.proofs.Common.{◌≡◌, ◌+◌, ◌≤◌, vec_len}
use Rattle.search_run.proofs.kits.lane_of.Given as goal

abbrev pub invariant-loop-worker : goal.invariant-loop-worker
invariant-loop-worker l = record {
  lane : l.lane.lane ≡ l.initial.lane.lane;
  pass : l.first.lane ≡ l.initial.lane.lane;
  parts : l.workers + 1 ≤ l.first.parts + l.worker;
  count : vec_len l.sources ≡ l.workers;
}
