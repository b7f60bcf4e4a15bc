use Rattle.std.proofs.Common.{◌<◌, ◌≤◌, ◌+◌, ◌-◌, vec_len}
use Rattle.tqd_base.proofs.Taken.{Taken}
use Rattle.tqd_base.proofs.read.take_all.Given as goal

abbrev pub invariant-loop-bytes : goal.invariant-loop-bytes
invariant-loop-bytes g l = record {
  taken : Taken (g.D.Desk.state l.initial.desk) (g.D.Desk.state l.desk) l.slot l.bytes.items;
  within : vec_len l.bytes ≤ l.limit;
  room : 0 < vec_len l.buffer;
}

abbrev pub decreases-loop-bytes : goal.decreases-loop-bytes
decreases-loop-bytes g l = l.limit + 1 - vec_len l.bytes
