use Rattle.std.proofs.Common.{◌≡◌, ◌+◌, ◌-◌, ◌≤◌, length, take}
use Rattle.tree_checker.specs.Verdict.{Progress, after_bytes}
use Rattle.tree_checker.specs.Run.{job_of, taken_by, IsAt}
use Rattle.tree_checker.proofs.run.CheckRun.feed.Given as goal

abbrev pub invariant-loop-at : goal.invariant-loop-at
invariant-loop-at l = record {
  within : l.at ≤ length l.piece;
  job : job_of l.self ≡ job_of l.initial.self;
  taken : taken_by l.self ≡ taken_by l.initial.self + l.at;
  stands : (progress : Progress) → IsAt l.initial.self progress → IsAt l.self (after_bytes (job_of l.initial.self) progress (take l.at l.piece));
}

abbrev pub decreases-loop-at : goal.decreases-loop-at
decreases-loop-at l = length l.piece - l.at
