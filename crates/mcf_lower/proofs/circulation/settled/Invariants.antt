use Rattle.std.proofs.Common.{◌≡◌, ℕ, ◌<◌, length, get_or, false, nat_lt}
use Rattle.mcf_lower.specs.declared.labels.TheConstants.{UNSETTLED}
use Rattle.mcf_lower.proofs.circulation.settled.Given as goal

abbrev pub invariant-loop-r : goal.invariant-loop-r
invariant-loop-r l = record {
  length : length l.has.items ≡ l.r-index;
  each : (k : ℕ) → k < l.r-index → get_or l.has.items k false ≡ nat_lt (get_or l.rank k 0) UNSETTLED;
}
