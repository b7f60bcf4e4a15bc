use Rattle.std.proofs.Common.{ℕ, ◌≡◌, ◌<◌, None, length, get_or}
use Rattle.scenarios.proofs.plain.all_costs.Given as goal

abbrev pub invariant-loop-at : goal.invariant-loop-at
invariant-loop-at g l = record {
  count : length l.costs.items ≡ l.at;
  each : (n : ℕ) → n < l.at → g.E.Entries.costs l.entries n (get_or l.costs.items n None);
}
