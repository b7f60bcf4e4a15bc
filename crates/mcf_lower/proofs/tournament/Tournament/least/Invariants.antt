use Rattle.std.proofs.Common.{◌≡◌, ◌-◌, ◌*◌, ◌<◌, ◌≤◌, get_or}
use Rattle.mcf_lower.proofs.tournament.Tournament.least.Given as goal

abbrev pub invariant-loop-i : goal.invariant-loop-i
invariant-loop-i l = record {
  some : 1 ≤ l.i;
  inside : l.i < 2 * l.self.places;
  top : get_or l.self.keys.items l.i 0 ≡ get_or l.self.keys.items 1 0;
}

abbrev pub decreases-loop-i : goal.decreases-loop-i
decreases-loop-i l = 2 * l.self.places - l.i
