use Rattle.std.proofs.Common.{◌≡◌, ℕ, ◌+◌, ◌*◌, ◌<◌, ◌≤◌, ◌≢◌, get_or}
use Rattle.mcf_lower.specs.Tournament.{ArePlayedBut}
use Rattle.mcf_lower.proofs.tournament.Tournament.set.Given as goal

abbrev pub invariant-loop-i : goal.invariant-loop-i
invariant-loop-i l = record {
  places : l.self.places ≡ l.fn.self.places;
  some : 1 ≤ l.i;
  inside : l.i < 2 * l.self.places;
  played : ArePlayedBut l.self.places l.self.keys.items l.i;
  set : get_or l.self.keys.items (l.self.places + l.place) 0 ≡ l.key;
  others : (v : ℕ) → v < l.self.places → v ≢ l.place → get_or l.self.keys.items (l.self.places + v) 0 ≡ get_or l.fn.self.keys.items (l.self.places + v) 0;
}

abbrev pub decreases-loop-i : goal.decreases-loop-i
decreases-loop-i l = l.i
