use Rattle.std.proofs.Common.{◌≡◌}
use Rattle.counted_deque.specs.Counted.{pass_deque, pass_view, dry_steals, IsCountedPassOf}
use Rattle.steal_pool.proofs.thief.Thief.steal.Given as goal

-- a step that was lost to another thread changes nothing
abbrev pub invariant-loop : goal.invariant-loop
invariant-loop g l =
    let first = l.initial.pass-inside.token in
    let now = l.pass-inside.token in
    record {
      can_next : (goal.iterator-loop g).can_next l.iterator';
      is_finite : (goal.iterator-loop g).is_finite l.iterator';
      of : IsCountedPassOf (pass_deque first) now;
      dry : dry_steals now ≡ dry_steals first;
      known : pass_view now ≡ pass_view first;
    }
