use Rattle.std.proofs.Common.{◌≡◌, ◌-◌, ◌++◌, true, length, drop}
use Rattle.counted_deque.specs.Counted.{owner_view}
use Rattle.steal_pool.specs.LaneAccount.{gone}
use Rattle.steal_pool.proofs.lane.Lane.close.Given as goal

abbrev pub decreases-loop-ticket : goal.decreases-loop-ticket
decreases-loop-ticket l = length (owner_view l.worker).put - gone (owner_view l.worker)

-- what was left is what was taken out so far and then what is left now
abbrev pub invariant-loop-ticket : goal.invariant-loop-ticket
invariant-loop-ticket l =
    let first = owner_view l.initial.worker in
    let now = owner_view l.worker in
    record {
      owns : now.owns ≡ true;
      all : now.parts ≡ now.whole;
      put : now.put ≡ first.put;
      held : now.held ≡ first.held;
      got : now.got ≡ first.got ++ l.tickets.items;
      left : drop (gone first) first.put ≡ l.tickets.items ++ drop (gone now) now.put;
    }
