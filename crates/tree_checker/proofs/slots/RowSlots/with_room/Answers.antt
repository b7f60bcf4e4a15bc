use Rattle.std.proofs.Common.{ℕ, ◌≡◌, None, Option, length, replicate, ap, ◌∙◌, arith}
use Rattle.bound_tree.specs.declared.slots.TheConstants.{SLOTS_MAX}
use Rattle.bound_tree.specs.Prices.{Prices}
use Rattle.bound_tree.specs.SlotTree.{no_rows}
use Rattle.tree_checker.proofs.HeldRows.{bare_none}
use Rattle.tree_checker.proofs.slots.RowSlots.with_room.Goals as goal

pub returns-clause-none : goal.returns-clause-none
unfolding no_rows
returns-clause-none c = λ job.
    let held = c.loop.invariant in
    let count : length c.loop.rows.items ≡ SLOTS_MAX = omega (arith, held.count, c.loop-test.false, c.loop.auto.counter-end) in
    bare_none job c.args.wanted c.loop.rows.items held.bare ∙ ap (λ (n : ℕ). replicate {A = Option Prices} n None) count
