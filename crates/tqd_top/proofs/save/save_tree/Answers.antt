-- The file is made, and then filled.
use Rattle.std.proofs.lemmas.Result.{err_from_is_err_and}
use Rattle.tqd_base.proofs.Written.{idle_has_no_slot, made_writes}
use Rattle.tqd_base.specs.World.{IsIdle}
use Rattle.tqd_top.proofs.Saved.{made_filled, not_made}
use Rattle.tqd_top.proofs.save.save_tree.Goals as goal

pub make_tree-requires : goal.make_tree-requires
unfolding IsIdle
make_tree-requires g c = idle_has_no_slot _ _ c.requires.idle

pub returns-in_err-slot : goal.returns-in_err-slot
returns-in_err-slot g c =
    let p = err_from_is_err_and c.from_residual.result c.from_residual.ensures.1 in
    λ f. rw (p.1, p.2) (not_made _ _ _ _ _ c.in_err-slot.ensures)

pub fill_slot-requires-clause-writes : goal.fill_slot-requires-clause-writes
fill_slot-requires-clause-writes g c = made_writes _ _ _ _ c.in_ok-slot.ensures

pub returns : goal.returns
returns g c = λ f. made_filled _ _ _ _ _ _ _ c.in_ok-slot.ensures (c.fill_slot.ensures f)
