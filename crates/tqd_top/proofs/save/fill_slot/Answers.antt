-- The slot is closed, whatever writing to it answered.
use Rattle.tqd_top.specs.Inner.Solution.{certificate_of}
use Rattle.tqd_top.proofs.Saved.{put_closed, put_lost, slot_after}
use Rattle.tqd_top.proofs.save.fill_slot.Goals as goal

pub returns-in-Ok : goal.returns-in-Ok
returns-in-Ok g c = λ f. put_closed _ _ _ _ _ _ (c.in-Ok.ensures f) c.close_tree.ensures

pub returns-in-Err : goal.returns-in-Err
returns-in-Err g c = λ f. put_lost _ _ _ _ _ _ _ (c.in-Err.ensures f) c.close_tree-closed.ensures

pub close_tree-requires : goal.close_tree-requires
close_tree-requires g c =
    slot_after (g.D.Desk.state c.args.desk.now) (g.D.Desk.state c.put_tree.new.desk) _ (certificate_of c.args.job.now c.args.done.now c.requires.finished) c.put_tree.result
    c.requires.writes (c.put_tree.ensures c.requires.finished)

pub close_tree-closed-requires : goal.close_tree-closed-requires
close_tree-closed-requires g c =
    slot_after (g.D.Desk.state c.args.desk.now) (g.D.Desk.state c.put_tree.new.desk) _ (certificate_of c.args.job.now c.args.done.now c.requires.finished) c.put_tree.result
    c.requires.writes (c.put_tree.ensures c.requires.finished)
