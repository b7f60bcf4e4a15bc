use Rattle.mcf_lower.specs.Answers.{has_of}
use Rattle.box_bound.specs.NodeRow.{cut_number}
use Rattle.box_bound.proofs.NumberRows.{first_one, read_cut}
use Rattle.box_bound.proofs.row.cut_numbers.Goals as goal

pub loop-n-preserved : goal.loop-n-preserved
loop-n-preserved c =
    let n = c.loop-n.n in
    let members = c.args.set.now in
    first_one _ _ n (cut_number members) _ c.loop-n.invariant c.in_ok-push.ensures.items
    (read_cut c.member.result c.member-base.result (has_of members n) (has_of members 0) c.member.ensures c.member-base.ensures)
