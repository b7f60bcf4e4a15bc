use Rattle.std.proofs.Common.{ap, Some}
use Rattle.interval_box.specs.declared.boxes.IntervalBox.{IntervalBox}
use Rattle.lagrangian.proofs.Repairs.{kept_single, no_kept, picks_more}
use Rattle.lagrangian.proofs.repair.repaired.Goals as goal

pub returns-in_default-clause-kept : goal.returns-in_default-clause-kept
returns-in_default-clause-kept c = λ single held room.
    ap (λ (x : IntervalBox). Some x) (kept_single c.args.job.now c.args.area.now c.of_picks-single.result single c.args.picks.now c.loop-change.chosen c.loop-change._change
    c.loop-change.invariant.held c.of_picks-single.ensures held room)

pub returns-in_err-swap-clause-kept : goal.returns-in_err-swap-clause-kept
returns-in_err-swap-clause-kept c = λ single held room.
    absurd (no_kept c.args.job.now c.args.area.now c.of_picks-single.result single c.args.picks.now c.loop-change.chosen c.loop-change._change
    c.loop-change.invariant.held c.of_picks-single.ensures c.in-Some.ensures held room)

pub loop-change-preserved : goal.loop-change-preserved
loop-change-preserved c =
    let swap = c.in_ok-swap.ensures in
    record {
      admitted = picks_more c.args.job.now c.args.area.now c.loop-change.chosen c.in_ok-swap.swap.supplier c.in_ok-swap.swap.segment c.loop-change.invariant.admitted swap.known swap.admitted;
      held = λ b held room. absurd (no_kept c.args.job.now c.args.area.now c.of_picks-single.result b c.args.picks.now c.loop-change.chosen c.loop-change._change
          c.loop-change.invariant.held c.of_picks-single.ensures c.in-Some.ensures held room);
    }
