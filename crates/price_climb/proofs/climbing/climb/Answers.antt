use Rattle.std.proofs.Common.{ap, sym, subst, ◌∙◌, arith}
use Rattle.std.proofs.lemmas.Int.{to_z-of_z}
use mir.Syntax.{w64}
use Rattle.bound_tree.proofs.PriceReads.{price_fits}
use Rattle.price_climb.specs.Table.{TableState}
use Rattle.price_climb.specs.Raises.{IsRaise}
use Rattle.price_climb.proofs.Steps.{change_made, rises_more, place_few, ends_still, ends_risen, step_up}
use Rattle.price_climb.proofs.climbing.climb.Goals as goal
use Rattle.price_climb.proofs.climbing.climb.Goals.{in-None, in-Some-next_raise}

pub returns-in_default : goal.returns-in_default
returns-in_default c =
    let inv = c.loop-round.invariant in
    ends_still c.loop-round.table c.args.job.now c.args.area.now c.args.row c.row.result c.args.step _ c.loop-round._round inv.job inv.area c.row.ensures.row
    (step_up c.args.step c.requires.step) inv.risen c.row.ensures.fits c.in_default.ensures

pub overflow_add-from : goal.overflow_add-from
overflow_add-from c =
    let inv = c.loop-round.invariant in
    omega (arith, place_few c.loop-round.table c.args.job.now c.args.area.now c.in-Some.raise.place inv.job inv.area c.requires.of_job c.in-Some.ensures.is_place)

pub loop-round-preserved : goal.loop-round-preserved
loop-round-preserved c =
    let inv = c.loop-round.invariant in
    let r = c.in-Some.ensures in
    let passed = to_z-of_z w64 c.in-Some.raise.delta (price_fits c.in-Some.raise.delta r.is_price) in
    let raise = subst (IsRaise c.loop-round.table c.in-Some.raise.place) (sym passed) r.is_raise in
    let made = change_made c.change.result c.change.new.self c.loop-round.table c.in-Some.raise.place _ (c.change.ensures.in_range.1 raise.in_range) c.change.ensures.changed in
    record {
      job = ap (λ (s : TableState). s.job) made ∙ inv.job;
      area = ap (λ (s : TableState). s.area) made ∙ inv.area;
      risen = rises_more c.args.job.now c.args.area.now c.args.row c.loop-round._round c.loop-round.table c.change.new.self c.in-Some.raise.place _ inv.job inv.area made raise.higher inv.risen;
    }

pub returns : goal.returns
returns c =
    let inv = c.loop-round.invariant in
    elim c.match-next_raise-2.branch [
      | in-None w ↦
          rw w.result-is (ends_still c.loop-round.table c.args.job.now c.args.area.now c.args.row w.row-in-None.result c.args.step _ c.loop-round._round inv.job inv.area w.row-in-None.ensures.row
          (step_up c.args.step c.requires.step) inv.risen w.row-in-None.ensures.fits w.in-None.ensures)
      | in-Some-next_raise w ↦
          rw w.result-is (ends_risen c.loop-round.table c.args.job.now c.args.area.now c.args.row w.row-in-Some-next_raise.result c.args.step _ _ c.loop-round._round _ c.args.rounds inv.job inv.area
          w.row-in-Some-next_raise.ensures.row (step_up c.args.step c.requires.step) (omega arith) inv.risen w.row-in-Some-next_raise.ensures.fits w.in-Some-next_raise.ensures)
    ]
