use Rattle.std.proofs.Common.{arith, sym, length, ◌≡◌, ◌≤◌, ◌∙◌}
use Rattle.tqd_instance.proofs.Places.{place_of-none, place_of-read}
use Rattle.tqd_instance.proofs.supplier.Segments.place_of.Goals as goal

pub returns-then-total-segment-clause-value : goal.returns-then-total-segment-clause-value
returns-then-total-segment-clause-value c =
    let items = c.deref-segment-items.result.now in
    let same : items ≡ c.args.self.now = c.deref-segment-items.ensures.value ∙ c.self.view_is in
    let found = place_of-read c.args.total items c.loop-at.at c.segment-item.result c.loop-at-test.true c.segment-item.is c.if-segment-total.true c.if-total-segment.true (rw same c.loop-at.invariant) in
    sym (rw same at found)

pub returns-clause-value : goal.returns-clause-value
returns-clause-value c =
    let same : c.deref-segment-items.result.now ≡ c.args.self.now = c.deref-segment-items.ensures.value ∙ c.self.view_is in
    let past : length c.args.self.now ≤ c.loop-at.at = rw same at c.loop-at-test.false in
    sym (place_of-none c.args.total c.args.self.now (λ k below. c.loop-at.invariant k (omega arith)))
