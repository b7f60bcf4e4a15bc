use Rattle.std.proofs.Common.{arith, List, [], ◌∷◌, ◌++◌, ◌≡◌, ◌+◌, drop, get_or, min, max, sym, ap, ◌∙◌}
use Rattle.std.proofs.lemmas.List.{drop_all, append_assoc, append-nil}
use Rattle.tqd_instance.specs.declared.supplier.Segment.{Segment}
use Rattle.tqd_instance.specs.Built.{limits_of, end_before}
use Rattle.tqd_instance.specs.Rows.{cut_segments}
use Rattle.tqd_instance.proofs.SegmentLemmas.{segments_are, cut-nil, cut_kept, cut_dropped, segment_kept, froms_in_range}
use Rattle.tqd_instance.proofs.segments.segments_of.Goals as goal
use Rattle.tqd_instance.proofs.segments.segments_of.Goals.{then-low-high+in_ok-prices+in_ok-push-2, else-low-high}

-- a segment more at the end of those that are done is one fewer of those that are due
moved : (done : List Segment) (s : Segment) (rest due whole : List Segment) → due ≡ s ∷ rest → done ++ due ≡ whole → (done ++ s ∷ []) ++ rest ≡ whole
moved done s rest due whole is all = append_assoc done (s ∷ []) rest ∙ ap (λ xs. done ++ xs) (sym is) ∙ all

pub loop-at-init : goal.loop-at-init
loop-at-init c =
    rw (c.in_ok-push.ensures.items, c.new-segments.ensures.items, c.in_ok-nothing_segment.ensures)
    (sym (segments_are c.args.parts.now c.args.i c.args.froms.now))

pub end_before-end-requires-clause-some : goal.end_before-end-requires-clause-some
end_before-end-requires-clause-some c = λ k d below. (froms_in_range c.args.parts.now c.args.i c.args.froms.now c.requires.formed c.requires.froms k d below).0

pub loop-at-preserved : goal.loop-at-preserved
loop-at-preserved c =
    let parts = c.args.parts.now in
    let froms = c.args.froms.now in
    let at = c.loop-at.at in
    let low_is : c.max-low.result ≡ max (limits_of parts c.args.i).least (get_or froms at 0) = cc in
    let high_is : c.min-high.result ≡ min (limits_of parts c.args.i).most (end_before (drop (at + 1) froms)) = cc in
    elim c.if-low-high.branch [
      | then-low-high+in_ok-prices+in_ok-push-2 w ↦
          (let kept = cut_kept parts c.args.i at c.max-low.result c.min-high.result froms c.loop-at-test.true low_is high_is w.if-low-high.true in
          let segment = segment_kept parts c.args.i (get_or froms at 0) c.max-low.result c.min-high.result w.in_ok-prices.prices w.in_ok-prices.ensures in
          rw (w.segments-is, w.in_ok-push-2.ensures.items, w.new.ensures, segment)
          (moved c.loop-at.segments.items _ _ _ _ kept c.loop-at.invariant))
      | else-low-high w ↦
          (let dropped = cut_dropped parts c.args.i at c.max-low.result c.min-high.result froms c.loop-at-test.true low_is high_is w.if-low-high.false in
          rw (w.segments-is, ← dropped) c.loop-at.invariant)
    ]

pub returns : goal.returns
returns c =
    let froms = c.args.froms.now in
    let none : drop c.loop-at.at froms ≡ [] = drop_all c.loop-at.at froms (omega arith) in
    let due : cut_segments c.args.parts.now c.args.i (drop c.loop-at.at froms) ≡ [] = ap (cut_segments c.args.parts.now c.args.i) none ∙ cut-nil c.args.parts.now c.args.i in
    c.of.ensures ∙ sym (append-nil c.loop-at.segments.items) ∙ ap (λ xs. c.loop-at.segments.items ++ xs) (sym due) ∙ c.loop-at.invariant
