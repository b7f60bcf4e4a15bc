use Rattle.std.proofs.Common.{ℕ, ℤ, pos, ◌*◌, ◌≡◌, ◌≤◌, slice_index, ap, ◌∙◌, arith}
use Rattle.std.proofs.lemmas.Int.{ints, to_z-of_z}
use lib.IntN.{nat_abs}
use mir.Syntax.{w64}
use mir.Val.{to_z, of_z}
use Rattle.box_bound.specs.BoxNet.{offer_place}
use Rattle.box_bound.proofs.flow.set_row.Goals as goal

unit_read : (r : ℤ) (u : ℕ) → r ≡ pos u → u ≤ 100000000 → nat_abs (to_z w64 (of_z w64 r)) ≤ 100000000
unit_read r u is few =
    let read : to_z w64 (of_z w64 r) ≡ pos u = ap (λ z. to_z w64 (of_z w64 z)) is ∙ to_z-of_z w64 (pos u) (omega (arith, ints)) in
    rw read few

pub set-requires-clause-within : goal.set-requires-clause-within
set-requires-clause-within c =
    let k = c.loop-k.k in
    let at = c.requires.within k (omega arith) in
    unit_read c.get.result (slice_index c.args.flow.now (offer_place c.args.job.now c.args.i k)) (c.get.ensures ∙ ap (λ a. pos (slice_index c.args.flow.now a)) (omega (arith, ap (λ g. c.args.i * g) c.goods.ensures.value))) at
