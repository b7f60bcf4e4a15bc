use Rattle.std.proofs.Common.{ℕ, ◌≤◌, List, length, get_or, subst, sym, refl, ap, arith}
use Rattle.lagrangian.specs.Columns.{Mixture, AreWithin}
use Rattle.lagrangian.proofs.Mixing.{AreColumns-set, AreWithin-set, Keeps-set, column_of}
use Rattle.lagrangian.proofs.columns.Columns.mix.Goals as goal

pub loop-k-preserved : goal.loop-k-preserved
loop-k-preserved c =
    let i = c.loop-k.invariant in
    let inside = c.loop-k.self-inside in
    let list = inside.list.items in
    let k = c.loop-k.k in
    let was = c.index_mut.result.now in
    let here : AreWithin inside.caps was.units = column_of inside.caps list c.args.a was i.sound (omega (arith, i.sound.count)) c.index_mut.ensures.value in
    let left : AreWithin inside.caps c.index.result.now.units = column_of inside.caps list c.args.a c.index.result.now i.sound (omega (arith, i.sound.count)) c.index.ensures in
    let right : AreWithin inside.caps c.index-in-loop-k.result.now.units = column_of inside.caps list c.args.b c.index-in-loop-k.result.now i.sound (omega (arith, i.sound.count)) c.index-in-loop-k.ensures in
    let m : c.mean-units.result ≤ get_or inside.caps k 0 = c.mean-units.ensures (get_or inside.caps k 0) (omega (arith, left.within k, c.get.ensures)) (omega (arith, right.within k, c.get-in-loop-k.ensures)) in
    let width = ap (λ (caps : List ℕ). length caps) i.kept.caps in
    let first = ap (λ (m : Mixture). length m.caps) c.self.view_is in
    let new = subst (AreWithin inside.caps) (sym c.set.ensures) (AreWithin-set inside.caps was.units k c.mean-units.result here (omega (arith, here.width)) m) in
    record {
      sound = AreColumns-set inside.caps list c.args.a _ i.sound new;
      kept = Keeps-set c.args.self.now inside.caps inside.weights list c.args.a was _ (omega (arith, i.sound.count)) c.index_mut.ensures.value refl i.kept;
      weights = i.weights;
    }
