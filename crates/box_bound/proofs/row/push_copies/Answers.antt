use Rattle.std.proofs.Common.{refl, sym, subst}
use Rattle.std.proofs.lemmas.Int.{to_z-of_z}
use Rattle.std.proofs.lemmas.List.Elements.{All-push, All-same}
use mir.Syntax.{w64}
use Rattle.bound_tree.specs.Prices.{IsPrice}
use Rattle.box_bound.proofs.NumberRows.{next_one}
use Rattle.box_bound.proofs.row.push_copies.Goals as goal

pub loop-copy-preserved : goal.loop-copy-preserved
loop-copy-preserved c =
    let inv = c.loop-copy.invariant in
    let pushed = c.in_ok-push.ensures.items in
    let price = subst IsPrice (sym (to_z-of_z w64 c.args.price c.ranges.price)) c.requires.price in
    record {
      next = next_one _ _ _ _ _ _ inv.next pushed refl;
      in_range = All-same IsPrice _ _ pushed (All-push IsPrice _ _ inv.in_range price);
    }
