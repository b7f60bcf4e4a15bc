use Rattle.std.proofs.Common.{◌≡◌, ◌++◌, ◌∷◌, [], length, arith, ap, ◌∙◌}
use Rattle.bom_explode.specs.Structure.{structure_of}
use Rattle.bom_explode.specs.Ways.{along}
use Rattle.bom_explode.proofs.Searching.{IsSearch-enter, IsGrown-start}
use Rattle.bom_explode.proofs.search.Search.run.Goals as goal

pub loop-n-init : goal.loop-n-init
loop-n-init c =
    let s = along c.args.way (structure_of c.args.bill.now) in
    let h = c.requires.idle.searches in
    let e : c.args.self.now.path.items ++ c.args.root ∷ [] ≡ c.args.root ∷ [] = ap (λ xs. xs ++ c.args.root ∷ []) c.requires.idle.no_path in
    record {
      searches = rw (c.in_ok-enter.ensures.cursor, c.in_ok-enter.ensures.mark, c.in_ok-enter.ensures.path, c.in_ok-enter.ensures.left)
          (IsSearch-enter s c.args.self.now.cursor.items c.args.self.now.mark.items c.args.self.now.path.items c.args.self.now.left.items c.args.root c.args.mark
          h c.requires.root c.requires.unfound c.requires.mark (λ k b. absurd (omega (arith, ap length c.requires.idle.no_path))));
      grown = rw (c.in_ok-enter.ensures.mark, c.in_ok-enter.ensures.path ∙ e)
          (IsGrown-start s c.args.self.now.mark.items c.args.root c.args.mark h.followed.names c.requires.root c.requires.unfound c.requires.mark);
    }

pub loop-n-preserved : goal.loop-n-preserved
loop-n-preserved c = record {
  searches = c.in_ok-step.ensures.searches;
  grown = c.in_ok-step.ensures.grown c.args.self.now.mark.items c.args.root c.loop-n.invariant.grown;
}
