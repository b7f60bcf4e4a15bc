use Rattle.std.proofs.Common.{◌≡◌, ◌++◌, ◌∷◌, [], get_or, arith}
use Rattle.std.proofs.lemmas.List.{get_or_read}
use Rattle.std.proofs.lemmas.Result.{on_ok_weaker}
use Rattle.bom_explode.specs.Structure.{structure_of}
use Rattle.bom_explode.specs.Ways.{along}
use Rattle.bom_explode.proofs.Structures.{IsStructure-along}
use Rattle.bom_explode.proofs.Searching.{IsTop-inside, IsSearch-leave, IsGrown-leave}
use Rattle.bom_explode.proofs.search.Search.step.Goals as goal

pub returns-else-index-gt0-clause-searches : goal.returns-else-index-gt0-clause-searches
returns-else-index-gt0-clause-searches c =
    let s = along c.args.way (structure_of c.args.bill.now) in
    let h = c.requires.searches in
    let b = IsTop-inside s c.args.self.now.cursor.items c.args.self.now.mark.items c.args.self.now.path.items c.args.self.now.left.items c.args.n h c.requires.top in
    let e = get_or_read c.args.self.now.cursor.items c.args.n c.index.result.now (omega (arith, h.cursors.names)) c.index.ensures 0 in
    let done : get_or c.args.self.now.cursor.items c.args.n 0 ≡ 0 = omega arith in
    on_ok_weaker c.leave.result (λ (l : c.leave.new.self.left.items ≡ c.args.self.now.left.items ++ c.args.n ∷ []).
    rw (c.leave.ensures.cursor, c.leave.ensures.mark, l)
    (IsSearch-leave s c.args.self.now.cursor.items c.args.self.now.mark.items c.leave.new.self.path.items c.args.self.now.left.items c.args.n
    (IsStructure-along c.args.way (structure_of c.args.bill.now) c.requires.kept) (rw (c.leave.ensures.path) at h) done))
    c.leave.ensures.left

pub returns-else-index-gt0-clause-grown : goal.returns-else-index-gt0-clause-grown
returns-else-index-gt0-clause-grown c =
    let s = along c.args.way (structure_of c.args.bill.now) in
    on_ok_weaker c.leave.result (λ (l : c.leave.new.self.left.items ≡ c.args.self.now.left.items ++ c.args.n ∷ []) before root g.
    rw (c.leave.ensures.mark)
    (IsGrown-leave s before root c.args.mark c.args.self.now.mark.items c.leave.new.self.path.items c.args.n (rw (c.leave.ensures.path) at g)))
    c.leave.ensures.left
