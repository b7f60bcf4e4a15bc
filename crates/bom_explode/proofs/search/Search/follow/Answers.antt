use Rattle.std.proofs.Common.{◌≡◌, ◌-◌, ◌<◌, ◌++◌, ◌∷◌, [], get_or, arith}
use Rattle.std.proofs.lemmas.List.{get_or_read, length_push}
use Rattle.std.proofs.lemmas.Result.{on_ok_weaker}
use Rattle.bom_explode.specs.Structure.{structure_of}
use Rattle.bom_explode.specs.Ways.{along}
use Rattle.bom_explode.proofs.Structures.{IsStructure-along}
use Rattle.bom_explode.proofs.Searching.{IsTop-inside, IsSearch-follow, IsSearch-found, IsGrown-found, sum-follow}
use Rattle.bom_explode.proofs.search.Search.follow.Goals as goal
use Rattle.bom_explode.proofs.search.Search.follow.Goals.{After-index-3}

-- what the reads give
record IsRead (c : After-index-3) : Type 0 where
  inside : c.args.n < (structure_of c.args.bill.now).names
  cursor : c.index.result.now ≡ get_or c.args.self.now.cursor.items c.args.n 0
  next : c.index-2.result.now ≡ get_or c.args.chains.now.next.items (c.index.result.now - 1) 0
  mark : c.index-3.result.now ≡ get_or c.args.self.now.mark.items c.ends-finish.result.1 0

is_read : (c : After-index-3) → IsRead c
is_read c =
    let h = c.requires.searches in
    let b = IsTop-inside (along c.args.way (structure_of c.args.bill.now)) c.args.self.now.cursor.items c.args.self.now.mark.items
    c.args.self.now.path.items c.args.self.now.left.items c.args.n h c.requires.top in
    let e = get_or_read c.args.self.now.cursor.items c.args.n c.index.result.now (omega (arith, h.cursors.names)) c.index.ensures 0 in
    record {
      inside = b;
      cursor = e;
      next = get_or_read c.args.chains.now.next.items (c.index.result.now - 1) c.index-2.result.now
          (omega (arith, c.requires.chains.nexts, h.cursors.most c.args.n b, c.requires.more)) c.index-2.ensures 0;
      mark = get_or_read c.args.self.now.mark.items c.ends-finish.result.1 c.index-3.result.now
          (omega (arith, h.followed.names, c.ends-finish.ensures.finish_inside)) c.index-3.ensures 0;
    }

pub returns-then-index-lt-UNFOUND-clause-searches : goal.returns-then-index-lt-UNFOUND-clause-searches
returns-then-index-lt-UNFOUND-clause-searches c =
    let r = is_read (goal.at.returns-then-index-lt-UNFOUND-clause-searches c).After-index-3 in
    let s = along c.args.way (structure_of c.args.bill.now) in
    IsSearch-follow s c.args.chains.now.first.items c.args.chains.now.next.items c.args.self.now.cursor.items c.args.self.now.mark.items
    c.args.self.now.path.items c.args.self.now.left.items c.args.n c.index.result.now c.index-2.result.now
    (IsStructure-along c.args.way (structure_of c.args.bill.now) c.requires.kept) c.requires.chains c.requires.searches
    r.inside r.cursor (omega (arith, r.cursor)) r.next (rw (← c.ends-finish.ensures.finish, ← r.mark) c.if-index-lt-UNFOUND.true)

pub returns-then-index-lt-UNFOUND-clause-nearer : goal.returns-then-index-lt-UNFOUND-clause-nearer
returns-then-index-lt-UNFOUND-clause-nearer c =
    let r = is_read (goal.at.returns-then-index-lt-UNFOUND-clause-nearer c).After-index-3 in
    let s = along c.args.way (structure_of c.args.bill.now) in
    let f = sum-follow s c.args.chains.now.first.items c.args.chains.now.next.items c.args.self.now.cursor.items c.args.n c.index.result.now
    c.index-2.result.now c.requires.chains c.requires.searches.cursors r.inside r.cursor (omega (arith, r.cursor)) r.next in
    omega arith

pub returns-else-index-lt-UNFOUND-clause-searches : goal.returns-else-index-lt-UNFOUND-clause-searches
returns-else-index-lt-UNFOUND-clause-searches c =
    let r = is_read (goal.at.returns-else-index-lt-UNFOUND-clause-searches c).After-index-3 in
    let s = along c.args.way (structure_of c.args.bill.now) in
    on_ok_weaker c.enter.result (λ (p : c.enter.new.self.path.items ≡ c.args.self.now.path.items ++ c.ends-finish.result.1 ∷ []). rw (c.enter.ensures.cursor, c.enter.ensures.mark, p, c.enter.ensures.left)
    (IsSearch-found s c.args.chains.now.first.items c.args.chains.now.next.items c.args.self.now.cursor.items c.args.self.now.mark.items
    c.args.self.now.path.items c.args.self.now.left.items c.args.n c.index.result.now c.index-2.result.now c.ends-finish.result.1 c.args.mark
    (IsStructure-along c.args.way (structure_of c.args.bill.now) c.requires.kept) c.requires.chains c.requires.searches
    c.requires.top r.cursor (omega (arith, r.cursor)) r.next c.ends-finish.ensures.finish (rw (← r.mark) c.if-index-lt-UNFOUND.false) c.requires.mark))
    c.enter.ensures.path

pub returns-else-index-lt-UNFOUND-clause-grown : goal.returns-else-index-lt-UNFOUND-clause-grown
returns-else-index-lt-UNFOUND-clause-grown c =
    let r = is_read (goal.at.returns-else-index-lt-UNFOUND-clause-grown c).After-index-3 in
    let s = along c.args.way (structure_of c.args.bill.now) in
    on_ok_weaker c.enter.result (λ (p : c.enter.new.self.path.items ≡ c.args.self.now.path.items ++ c.ends-finish.result.1 ∷ []) before root g. rw (c.enter.ensures.mark, p)
    (IsGrown-found s c.args.chains.now.first.items c.args.chains.now.next.items c.args.self.now.cursor.items c.args.self.now.mark.items
    c.args.self.now.path.items c.args.self.now.left.items c.args.n c.index.result.now c.index-2.result.now c.ends-finish.result.1 c.args.mark
    (IsStructure-along c.args.way (structure_of c.args.bill.now) c.requires.kept) c.requires.chains c.requires.searches
    c.requires.top r.cursor (omega (arith, r.cursor)) r.next c.ends-finish.ensures.finish (rw (← r.mark) c.if-index-lt-UNFOUND.false) c.requires.mark before root g))
    c.enter.ensures.path

pub returns-else-index-lt-UNFOUND-clause-nearer : goal.returns-else-index-lt-UNFOUND-clause-nearer
returns-else-index-lt-UNFOUND-clause-nearer c =
    let r = is_read (goal.at.returns-else-index-lt-UNFOUND-clause-nearer c).After-index-3 in
    let s = along c.args.way (structure_of c.args.bill.now) in
    let f = sum-follow s c.args.chains.now.first.items c.args.chains.now.next.items c.args.self.now.cursor.items c.args.n c.index.result.now
    c.index-2.result.now c.requires.chains c.requires.searches.cursors r.inside r.cursor (omega (arith, r.cursor)) r.next in
    on_ok_weaker c.enter.result (λ (p : c.enter.new.self.path.items ≡ c.args.self.now.path.items ++ c.ends-finish.result.1 ∷ []). rw (c.enter.ensures.cursor, p) (omega (arith, length_push c.args.self.now.path.items c.ends-finish.result.1))) c.enter.ensures.path
