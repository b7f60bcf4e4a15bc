use Rattle.std.proofs.Common.{ℕ, ◌≡◌, List, ◌∷◌, sym, ◌∙◌, subst, arith}
use Rattle.std.specs.Prelude.{reverse, IsOk}
use Rattle.interval_box.specs.declared.boxes.IntervalBox.{IntervalBox}
use Rattle.interval_box.specs.Halves.{low_half, high_half}
use Rattle.tree_checker.specs.Stack.{IsRoomy, IsSplitFirst}
use Rattle.tree_checker.proofs.Stacks.{IsTakenOff, taken_off, put_on, heads_same, tails_same}
use Rattle.tree_checker.proofs.stack.BoxStack.split.Goals as goal

off : (c : goal.After-push-pushed-in-Some) → IsTakenOff c.self.inside.boxes.items c.pop.new.self.items c.in-Some.area c.args.i c.args.s
off c = taken_off _ _ c.in-Some.area c.args.i c.args.s c.in-Some.ensures.items c.self.invariant.roomy
    (subst (λ (l : List IntervalBox). IsSplitFirst l c.args.i c.args.s) (sym c.self.view_is) c.requires.some)

first_ok : (c : goal.After-push-pushed-in-Some) → IsOk c.push-pushed.result
first_ok c =
    let t = off c in
    c.push-pushed.ensures.succeeds (omega (arith, t.room, c.pop.ensures.capacity, c.self.invariant.reserved, c.pop.new.self.ok))

second_ok : (c : goal.After-push-pushed-in-Some) → IsOk c.push-pushed-in-Some.result
second_ok c =
    let t = off c in
    c.push-pushed-in-Some.ensures.succeeds (omega (arith, t.room, c.push-pushed.ensures.upper_bound, c.push-pushed.ensures.capacity, c.pop.ensures.capacity, c.self.invariant.reserved, c.pop.new.self.ok))

items_are : (c : goal.After-push-pushed-in-Some) → reverse c.push-pushed-in-Some.new.self.items ≡ c.halves.result.0 ∷ c.halves.result.1 ∷ reverse c.pop.new.self.items
items_are c = put_on c.pop.new.self.items c.push-pushed.new.self.items c.push-pushed-in-Some.new.self.items c.halves.result.0 c.halves.result.1 _ _
    (first_ok c) (second_ok c) c.push-pushed.ensures.items c.push-pushed-in-Some.ensures.items

two : (a b x y : IntervalBox) (l : List IntervalBox) → a ≡ x → b ≡ y → ◌≡◌ {A = List IntervalBox} (a ∷ b ∷ l) (x ∷ y ∷ l)
two a b x y l e f = λ j. e j ∷ f j ∷ l

pub invariant_of-self : goal.invariant_of-self
invariant_of-self c =
    let t = off c in
    record {
      reserved = omega (arith, c.push-pushed-in-Some.ensures.capacity, c.push-pushed.ensures.capacity, c.pop.ensures.capacity, c.self.invariant.reserved);
      roomy = subst IsRoomy (sym (items_are c ∙ two _ _ _ _ _ c.halves.ensures.low c.halves.ensures.high)) t.roomy;
    }

parts_are : (area first : IntervalBox) (due below : List IntervalBox) (i s : ℕ) → ◌≡◌ {A = List IntervalBox} (area ∷ due) (first ∷ below)
    → ◌≡◌ {A = List IntervalBox} (low_half first i s ∷ high_half first i s ∷ below) (low_half area i s ∷ high_half area i s ∷ due)
parts_are area first due below i s e =
    let h = heads_same area first due below e in
    let t = tails_same area first due below e in
    λ j. low_half (sym h j) i s ∷ high_half (sym h j) i s ∷ sym t j

pub returns-in-Some : goal.returns-in-Some
returns-in-Some c = λ area due is.
    let t = off c in
    items_are c ∙ two _ _ _ _ _ c.halves.ensures.low c.halves.ensures.high
    ∙ parts_are area c.in-Some.area due (reverse c.pop.new.self.items) c.args.i c.args.s (sym is ∙ sym c.self.view_is ∙ t.items)
