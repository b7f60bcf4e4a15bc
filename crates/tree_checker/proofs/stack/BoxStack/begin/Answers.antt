use Rattle.std.proofs.Common.{◌≡◌, ◌<◌, List, [], ◌∷◌, ◌++◌, refl, ap, sym, ◌∙◌, subst, arith, vec_len}
use Rattle.std.specs.Prelude.{reverse, vec_capacity}
use Rattle.interval_box.specs.declared.boxes.IntervalBox.{IntervalBox}
use Rattle.bound_tree.specs.Root.{root_of}
use Rattle.tree_checker.specs.Stack.{IsRoomy}
use Rattle.bound_tree.proofs.Roots.{root_is, root_is_value}
use Rattle.tree_checker.proofs.Stacks.{pushed, roomy_root}
use Rattle.tree_checker.proofs.stack.BoxStack.begin.Goals as goal

items_are : (news olds : List IntervalBox) (area root : IntervalBox) → news ≡ olds ++ area ∷ [] → olds ≡ [] → area ≡ root → news ≡ root ∷ []
items_are news olds area root e none is = e ∙ (rw (none, is) refl)

pub invariant_of-self : goal.invariant_of-self
invariant_of-self c =
    let room : vec_len c.clear.new.self < vec_capacity c.clear.new.self = omega (arith, c.clear.ensures.len, c.clear.ensures.capacity, c.self.invariant.reserved) in
    let all = pushed _ _ _ _ (c.push-pushed.ensures.succeeds room) c.push-pushed.ensures.items in
    let one = items_are c.push-pushed.new.self.items c.clear.new.self.items c.root.result (root_of c.args.job.now) all c.clear.ensures.items (root_is_value c.args.job.now c.root.result c.root.ensures.whole) in
    record {
      reserved = omega (arith, c.push-pushed.ensures.capacity, c.clear.ensures.capacity, c.self.invariant.reserved);
      roomy = subst (λ (xs : List IntervalBox). IsRoomy (reverse xs)) (sym one) (roomy_root c.args.job.now);
    }

pub returns-clause-root : goal.returns-clause-root
returns-clause-root c =
    let room : vec_len c.clear.new.self < vec_capacity c.clear.new.self = omega (arith, c.clear.ensures.len, c.clear.ensures.capacity, c.self.invariant.reserved) in
    let all = pushed _ _ _ _ (c.push-pushed.ensures.succeeds room) c.push-pushed.ensures.items in
    ap reverse (items_are c.push-pushed.new.self.items c.clear.new.self.items c.root.result (root_of c.args.job.now) all c.clear.ensures.items (root_is_value c.args.job.now c.root.result c.root.ensures.whole))

pub returns-clause-of_job : goal.returns-clause-of_job
returns-clause-of_job c = (root_is c.args.job.now).of_job
