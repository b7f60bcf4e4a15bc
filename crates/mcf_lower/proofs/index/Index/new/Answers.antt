use Rattle.std.proofs.Common.{◌≡◌, ℕ, [], ◌∷◌, ◌++◌, length, subst, ap, ◌∙◌, arith}
use Rattle.std.proofs.lemmas.Grind.{common_steps}
use Rattle.mcf_lower.specs.Ends.{IsIndexTo}
use Rattle.mcf_lower.proofs.Ends.{IsIndexTo-none, IsIndexTo-more}
use Rattle.mcf_lower.proofs.index.Index.new.Goals as goal

pub loop-v-init : goal.loop-v-init
loop-v-init c =
    IsIndexTo-none c.args.net.now c.push.new.self.items c.in_ok-ends.ends.items
    (c.in_ok-push.ensures.items ∙ ap (λ xs. xs ++ 0 ∷ []) c.in_ok-starts.ensures.items) c.in_ok-ends.ensures.items

pub loop-v-preserved : goal.loop-v-preserved
loop-v-preserved c =
    let l : c.len.result ≡ length c.add_to.new.ends.items = grind (arith, common_steps) in
    IsIndexTo-more c.args.net.now c.loop-v.v c.len.result c.loop-v.starts.items c.push-in-loop-v.new.self.items c.loop-v.ends.items c.add_to.new.ends.items
    c.loop-v.invariant c.in_ok-add_to.ensures l c.in_ok-push-2.ensures.items

pub returns : goal.returns
returns c =
    let e : c.loop-v.v ≡ c.args.net.now.nodes = omega (arith, c.nodes-v-end.ensures.is) in
    subst (λ (x : ℕ). IsIndexTo c.args.net.now x c.loop-v.starts.items c.loop-v.ends.items) e c.loop-v.invariant
