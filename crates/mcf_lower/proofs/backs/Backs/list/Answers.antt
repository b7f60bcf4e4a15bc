use Rattle.std.proofs.Common.{◌≡◌, ◌+◌, [], ◌∷◌, ◌++◌, length, get_or, set, refl, ap, ◌∙◌, arith}
use Rattle.std.proofs.lemmas.Grind.{common_steps}
use Rattle.mcf_lower.specs.declared.net.Arc.{Arc}
use Rattle.mcf_lower.proofs.Ends.{AreBacks-list}
use Rattle.mcf_lower.proofs.backs.Backs.list.Goals as goal

pub returns-clause-backs : goal.returns-clause-backs
returns-clause-backs c =
    let b = c.args.self.now in
    let tail = c.arc_of-tail.result.tail in
    let more : c.len.result ≡ length b.ends.items + 1 = grind (arith, common_steps) in
    let last : c.index-2.result.now ≡ get_or b.first.items tail 0 = grind (arith, common_steps) in
    AreBacks-list c.args.net.now b _ c.args.e tail c.leaving.result c.requires.network c.requires.backs (omega (arith, c.arcs.ensures.is))
    c.leaving.ensures.arc c.leaving.ensures.leaving (ap (λ (x : Arc). x.tail) c.arc_of-tail.ensures.is)
    (record {
      listed = refl;
      ends = c.in_ok-push.ensures.items;
      first = ap (λ x. set b.first.items tail x) more;
      next = c.in_ok-push-2.ensures.items ∙ ap (λ x. b.next.items ++ x ∷ []) last;
    })
