use Rattle.std.proofs.Common.{ℕ, ◌≡◌, ◌<◌, ◌≤◌, ⊎_elim, length, get_or, arith, ap, ◌∙◌}
use Rattle.std.proofs.lemmas.Bool.{cases_lt}
use Rattle.std.proofs.lemmas.List.Sorted.{searched}
use Rattle.std.proofs.lemmas.Result.{MatchResult-at_err}
use Rattle.bom_explode.specs.Needs.{Needed}
use Rattle.bom_explode.proofs.Collecting.{rising_pairs}
use Rattle.bom_explode.proofs.needs.Needs.good_of.Goals as goal

pub returns-in-Err : goal.returns-in-Err
returns-in-Err c k b e =
    let goods = c.deref.result.now in
    let same : goods ≡ c.self.inside.goods.items = c.deref.ensures.value in
    let h = searched goods c.args.name c.binary_search.result c.binary_search.ensures.position (rising_pairs goods (rw same c.self.invariant.rising)) in
    let m = MatchResult-at_err (λ i. (i < length goods) × (get_or goods i 0 ≡ c.args.name))
    (λ i. (i ≤ length goods) × ((k : ℕ) → k < i → get_or goods k 0 < c.args.name) × ((k : ℕ) → i ≤ k → k < length goods → c.args.name < get_or goods k 0))
    c.in-Err.field-0 c.in-Err.is h in
    let here : get_or goods k 0 ≡ c.args.name = ap (λ xs. get_or xs k 0) (same ∙ ap (λ (x : Needed). x.goods) c.self.view_is) ∙ e in
    ⊎_elim
    (λ (z : k < c.in-Err.field-0). omega (arith, m.1 k z))
    (λ (z : c.in-Err.field-0 ≤ k). omega (arith, m.2 k z (omega (arith, ap length (same ∙ ap (λ (x : Needed). x.goods) c.self.view_is)))))
    (cases_lt k c.in-Err.field-0)
