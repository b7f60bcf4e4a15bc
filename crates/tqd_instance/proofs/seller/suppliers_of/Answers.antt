use Rattle.std.proofs.Common.{arith, ◌≡◌, ◌<◌, ◌+◌, ◌++◌, [], ◌∷◌, List, ℕ, length, get_or, below_more, inl, inr, subst}
use Rattle.std.proofs.lemmas.Bool.{cases_lt}
use Rattle.std.proofs.lemmas.Grind.{common_steps}
use Rattle.tqd_instance.specs.declared.supplier.Supplier.{Supplier}
use Rattle.tqd_instance.specs.Offer.{no_supplier}
use Rattle.tqd_instance.specs.Rows.{IsBuilt, LacksNoneOf}
use Rattle.tqd_instance.proofs.LackLemmas.{complete_from, first_of_all}
use Rattle.tqd_instance.proofs.seller.suppliers_of.Goals as goal

-- what holds of each supplier so far, and of one more
one_more : (P : ℕ → Supplier → Type 0) (xs : List Supplier) (n : ℕ) (s : Supplier) → length xs ≡ n → ((i : ℕ) → i < n → P i (get_or xs i no_supplier)) → P n s
    → (i : ℕ) → i < n + 1 → P i (get_or (xs ++ s ∷ []) i no_supplier)
one_more P xs n s size each last i below = elim (cases_lt i n) [
  | inl before ↦ (let kept : get_or (xs ++ s ∷ []) i no_supplier ≡ get_or xs i no_supplier = left xs s i (omega arith) in rw kept (each i before))
  | inr at_end ↦ (let same : n ≡ i = omega arith in
      let new : get_or (xs ++ s ∷ []) i no_supplier ≡ s = at_length xs s i (omega arith) in
      rw new (subst (λ (j : ℕ). P j s) same last))
]
  where
    left : (xs : List Supplier) (s : Supplier) (i : ℕ) → i < length xs → get_or (xs ++ s ∷ []) i no_supplier ≡ get_or xs i no_supplier
    left xs s i below = grind (arith, common_steps)

    at_length : (xs : List Supplier) (s : Supplier) (i : ℕ) → i ≡ length xs → get_or (xs ++ s ∷ []) i no_supplier ≡ s
    at_length xs s i same = grind (arith, common_steps)

pub loop-i-preserved : goal.loop-i-preserved
loop-i-preserved c =
    let items = c.in_ok-push-in-Ok.ensures.items in
    let inv = c.loop-i.invariant in
    record {
      count = grind (arith, common_steps);
      built = rw items (one_more (IsBuilt c.args.parts.now) c.loop-i.suppliers.items c.loop-i.i c.in-Ok.supplier inv.count inv.built c.in-Ok.ensures.built);
      complete = below_more (LacksNoneOf c.args.parts.now) c.loop-i.i inv.complete c.in-Ok.ensures.complete;
    }

pub returns-clause-complete : goal.returns-clause-complete
returns-clause-complete c =
    complete_from c.args.parts.now c.requires.formed (λ i below. c.loop-i.invariant.complete i (omega (arith, c.suppliers-i-end.ensures)))

pub returns-in-Err-clause-refused : goal.returns-in-Err-clause-refused
returns-in-Err-clause-refused c =
    first_of_all c.args.parts.now c.loop-i.i c.in-Err.stop c.loop-i.invariant.complete c.in-Err.ensures.refused
