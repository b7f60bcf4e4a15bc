-- The parts while they grow.
use Rattle.std.proofs.Common.{ℕ, ◌≡◌, ◌+◌, List, [], ◌∷◌, ◌++◌, refl, ap, ◌∙◌, sym, append_assoc}
use Rattle.std.proofs.lemmas.List.{append-nil}
use Rattle.tqd_instance.specs.declared.parts.PriceRow.{PriceRow}
use Rattle.tqd_base.specs.Sum.{sum_to}
use Rattle.tqd_instance.specs.PartsData.{PartsData}
use Rattle.tqd_instance.specs.Built.{table}
use Rattle.tqd_instance.proofs.Tables.{table-zero, table-more}
use Rattle.order_gen.specs.declared.offers.Starts.{Starts}
use Rattle.order_gen.specs.declared.offers.Discounts.{Discounts}
use Rattle.order_gen.specs.Draws.{state_after}
use Rattle.order_gen.specs.GenParts.{joined, drawn_need, draws_before, discounts_from, base_price, good_offers, starts_by, supplier_offers, all_offers, parts_from}
use Rattle.order_gen.proofs.Lists.{joined-zero, joined-more}

abbrev pub with_needs : PartsData → List ℕ → PartsData
with_needs old more = record old { needs = old.needs ++ more }

abbrev pub with_prices : PartsData → List PriceRow → PartsData
with_prices old more = record old { prices = old.prices ++ more }

pub needs_more : (old now new : PartsData) (n need : ℕ) (f : ℕ → ℕ) → now ≡ with_needs old (table n f) → new ≡ with_needs now (need ∷ []) → need ≡ f n
    → new ≡ with_needs old (table (n + 1) f)
needs_more old now new n need f before more is =
    more ∙ ap (λ (p : PartsData). with_needs p (need ∷ [])) before
    ∙ ap (λ (xs : List ℕ). let p : PartsData = record old { needs = xs } in p)
    (append_assoc old.needs (table n f) (need ∷ [])
    ∙ ap (λ ys. old.needs ++ ys) (ap (λ x. table n f ++ x ∷ []) is ∙ sym (table-more n f)))

pub prices_more : (old now new : PartsData) (n : ℕ) (more : List PriceRow) (f : ℕ → List PriceRow) → now ≡ with_prices old (joined n f)
    → new ≡ with_prices now more → more ≡ f n → new ≡ with_prices old (joined (n + 1) f)
prices_more old now new n more f before added is =
    added ∙ ap (λ (p : PartsData). with_prices p more) before
    ∙ ap (λ (xs : List PriceRow). let p : PartsData = record old { prices = xs } in p)
    (append_assoc old.prices (joined n f) more
    ∙ ap (λ ys. old.prices ++ ys) (ap (λ x. joined n f ++ x) is ∙ sym (joined-more n f)))

pub none_needed : (old : PartsData) (f : ℕ → ℕ) → old ≡ with_needs old (table 0 f)
none_needed old f =
    ap (λ (xs : List ℕ). let p : PartsData = record old { needs = xs } in p)
    (sym (ap (λ ys. old.needs ++ ys) (table-zero f) ∙ append-nil old.needs))

pub none_offered : (old : PartsData) (f : ℕ → List PriceRow) → old ≡ with_prices old (joined 0 f)
none_offered old f =
    ap (λ (xs : List PriceRow). let p : PartsData = record old { prices = xs } in p)
    (sym (ap (λ ys. old.prices ++ ys) (joined-zero f) ∙ append-nil old.prices))

pub supplier_added : (old now : PartsData) (s i : ℕ) (starts : Starts) (discounts : Discounts) (goods n : ℕ) → n ≡ goods → discounts ≡ discounts_from s
    → now ≡ with_prices old (joined n (λ k. good_offers i starts discounts k (base_price s k)))
    → now ≡ with_prices old (supplier_offers s i starts goods)
unfolding supplier_offers
supplier_added old now s i starts discounts goods n all is before = rw (← all, ← is) before

pub parts_are : (s goods suppliers sum n : ℕ) (new needed now : PartsData) (starts : Starts)
    → new ≡ record { suppliers = suppliers; needs = []; prices = []; stocks = []; totals = []; shares = []; fees = []; overs = []; least_winners = 0; most_winners = 64 }
    → needed ≡ with_needs new (table goods (drawn_need s)) → sum ≡ sum_to goods (drawn_need s) → starts ≡ starts_by sum suppliers → n ≡ suppliers
    → now ≡ with_prices needed (joined n (λ i. supplier_offers (state_after s (draws_before goods i)) i starts goods))
    → now ≡ parts_from s goods suppliers
unfolding parts_from all_offers
parts_are s goods suppliers sum n new needed now starts new_is needed_is sum_is starts_is all before =
    before ∙ rw (all, starts_is, sum_is, needed_is, new_is) refl
