-- Rows without a fault fit their box.
use Rattle.std.proofs.Common.{ℤ, ◌≡◌, ◌==◌, Bool, true, false, List, [], ◌∷◌, length, find, Option, Some, None, if◌then◌else◌, refl, arith, neg_ℤ}
use Rattle.std.specs.Prelude.{int_le}
use Rattle.std.specs.Option.{option_map}
use Rattle.std.specs.List.{All}
use Rattle.std.proofs.lemmas.Bool.{and_parts, not-false, eqb-true}
use Rattle.std.proofs.lemmas.Int.{ints}
use Rattle.std.proofs.lemmas.List.Elements.{All-nil, All-cons}
use Rattle.tqd_base.specs.declared.limits.TheConstants.{DUAL_MAX}
use Rattle.tqd_instance.specs.declared.job.Job.{Job}
use Rattle.interval_box.specs.declared.boxes.IntervalBox.{IntervalBox}
use Rattle.bound_tree.specs.LineHead.{is_beyond}
use Rattle.bound_tree.specs.Prices.{IsPrice, Fits, row_of}
use Rattle.bound_tree.proofs.OneList.{fits_as_one}
use Rattle.tree_checker.specs.declared.rejection.Why.{Why}
use Rattle.tree_checker.specs.declared.rejection.Why.TheVariants.{RowLength, PriceRange}
use Rattle.tree_checker.specs.Verdict.{prices_wanted, row_fault}

price_from : (p : ℤ) → is_beyond p ≡ false → IsPrice p
price_from p e =
    let parts = and_parts (int_le (neg_ℤ DUAL_MAX) p) (int_le p DUAL_MAX) (not-false _ e) in
    record { not_less = grind (arith, ints, parts.0); not_more = grind (arith, ints, parts.1) }

find_step : (p : ℤ) (ps : List ℤ) (b : Bool) → is_beyond p ≡ b → find is_beyond (p ∷ ps) ≡ None → (is_beyond p ≡ false) × (find is_beyond ps ≡ None)
find_step p ps true is e = absurd (let some = rw is at e in cc)
find_step p ps false is e = (is, (let rest = rw is at e in rest))

pub prices_within : (prices : List ℤ) → find is_beyond prices ≡ None → All IsPrice prices
prices_within [] e = All-nil IsPrice
prices_within (p ∷ ps) e =
    let s = find_step p ps (is_beyond p) refl e in
    All-cons IsPrice p ps (price_from p s.0) (prices_within ps s.1)

no_fault : (b : Bool) (o : Option ℤ) (why : Why) → (if b then option_map PriceRange o else Some why) ≡ None → (b ≡ true) × (o ≡ None)
no_fault true None why e = (refl, refl)
no_fault true (Some z) why e = absurd (cc)
no_fault false o why e = absurd (cc)

pub row_fits : (job : Job) (area : IntervalBox) (prices : List ℤ) → row_fault job area prices ≡ None → Fits job area (row_of job prices)
row_fits job area prices e =
    let n = no_fault (length prices == prices_wanted job area) (find is_beyond prices) (RowLength (length prices) (prices_wanted job area)) e in
    (fits_as_one job area prices).1 (record { count = eqb-true _ _ n.0; in_range = prices_within prices n.1 })
