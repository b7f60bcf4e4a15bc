-- Quantities in rows.
use Rattle.std.proofs.Common.{◌≡◌, ℕ, ◌≤◌, false, List, Option, None, Some, refl, sym, unwrap_or}
use Rattle.std.proofs.lemmas.Bool.{false≢true}
use Rattle.std.proofs.lemmas.Option.{option_and_then_some}
use Rattle.std.specs.Option.{is_none}
use Rattle.money.specs.Number.{qty_of, numeral_of, within}
use Rattle.money.proofs.Quantities.{within-from}

-- a value that is there
pub there : {X : Type 0} (o : Option X) → is_none o ≡ false → (x : X) × (o ≡ Some x)
there None e = absurd (false≢true (sym e))
there (Some x) e = (x, refl)

pub qty_of-within : (least greatest : ℕ) (text : List ℕ) (n : ℕ) → qty_of least greatest text ≡ Some n → (least ≤ n) × (n ≤ greatest)
qty_of-within least greatest text n e = option_and_then_some (within least greatest) (numeral_of 18 text) n e (λ m read is. let p = within-from least greatest m n is in (p.0, p.1))

-- the quantity of a row that has one
pub units-within : (least greatest : ℕ) (text : List ℕ) → is_none (qty_of least greatest text) ≡ false → (least ≤ unwrap_or (qty_of least greatest text) 0) × (unwrap_or (qty_of least greatest text) 0 ≤ greatest)
units-within least greatest text e = let p = there (qty_of least greatest text) e in rw p.1 (qty_of-within least greatest text p.0 p.1)
