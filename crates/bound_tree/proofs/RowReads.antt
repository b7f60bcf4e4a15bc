-- The prices of a row, read one after another into their places.
use Rattle.std.proofs.Common.{◌≡◌, ℕ, zero, suc, ◌+◌, ◌<◌, ◌≤◌, true, false, ℤ, List, [], ◌∷◌, ◌++◌, length, take, drop, set, Option, None, Some, refl, sym, ◌∙◌, ap, arith, add-one, length-drop, length-set}
use Rattle.std.proofs.Common.{rules, pos, negsuc, w64}
use Rattle.std.proofs.lemmas.Int.{ints}
use mir.Val.{SFits}
use Rattle.std.proofs.Math.Seq.{take-suc-set}
use Rattle.std.proofs.lemmas.List.{take_all}
use Rattle.std.specs.Prelude.{find, IsSome}
use Rattle.std.specs.Option.{option_map}
use Rattle.tqd_base.specs.World.{Bytes}
use Rattle.money.specs.Number.{signed_of}
use Rattle.bound_tree.specs.Words.{words, numbers_of}
use Rattle.bound_tree.specs.Fields.{price_words}
use Rattle.bound_tree.specs.LineHead.{head_of, prices_of, is_beyond, IsRowOf, ReadsPrices}
use Rattle.bound_tree.proofs.Numbers.{numbers_length}
use Rattle.bound_tree.proofs.ReadLines.{row_fields}

-- the fields that are left write the prices from i on
pub record HasLeft (prices : List ℤ) (i : ℕ) (fields : List Bytes) : Type 0 where
  pub left : numbers_of signed_of fields ≡ Some (drop i prices)

pub left_at_first : (n : ℕ) (line : Bytes) (fields : List Bytes) → fields ≡ price_words (words line) → IsRowOf n (head_of line)
    → HasLeft (prices_of line) 0 fields × (length (prices_of line) ≡ n)
left_at_first n line fields e h = let row = row_fields n line h in (record { left = ap (numbers_of signed_of) e ∙ row.read }, row.count)

pub some_left : (prices : List ℤ) (i : ℕ) (fields : List Bytes) → HasLeft prices i fields → IsSome (numbers_of signed_of fields)
some_left prices i fields h = rw h.left refl

pub fields_left : (prices : List ℤ) (i : ℕ) (fields : List Bytes) → HasLeft prices i fields → i < length prices → 0 < length fields
fields_left prices i fields h below = omega (arith, numbers_length signed_of fields (drop i prices) h.left, length-drop i prices)

-- the price at i, and those after it
pub record HasNext (prices : List ℤ) (i : ℕ) (price : ℤ) : Type 0 where
  pub here : drop i prices ≡ price ∷ drop (i + 1) prices
  pub taken : take (i + 1) prices ≡ take i prices ++ price ∷ []

parts : (i : ℕ) (xs : List ℤ) (x : ℤ) (ns : List ℤ) → drop i xs ≡ x ∷ ns → (drop (suc i) xs ≡ ns) × (take (suc i) xs ≡ take i xs ++ x ∷ [])
parts zero [] x ns e = absurd (cc)
parts zero (y ∷ ys) x ns e = let same : y ≡ x = cc in let rest : ys ≡ ns = cc in (rest, ap (λ (z : ℤ). z ∷ []) same)
parts (suc i) [] x ns e = absurd (cc)
parts (suc i) (y ∷ ys) x ns e = let p = parts i ys x ns e in (p.0, ap (λ (zs : List ℤ). y ∷ zs) p.1)

step : (prices : List ℤ) (i : ℕ) (price : ℤ) (o : Option (List ℤ)) → Some (drop i prices) ≡ option_map (λ ns. price ∷ ns) o
    → HasNext prices i price × (o ≡ Some (drop (i + 1) prices))
step prices i price None e = absurd (cc)
step prices i price (Some ns) e =
    let is : drop i prices ≡ price ∷ ns = cc in
    let p = parts i prices price ns is in
    let rest : drop (i + 1) prices ≡ ns = ap (λ (k : ℕ). drop k prices) (add-one i) ∙ p.0 in
    (record { here = is ∙ ap (λ (t : List ℤ). price ∷ t) (sym rest); taken = ap (λ (k : ℕ). take k prices) (add-one i) ∙ p.1 }, ap (λ (t : List ℤ). Some t) (sym rest))

-- a price is read
pub next_left : (prices : List ℤ) (i : ℕ) (old new : List Bytes) (price : ℤ) → HasLeft prices i old
    → numbers_of signed_of old ≡ option_map (λ ns. price ∷ ns) (numbers_of signed_of new) → HasNext prices i price × HasLeft prices (i + 1) new
next_left prices i old new price h e =
    let s = step prices i price (numbers_of signed_of new) (sym h.left ∙ e) in (s.0, record { left = s.1 })

-- the prices that are read, with one more
pub row_more : (prices old new : List ℤ) (i : ℕ) (price read : ℤ) → new ≡ old ++ read ∷ [] → read ≡ price → old ≡ take i prices → HasNext prices i price → new ≡ take (i + 1) prices
row_more prices old new i price read e same so_far n =
    e ∙ (ap (λ (z : ℤ). old ++ z ∷ []) same ∙ (ap (λ (t : List ℤ). t ++ price ∷ []) so_far ∙ sym n.taken))

-- the first i prices stand in their places, and none of them is beyond the limit
pub record AreRead (prices places : List ℤ) (i : ℕ) : Type 0 where
  pub count : length prices ≡ length places
  pub done : take i places ≡ take i prices
  pub within : find is_beyond prices ≡ find is_beyond (drop i prices)

pub read_none : (prices places : List ℤ) → length prices ≡ length places → AreRead prices places 0
read_none prices places same = record { count = same; done = refl; within = refl }

pub read_more : (prices places : List ℤ) (i : ℕ) (price : ℤ) → i < length places → AreRead prices places i → HasNext prices i price → is_beyond price ≡ false
    → AreRead prices (set places i price) (i + 1)
read_more prices places i price below r n inside = record {
  count = r.count ∙ sym (length-set places i price);
  done = ap (λ (k : ℕ). take k (set places i price)) (add-one i) ∙ (take-suc-set places i price below ∙ (ap (λ (t : List ℤ). t ++ price ∷ []) r.done ∙ sym n.taken));
  within = r.within ∙ (ap (find is_beyond) n.here ∙ rw inside refl);
}

pub read_beyond : (prices places new : List ℤ) (i : ℕ) (price : ℤ) → AreRead prices places i → HasNext prices i price → is_beyond price ≡ true
    → ReadsPrices prices new (Some price)
read_beyond prices places new i price r n beyond = record {
  first = sym (r.within ∙ (ap (find is_beyond) n.here ∙ rw beyond refl));
  all = λ e. absurd (cc);
}

pub read_all : (prices places : List ℤ) (i : ℕ) → AreRead prices places i → length places ≤ i → ReadsPrices prices places None
read_all prices places i r most = record {
  first = sym (r.within ∙ ap (find is_beyond) (drop_all i prices (omega (arith, r.count))));
  all = λ e. sym (take_all i places most) ∙ (r.done ∙ take_all i prices (omega (arith, r.count)));
} where
  drop_all : (k : ℕ) (xs : List ℤ) → length xs ≤ k → drop k xs ≡ []
  drop_all zero [] h = refl
  drop_all zero (x ∷ xs) h = absurd (omega arith)
  drop_all (suc k) [] h = refl
  drop_all (suc k) (x ∷ xs) h = drop_all k xs (omega arith)

-- a price within the limit fits 64 bits
pub limit_fits : (price : ℤ) → is_beyond price ≡ false → SFits w64 price
limit_fits (pos n) e = search (rules, arith, ints)
limit_fits (negsuc n) e = search (rules, arith, ints)
