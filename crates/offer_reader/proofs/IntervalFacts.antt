-- Lists of different numbers.
use Rattle.std.proofs.Common.{ℕ, suc, ◌≡◌, ◌≢◌, ◌≤◌, Bool, true, false, not, eqb, ◌||◌, List, [], ◌∷◌, length, filter, fold, get_or, refl, sym, ap, ◌∙◌, arith}
use Rattle.std.proofs.lemmas.Bool.{eq-eqb, eqb-true, false≢true, ne_eqb}
use Rattle.std.proofs.lemmas.List.Folds.{Any-from_list_any, list_any-append, list_any_at}
use Rattle.std.proofs.lemmas.List.Quantifiers.{all_pairs_push}
use Rattle.std.specs.List.{list_any, AllPairs}
use Rattle.offer_reader.specs.Offers.{with_number}

abbrev pub has_number : List ℕ → ℕ → Bool
has_number numbers n = list_any (λ m. eqb m n) numbers

or-nothing : (b : Bool) → (b || false) ≡ b
or-nothing true = refl
or-nothing false = refl

or-assoc : (a b c : Bool) → ((a || b) || c) ≡ (a || (b || c))
or-assoc true b c = refl
or-assoc false b c = refl

-- the numbers with one more
one-more : (numbers : List ℕ) (n q : ℕ) → has_number (with_number numbers n) q ≡ (has_number numbers q || eqb n q)
one-more numbers n q = go (has_number numbers n) refl where
  same : (b : Bool) → has_number numbers n ≡ true → eqb n q ≡ b → has_number numbers q ≡ (has_number numbers q || b)
  same true there is = let equal : q ≡ n = sym (eqb-true n q is) in rw (equal, there) refl
  same false there is = sym (or-nothing (has_number numbers q))

  go : (b : Bool) → has_number numbers n ≡ b → has_number (with_number numbers n) q ≡ (has_number numbers q || eqb n q)
  go true is = rw is (same (eqb n q) is refl)
  go false is = rw is (list_any-append (λ m. eqb m q) numbers (n ∷ []) ∙ ap (λ b. has_number numbers q || b) (or-nothing (eqb n q)))

pub all-numbers : (numbers more : List ℕ) (q : ℕ) → has_number (fold with_number numbers more) q ≡ (has_number numbers q || has_number more q)
all-numbers numbers [] q = sym (or-nothing (has_number numbers q))
all-numbers numbers (n ∷ more) q = all-numbers (with_number numbers n) more q ∙ (ap (λ b. b || has_number more q) (one-more numbers n q) ∙ or-assoc (has_number numbers q) (eqb n q) (has_number more q))

distinct-more : (numbers : List ℕ) (n : ℕ) → AllPairs (λ a b. a ≢ b) numbers → AllPairs (λ a b. a ≢ b) (with_number numbers n)
distinct-more numbers n distinct = go (has_number numbers n) refl where
  go : (b : Bool) → has_number numbers n ≡ b → AllPairs (λ a b. a ≢ b) (with_number numbers n)
  go true is = rw is distinct
  go false is = rw is (all_pairs_push (λ a b. a ≢ b) numbers n distinct (λ k d inside same. false≢true (sym is ∙ list_any_at (λ m. eqb m n) numbers k d inside (eq-eqb (get_or numbers k d) n same))))

pub distinct-numbers : (numbers more : List ℕ) → AllPairs (λ a b. a ≢ b) numbers → AllPairs (λ a b. a ≢ b) (fold with_number numbers more)
distinct-numbers numbers [] distinct = distinct
distinct-numbers numbers (n ∷ more) distinct = distinct-numbers (with_number numbers n) more (distinct-more numbers n distinct)

-- the numbers other than one
without : ℕ → List ℕ → List ℕ
without n numbers = filter (λ m. not (eqb m n)) numbers

no-more : (n : ℕ) (numbers : List ℕ) → length (without n numbers) ≤ length numbers
unfolding without
no-more n [] = omega arith
no-more n (m ∷ numbers) = go (eqb m n) refl (no-more n numbers) where
  go : (b : Bool) → eqb m n ≡ b → length (without n numbers) ≤ length numbers → length (without n (m ∷ numbers)) ≤ suc (length numbers)
  go true is rest = rw is (omega (arith, rest))
  go false is rest = rw is (omega (arith, rest))

fewer : (n : ℕ) (numbers : List ℕ) → has_number numbers n ≡ true → suc (length (without n numbers)) ≤ length numbers
unfolding without
fewer n [] there = absurd (false≢true there)
fewer n (m ∷ numbers) there = go (eqb m n) refl (fewer n numbers) where
  go : (b : Bool) → eqb m n ≡ b → (has_number numbers n ≡ true → suc (length (without n numbers)) ≤ length numbers) → suc (length (without n (m ∷ numbers))) ≤ suc (length numbers)
  go true is rest = rw is (omega (arith, no-more n numbers))
  go false is rest = let later : has_number numbers n ≡ true = rw is at there in rw is (omega (arith, rest later))

still-there : (n q : ℕ) (numbers : List ℕ) → eqb n q ≡ false → has_number numbers q ≡ true → has_number (without n numbers) q ≡ true
unfolding without
still-there n q [] other there = there
still-there n q (m ∷ numbers) other there = go (eqb m n) refl (still-there n q numbers other) where
  go : (b : Bool) → eqb m n ≡ b → (has_number numbers q ≡ true → has_number (without n numbers) q ≡ true) → has_number (without n (m ∷ numbers)) q ≡ true
  go true is rest =
      let equal : m ≡ n = eqb-true m n is in
      let later : has_number numbers q ≡ true = rw (equal, other) at there in
      rw is (rest later)
  go false is rest = rw is (here (eqb m q) refl) where
    here : (b : Bool) → eqb m q ≡ b → (eqb m q || has_number (without n numbers) q) ≡ true
    here true same = rw same refl
    here false apart = let later : has_number numbers q ≡ true = rw apart at there in rw apart (rest later)

-- different numbers among others are no more
pub no-more-among : (froms numbers : List ℕ) → AllPairs (λ a b. a ≢ b) froms → ((q : ℕ) → has_number froms q ≡ true → has_number numbers q ≡ true) → length froms ≤ length numbers
no-more-among [] numbers distinct among = omega arith
no-more-among (n ∷ froms) numbers distinct among =
    let others : AllPairs (λ a b. a ≢ b) froms = λ i j d ordered inside. distinct (suc i) (suc j) d (omega arith) (omega arith) in
    let apart : (q : ℕ) → has_number froms q ≡ true → eqb n q ≡ false = λ q there.
    ne_eqb n q (λ same. differs q there same) in
    let left = no-more-among froms (without n numbers) others (λ q there. still-there n q numbers (apart q there) (among q (rw (apart q there) there))) in
    let first : has_number numbers n ≡ true = among n (rw (eq-eqb n n refl) refl) in
    omega (arith, left, fewer n numbers first) where
      differs : (q : ℕ) → has_number froms q ≡ true → n ≢ q
      differs q there same =
          let any = Any-from_list_any (λ m. eqb m q) froms there in
          let is : any.1 ≡ q = eqb-true any.1 q any.4 in
          distinct 0 (suc any.0) any.1 (omega arith) (omega (arith, any.2)) (same ∙ (sym is ∙ sym any.3))
