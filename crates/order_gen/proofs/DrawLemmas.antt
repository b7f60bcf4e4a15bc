-- Laws of the generator's states and draws.
use Rattle.std.proofs.Common.{ℕ, suc, zero, ◌≡◌, ◌+◌, ◌*◌, ◌/◌, ◌%◌, refl, ap, ◌∙◌, sym, add-mul, add-zero, arith}
use Rattle.order_gen.specs.declared.offers.Discounts.{Discounts}
use Rattle.order_gen.specs.Draws.{state_after, draw}
use Rattle.order_gen.specs.GenParts.{drawn_need, discounts_from, base_price, draws_before}

pub state_after-zero : (s : ℕ) → state_after s 0 ≡ s
unfolding state_after
state_after-zero s = refl

state_after-next : (s t n : ℕ) → state_after s n ≡ t → state_after s (suc n) ≡ state_after t 1
unfolding state_after
state_after-next s t n e = ap (λ m. (m * 1103515245 + 12345) % 2147483648) e

-- so many draws, and so many more
pub state_after-add : (s a b : ℕ) → state_after (state_after s a) b ≡ state_after s (a + b)
state_after-add s a zero = state_after-zero (state_after s a) ∙ ap (state_after s) (sym (add-zero a))
state_after-add s a (suc b) =
    let more : suc (a + b) ≡ a + suc b = omega arith in
    state_after-next (state_after s a) (state_after s (a + b)) b (state_after-add s a b)
    ∙ sym (state_after-next s (state_after s (a + b)) (a + b) refl)
    ∙ ap (state_after s) more

pub draw-add : (s a n m : ℕ) → draw (state_after s a) n m ≡ draw s (a + n) m
unfolding draw
draw-add s a n m =
    let more : a + suc n ≡ suc (a + n) = omega arith in
    ap (λ t. t / 65536 % m) (state_after-add s a (suc n) ∙ ap (state_after s) more)

-- the next draw after so many
pub draw-next : (s t n m : ℕ) → t ≡ state_after s n → draw t 0 m ≡ draw s n m
draw-next s t n m e =
    let none : n + 0 ≡ n = omega arith in
    ap (λ u. draw u 0 m) e ∙ draw-add s n 0 m ∙ ap (λ k. draw s k m) none

pub state-next : (s t n m : ℕ) → t ≡ state_after s n → m ≡ n + 1 → state_after t 1 ≡ state_after s m
state-next s t n m e more = ap (λ u. state_after u 1) e ∙ state_after-add s n 1 ∙ ap (state_after s) (sym more)

pub need-is : (s n drawn : ℕ) → drawn ≡ draw s n 1000 → 1 + drawn ≡ drawn_need s n
unfolding drawn_need
need-is s n drawn e = ap (λ d. 1 + d) e

pub base-is : (s k drawn : ℕ) → drawn ≡ draw s (2 + k) 10000 → 10000 + drawn ≡ base_price s k
unfolding base_price
base-is s k drawn e = ap (λ d. 10000 + d) e

pub discounts-are : (s a b : ℕ) → a ≡ draw s 0 5 → b ≡ draw s 1 5 → ◌≡◌ {A = Discounts} (record { second = 1 + a; third = 1 + a + 1 + b }) (discounts_from s)
unfolding discounts_from
discounts-are s a b first second = rw (first, second) refl

-- the draws before the next supplier
before-next : (g i m : ℕ) → m ≡ 2 + g → g + i * m + m ≡ g + (i + 1) * m
before-next g i m e = omega (arith, add-mul i 1 m)

pub state-before-next : (s t g i : ℕ) → t ≡ state_after s (draws_before g i) → state_after t (2 + g) ≡ state_after s (draws_before g (i + 1))
state-before-next s t g i e =
    ap (λ u. state_after u (2 + g)) e ∙ state_after-add s (draws_before g i) (2 + g) ∙ ap (state_after s) (before-next g i (2 + g) refl)

pub state-before-first : (s t g : ℕ) → t ≡ state_after s g → t ≡ state_after s (draws_before g 0)
state-before-first s t g e = e ∙ ap (state_after s) (none g (2 + g))
  where
    none : (g m : ℕ) → g ≡ g + 0 * m
    none g m = omega arith
