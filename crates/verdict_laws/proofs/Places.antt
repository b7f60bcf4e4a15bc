-- The lines of what is bought, by the places of suppliers and goods in their order.
use Rattle.std.proofs.Common.{ℕ, zero, suc, suc-mul, ◌≡◌, ◌≢◌, ◌+◌, ◌*◌, ◌/◌, ◌%◌, ◌<◌, ◌≤◌, ◌==◌, ◌&&◌, Bool, length-append, List, [], ◌∷◌, ◌++◌, length, refl, ap, sym, ◌∙◌, arith, append_assoc, append-nil, eq-eqb, true, false, inl, inr}
use Rattle.std.proofs.lemmas.Bool.{cases_lt, ne_eqb, eqb-true}
use Rattle.std.proofs.lemmas.Nat.{div-mul-add, mod-mul-add}
use Rattle.std.proofs.Math.Nat.{div-add-mod, div-lt_iff_lt-mul, mod-lt, mul_comm}
use Rattle.tqd_instance.specs.declared.job.Job.{Job}
use Rattle.tqd_instance.specs.Job.{goods, suppliers}
use Rattle.tqd_instance.specs.Purchase.{Purchase}
use Rattle.bound_tree.specs.declared.line.TreeLine.{TreeLine}
use Rattle.bound_tree.specs.declared.line.TreeLine.TheVariants.{Buy}
use Rattle.bound_tree.specs.TreeText.{lines_to, units_line, buy_line, buy_lines}
use Rattle.bound_tree.proofs.TreeLines.{lines_to-zero, lines_to-suc}
use Rattle.bound_tree.proofs.WritingLines.{buys_of}

pub to_same : (n : ℕ) (f g : ℕ → List TreeLine) → ((k : ℕ) → k < n → f k ≡ g k) → lines_to n f ≡ lines_to n g
to_same zero f g same = lines_to-zero f ∙ sym (lines_to-zero g)
to_same (suc n) f g same =
    lines_to-suc n f ∙ (ap (λ (ls : List TreeLine). ls ++ f n) (to_same n f g (λ k below. same k (omega arith)))
    ∙ (ap (λ (ls : List TreeLine). lines_to n g ++ ls) (same n (omega arith)) ∙ sym (lines_to-suc n g)))

-- some of them, and then more
pub to_sum : (m n : ℕ) (f : ℕ → List TreeLine) → lines_to (m + n) f ≡ lines_to m f ++ lines_to n (λ k. f (m + k))
to_sum m zero f =
    let none : m + 0 ≡ m = omega arith in
    ap (λ (k : ℕ). lines_to k f) none ∙ (sym (append-nil (lines_to m f)) ∙ ap (λ (ls : List TreeLine). lines_to m f ++ ls) (sym (lines_to-zero (λ k. f (m + k)))))
to_sum m (suc n) f =
    let next : m + suc n ≡ suc (m + n) = omega arith in
    ap (λ (k : ℕ). lines_to k f) next ∙ (lines_to-suc (m + n) f ∙ (ap (λ (ls : List TreeLine). ls ++ f (m + n)) (to_sum m n f)
    ∙ (append_assoc (lines_to m f) (lines_to n (λ k. f (m + k))) (f (m + n)) ∙ ap (λ (ls : List TreeLine). lines_to m f ++ ls) (sym (lines_to-suc n (λ k. f (m + k)))))))

-- none where each place has none
pub to_none : (n : ℕ) (f : ℕ → List TreeLine) → ((k : ℕ) → k < n → f k ≡ []) → lines_to n f ≡ []
to_none zero f none = lines_to-zero f
to_none (suc n) f none =
    lines_to-suc n f ∙ (ap (λ (ls : List TreeLine). ls ++ f n) (to_none n f (λ k below. none k (omega arith))) ∙ none n (omega arith))

-- places that have none add none
pub to_far : (m n : ℕ) (f : ℕ → List TreeLine) → m ≤ n → ((k : ℕ) → m ≤ k → k < n → f k ≡ []) → lines_to n f ≡ lines_to m f
to_far m zero f le none = let same : zero ≡ m = omega arith in ap (λ (k : ℕ). lines_to k f) same
to_far m (suc n) f le none = elim (cases_lt n m) [
  | inl at_end ↦ (let same : suc n ≡ m = omega arith in ap (λ (k : ℕ). lines_to k f) same)
  | inr before ↦ lines_to-suc n f ∙ (ap (λ (ls : List TreeLine). lines_to n f ++ ls) (none n before (omega arith)) ∙ (append-nil (lines_to n f) ∙ to_far m n f before (λ k from below. none k from (omega arith))))
]

-- a table, row by row, is one list
pub in_a_row : (g m : ℕ) (f : ℕ → ℕ → List TreeLine) → lines_to m (λ i. lines_to g (f i)) ≡ lines_to (m * g) (λ q. f (q / g) (q % g))
in_a_row g zero f = let none : 0 * g ≡ 0 = omega arith in lines_to-zero (λ i. lines_to g (f i)) ∙ (sym (lines_to-zero (λ q. f (q / g) (q % g))) ∙ ap (λ (k : ℕ). lines_to k (λ q. f (q / g) (q % g))) (sym none))
in_a_row g (suc m) f =
    let more : suc m * g ≡ m * g + g = suc-mul m g in
    lines_to-suc m (λ i. lines_to g (f i)) ∙ (ap (λ (ls : List TreeLine). ls ++ lines_to g (f m)) (in_a_row g m f)
    ∙ (ap (λ (ls : List TreeLine). lines_to (m * g) (λ q. f (q / g) (q % g)) ++ ls) (to_same g (f m) (λ k. f ((m * g + k) / g) ((m * g + k) % g)) (λ k below. row m k below))
    ∙ (sym (to_sum (m * g) g (λ q. f (q / g) (q % g))) ∙ ap (λ (k : ℕ). lines_to k (λ q. f (q / g) (q % g))) (sym more))))
  where
    row : (i k : ℕ) → k < g → f i k ≡ f ((i * g + k) / g) ((i * g + k) % g)
    row i k below = ap (λ (a : ℕ). f a k) (sym (div-mul-add i g k below)) ∙ ap (λ (b : ℕ). f ((i * g + k) / g) b) (sym (mod-mul-add i g k below))

-- the line of a place
abbrev pub line_at : Job → Purchase → ℕ → List TreeLine
line_at job x q = buy_line x (q / goods job) (q % goods job)

pub buys_in_a_row : (job : Job) (x : Purchase) → buy_lines job x ≡ lines_to (suppliers job * goods job) (line_at job x)
buys_in_a_row job x = buys_of job x ∙ in_a_row (goods job) (suppliers job) (buy_line x)

pub no_units : (i k n : ℕ) → n ≡ 0 → units_line i k n ≡ []
unfolding units_line
no_units i k n none = let is : (n == 0) ≡ true = eq-eqb n 0 none in rw is refl

pub some_units : (i k n : ℕ) → 1 ≤ n → units_line i k n ≡ Buy i k n ∷ []
unfolding units_line
some_units i k n some = let is : (n == 0) ≡ false = ne_eqb n 0 (λ e. omega arith) in rw is refl

-- a place of the job has its supplier and its good
pub record HasPlace (s g p : ℕ) : Type 0 where
  pub supplier : p / g < s
  pub good : p % g < g
  pub place : p / g * g + p % g ≡ p

pub has_place : (s g p : ℕ) → p < s * g → HasPlace s g p
has_place s zero p below = let none : s * 0 ≡ 0 = omega arith in absurd (omega arith)
has_place s (suc g) p below =
    let some : zero < suc g = omega arith in
    record {
      supplier = (div-lt_iff_lt-mul {k = suc g} {x = p} {y = s} some).1 below;
      good = mod-lt p some;
      place = omega (arith, div-add-mod p (suc g), mul_comm (suc g) (p / suc g));
    }

-- a place is told by its supplier and its good
pub other_place : (g p q : ℕ) → q ≢ p → ((q / g == p / g) && (q % g == p % g)) ≡ false
other_place g p q other = go (q / g == p / g) (q % g == p % g) refl refl where
  go : (a b : Bool) → (q / g == p / g) ≡ a → (q % g == p % g) ≡ b → ((q / g == p / g) && (q % g == p % g)) ≡ false
  go true true first second =
      let i = eqb-true (q / g) (p / g) first in
      let k = eqb-true (q % g) (p % g) second in
      absurd (other (sym (div-add-mod q g) ∙ (ap (λ (a : ℕ). g * a + q % g) i ∙ (ap (λ (b : ℕ). g * (p / g) + b) k ∙ div-add-mod p g))))
  go true false first second = rw (first, second) refl
  go false b first second = rw first refl

pub few_lines : (job : Job) (x : Purchase) (p : ℕ) → length (lines_to p (line_at job x)) ≤ p
few_lines job x zero = let none = ap length (lines_to-zero (line_at job x)) in omega arith
few_lines job x (suc p) =
    let joined = ap length (lines_to-suc p (line_at job x)) ∙ length-append (lines_to p (line_at job x)) (line_at job x p) in
    omega (arith, joined, few_lines job x p, one (p / goods job) (p % goods job) (x (p / goods job) (p % goods job)))
  where
    one : (i k n : ℕ) → length (units_line i k n) ≤ 1
    one i k n = elim (cases_lt n 1) [
      | inl none ↦ (let e = ap length (no_units i k n (omega arith)) in omega (arith, e))
      | inr some ↦ (let e = ap length (some_units i k n some) in omega (arith, e))
    ]
