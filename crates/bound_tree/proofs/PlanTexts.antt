-- Purchases are told apart by their lines.
use Rattle.std.proofs.Common.{◌≡◌, ◌≢◌, ℕ, zero, suc, suc-mul, ◌+◌, ◌*◌, ◌^◌, ◌<◌, ◌≤◌, Bool, true, false, ◌&&◌, ℤ, pos, List, [], ◌∷◌, ◌++◌, length, Option, None, Some, refl, sym, ◌∙◌, ap, subst, arith, eqb, eq-eqb, inl, inr, length-append}
use Rattle.std.proofs.lemmas.Bool.{ne_eqb, cases_lt}
use Rattle.std.proofs.lemmas.Bool.Decides.{nat_tests}
use Rattle.std.proofs.lemmas.List.Elements.{All-nil, All-cons, All-append}
use Rattle.std.specs.List.{All}
use Rattle.std.specs.Prelude.{if◌then◌else◌, unwrap_or, unsigned_abs}
use Rattle.std.proofs.Math.Nat.{mul-le-mul, mul-le-mul_right}
use Rattle.tqd_base.specs.Sum.{sum_to}
use Rattle.tqd_base.specs.declared.limits.TheConstants.{QTY_MAX, PRICE_MAX, GOODS_MAX, SUPPLIERS_MAX}
use Rattle.tqd_instance.specs.declared.job.Job.{Job}
use Rattle.tqd_instance.specs.Job.{goods, suppliers, segments, price, fee, pick}
use Rattle.tqd_instance.specs.Purchase.{Purchase, total}
use Rattle.tqd_instance.specs.Cost.{cost, goods_cost, fee_cost, selected}
use Rattle.tqd_instance.proofs.Jobs.{job_in_range}
use Rattle.tqd_instance.proofs.Picks.{picks_where_it_lies}
use Rattle.tqd_instance.proofs.SumLemmas.{sum_to-bound, sum_to-suc, sum_to-zeros}
use Rattle.bound_tree.specs.declared.line.TreeLine.{TreeLine}
use Rattle.bound_tree.specs.declared.line.TreeLine.TheVariants.{Header, Header2, NoPlan, Plan, Buy, Split, Row, Bound, Empty, Winners}
use Rattle.bound_tree.specs.LineText.{HasNumbersBelow}
use Rattle.bound_tree.specs.TreeText.{lines_to, units_line, buy_line, buy_lines}
use Rattle.bound_tree.specs.TextLaws.{HasQuantities}
use Rattle.bound_tree.proofs.TreeLines.{lines_to-zero, lines_to-suc}
use Rattle.bound_tree.proofs.WritingLines.{buys_of}

-- the units of good k from supplier i that lines say
abbrev units_of : ℕ → ℕ → TreeLine → ℕ
units_of i k (Buy a b n) = if eqb a i && eqb b k then n else 0
units_of i k Header = 0
units_of i k Header2 = 0
units_of i k NoPlan = 0
units_of i k (Plan cost count) = 0
units_of i k (Split a b) = 0
units_of i k (Row slot prices) = 0
units_of i k (Bound prices) = 0
units_of i k (Empty prices) = 0
units_of i k Winners = 0

abbrev units_in : ℕ → ℕ → List TreeLine → ℕ
units_in i k [] = 0
units_in i k (line ∷ lines) = units_of i k line + units_in i k lines

units_append : (i k : ℕ) (xs ys : List TreeLine) → units_in i k (xs ++ ys) ≡ units_in i k xs + units_in i k ys
units_append i k [] ys = omega arith
units_append i k (x ∷ xs) ys = omega (arith, units_append i k xs ys)

units_to : (i k n : ℕ) (f : ℕ → List TreeLine) → units_in i k (lines_to n f) ≡ sum_to n (λ j. units_in i k (f j))
units_to i k zero f = ap (units_in i k) (lines_to-zero f)
units_to i k (suc n) f = ap (units_in i k) (lines_to-suc n f) ∙ (units_append i k (lines_to n f) (f n) ∙ ap (λ (s : ℕ). s + units_in i k (f n)) (units_to i k n f))

-- a sum of which one part alone is not 0
single : (n j : ℕ) (f : ℕ → ℕ) → j < n → ((m : ℕ) → m < n → m ≢ j → f m ≡ 0) → sum_to n f ≡ f j
single zero j f below zeros = absurd (omega arith)
single (suc n) j f below zeros = elim (cases_lt j n) [
  | inl before ↦ let differ : n ≢ j = λ e. omega arith in
      let rest = single n j f before (λ m h d. zeros m (omega arith) d) in
      omega (arith, sum_to-suc n f, rest, zeros n (omega arith) differ)
  | inr last ↦ let same : n ≡ j = omega arith in
      let none = sum_to-zeros n f (λ m h. zeros m (omega arith) (λ e. omega arith)) in
      ap (λ (m : ℕ). sum_to (suc m) f) refl ∙ (omega (arith, sum_to-suc n f, none, ap f same))
]

here : (i k n : ℕ) → units_in i k (units_line i k n) ≡ n
unfolding units_line
here i k n = go (eqb n 0) refl where
  go : (b : Bool) → eqb n 0 ≡ b → units_in i k (if eqb n 0 then [] else Buy i k n ∷ []) ≡ n
  go true is = rw is (let zero_is : n ≡ 0 = grind (arith, nat_tests) in sym zero_is)
  go false is = rw (is, eq-eqb i i refl, eq-eqb k k refl) (omega arith)

apart : (b : Bool) (i k a c n : ℕ) → eqb n 0 ≡ b → (eqb a i && eqb c k) ≡ false → units_in i k (if b then [] else Buy a c n ∷ []) ≡ 0
apart true i k a c n is other = refl
apart false i k a c n is other = rw other refl

elsewhere : (i k a c n : ℕ) → (eqb a i && eqb c k) ≡ false → units_in i k (units_line a c n) ≡ 0
unfolding units_line
elsewhere i k a c n other = apart (eqb n 0) i k a c n refl other

other_supplier : (i k a c : ℕ) → a ≢ i → (eqb a i && eqb c k) ≡ false
other_supplier i k a c differ = rw (ne_eqb a i differ) refl

other_good : (i k c : ℕ) → c ≢ k → (eqb i i && eqb c k) ≡ false
other_good i k c differ = rw (eq-eqb i i refl, ne_eqb c k differ) refl

-- what is bought can be read off its lines
pub units_back : (job : Job) (x : Purchase) (i k : ℕ) → i < suppliers job → k < goods job → units_in i k (buy_lines job x) ≡ x i k
units_back job x i k supplier good =
    ap (units_in i k) (buys_of job x)
    ∙ (units_to i k (suppliers job) (λ a. lines_to (goods job) (buy_line x a))
    ∙ (single (suppliers job) i (λ a. units_in i k (lines_to (goods job) (buy_line x a))) supplier
    (λ a below differ. units_to i k (goods job) (buy_line x a) ∙ sum_to-zeros (goods job) (λ c. units_in i k (buy_line x a c)) (λ c h. elsewhere i k a c (x a c) (other_supplier i k a c differ)))
    ∙ (units_to i k (goods job) (buy_line x i)
    ∙ (single (goods job) k (λ c. units_in i k (buy_line x i c)) good (λ c below differ. elsewhere i k i c (x i c) (other_good i k c differ))
    ∙ here i k (x i k)))))

pub same_units : (job : Job) (x y : Purchase) → buy_lines job x ≡ buy_lines job y → (i k : ℕ) → i < suppliers job → k < goods job → x i k ≡ y i k
same_units job x y e i k supplier good = sym (units_back job x i k supplier good) ∙ (ap (units_in i k) e ∙ units_back job y i k supplier good)

-- the numbers of a plan's lines
all_to : (P : TreeLine → Type 0) (n : ℕ) (f : ℕ → List TreeLine) → ((k : ℕ) → k < n → All P (f k)) → All P (lines_to n f)
all_to P zero f each = subst (All P) (sym (lines_to-zero f)) (All-nil P)
all_to P (suc n) f each = subst (All P) (sym (lines_to-suc n f)) (All-append P (lines_to n f) (f n) (all_to P n f (λ k h. each k (omega arith))) (each n (omega arith)))

few_to : (m n : ℕ) (f : ℕ → List TreeLine) → ((k : ℕ) → k < n → length (f k) ≤ m) → length (lines_to n f) ≤ n * m
few_to m zero f each = let none = ap length (lines_to-zero f) in omega arith
few_to m (suc n) f each =
    let joined = ap length (lines_to-suc n f) ∙ length-append (lines_to n f) (f n) in
    let more : suc n * m ≡ n * m + m = suc-mul n m in
    omega (arith, joined, few_to m n f (λ k h. each k (omega arith)), each n (omega arith))

one_line : (i k n : ℕ) → length (units_line i k n) ≤ 1
unfolding units_line
one_line i k n = go (eqb n 0) where
  go : (b : Bool) → length (if b then [] else Buy i k n ∷ []) ≤ 1
  go true = omega arith
  go false = omega arith

abbrev Small : TreeLine → Type 0
Small = HasNumbersBelow (10 ^ 64)

abbrev SmallNumber : ℤ → Type 0
SmallNumber z = unsigned_abs z < 10 ^ 64

pub two_small : (a b : ℕ) → a < 10 ^ 64 → b < 10 ^ 64 → All SmallNumber (pos a ∷ pos b ∷ [])
two_small a b h j = All-cons SmallNumber (pos a) (pos b ∷ []) h (All-cons SmallNumber (pos b) [] j (All-nil SmallNumber))

three_small : (a b c : ℕ) → a < 10 ^ 64 → b < 10 ^ 64 → c < 10 ^ 64 → All SmallNumber (pos a ∷ pos b ∷ pos c ∷ [])
three_small a b c h j l = All-cons SmallNumber (pos a) (pos b ∷ pos c ∷ []) h (two_small b c j l)

small_line : (i k n : ℕ) → i < 10 ^ 64 → k < 10 ^ 64 → n < 10 ^ 64 → All Small (units_line i k n)
unfolding units_line
small_line i k n h j l = go (eqb n 0) where
  go : (b : Bool) → All Small (if b then [] else Buy i k n ∷ [])
  go true = All-nil Small
  go false = All-cons Small (Buy i k n) [] (three_small i k n h j l) (All-nil Small)

pub small_buys : (job : Job) (x : Purchase) → HasQuantities job (Some x) → All Small (buy_lines job x)
small_buys job x within =
    let range = job_in_range job in
    subst (All Small) (sym (buys_of job x))
    (all_to Small (suppliers job) (λ i. lines_to (goods job) (buy_line x i)) (λ i supplier.
    all_to Small (goods job) (buy_line x i) (λ k good. small_line i k (x i k) (omega (arith, range.few_suppliers)) (omega (arith, range.few_goods)) (omega (arith, within i k supplier good)))))

pub few_buys : (job : Job) (x : Purchase) → length (buy_lines job x) < 10 ^ 64
few_buys job x =
    let range = job_in_range job in
    let each = few_to (goods job * 1) (suppliers job) (λ i. lines_to (goods job) (buy_line x i)) (λ i h. few_to 1 (goods job) (buy_line x i) (λ k l. one_line i k (x i k))) in
    let count = ap length (buys_of job x) in
    let most : suppliers job * (goods job * 1) ≤ SUPPLIERS_MAX * (GOODS_MAX * 1) = mul-le-mul {n₁ = suppliers job} {m₁ = goods job * 1} {n₂ = SUPPLIERS_MAX} {m₂ = GOODS_MAX * 1} range.few_suppliers (omega (arith, range.few_goods)) in
    omega (arith, count, each, most)

price_small : (job : Job) (i j k : ℕ) → i < suppliers job → j ≤ segments job i → price job i j k ≤ PRICE_MAX
price_small job i zero k supplier within = omega (arith, ((job_in_range job).each_supplier i supplier).nothing_price k)
price_small job i (suc j) k supplier within = (((job_in_range job).each_supplier i supplier).each_segment (suc j) (omega arith) within).prices k

selected_small : (job : Job) (i k units : ℕ) (o : Option ℕ) → pick job i units ≡ o → i < suppliers job → price job i (unwrap_or o 0) k ≤ PRICE_MAX
selected_small job i k units None is supplier = price_small job i 0 k supplier (omega arith)
selected_small job i k units (Some j) is supplier = price_small job i j k supplier (((picks_where_it_lies job i units supplier).some j).0 is).segment

goods_small : (job : Job) (x : Purchase) (i : ℕ) → HasQuantities job (Some x) → i < suppliers job → goods_cost job x i ≤ goods job * (QTY_MAX * PRICE_MAX)
unfolding goods_cost selected
goods_small job x i within supplier =
    sum_to-bound (goods job) (QTY_MAX * PRICE_MAX) (λ k. x i k * price job i (unwrap_or (pick job i (total job x i)) 0) k)
    (λ k good. mul-le-mul (within i k supplier good) (selected_small job i k (total job x i) (pick job i (total job x i)) refl supplier))

fee_small : (job : Job) (x : Purchase) (i : ℕ) → i < suppliers job → fee_cost job x i ≤ PRICE_MAX
unfolding fee_cost
fee_small job x i supplier = go (eqb (total job x i) 0) where
  go : (b : Bool) → (if b then 0 else fee job i) ≤ PRICE_MAX
  go true = omega arith
  go false = ((job_in_range job).each_supplier i supplier).fee_within

pub cost_small : (job : Job) (x : Purchase) → HasQuantities job (Some x) → cost job x < 10 ^ 64
unfolding cost
cost_small job x within =
    let range = job_in_range job in
    let most : goods job * (QTY_MAX * PRICE_MAX) ≤ GOODS_MAX * (QTY_MAX * PRICE_MAX) = mul-le-mul_right (QTY_MAX * PRICE_MAX) range.few_goods in
    let each = sum_to-bound (suppliers job) (GOODS_MAX * (QTY_MAX * PRICE_MAX) + PRICE_MAX) (λ i. goods_cost job x i + fee_cost job x i)
    (λ i supplier. omega (arith, goods_small job x i within supplier, fee_small job x i supplier)) in
    let all : suppliers job * (GOODS_MAX * (QTY_MAX * PRICE_MAX) + PRICE_MAX) ≤ SUPPLIERS_MAX * (GOODS_MAX * (QTY_MAX * PRICE_MAX) + PRICE_MAX) = mul-le-mul_right (GOODS_MAX * (QTY_MAX * PRICE_MAX) + PRICE_MAX) range.few_suppliers in
    omega (arith, each, all)
