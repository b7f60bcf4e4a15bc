-- The standing of a purchase is one, and it rests on the units of the job's size alone.
use Rattle.std.proofs.Common.{ℕ, ◌≡◌, ◌<◌, ◌≤◌, ◌+◌, ◌*◌, ◌==◌, ◌||◌, ◌⊎◌, not, true, false, Option, Some, None, IsSome, if◌then◌else◌, ltb, refl, ap, sym, ◌∙◌, subst, arith}
use Rattle.std.specs.Prelude.{is_some}
use Rattle.std.proofs.lemmas.Bool.{lt-ltb, le-ltb}
use Rattle.std.proofs.lemmas.Bool.Decides.{nat_tests}
use Rattle.tqd_instance.specs.declared.job.Job.{Job}
use Rattle.tqd_instance.specs.declared.standing.Standing.{Standing}
use Rattle.tqd_instance.specs.declared.standing.Standing.TheVariants.{Feasible as IsFeasible, Need, Stock, Gap, Winners}
use Rattle.tqd_instance.specs.Job.{goods, suppliers, need, most, stock, price, pick, least_winners, most_winners}
use Rattle.tqd_instance.specs.Purchase.{Purchase, total, bought, wins, winners}
use Rattle.tqd_instance.specs.Feasible.{Feasible, MeetsStock, MeetsNeeds, MeetsStocks, HasPicks}
use Rattle.tqd_instance.specs.Cost.{cost, selected, goods_cost, fee_cost}
use Rattle.tqd_instance.specs.Standing.{FailsNeed, FailsStock, FailsPick, FailsWinners, Stands}
use Rattle.tqd_instance.proofs.SumLemmas.{sum_to-same}
use Rattle.tree_checker.specs.Standing.{first_to, fails_need, fails_stock, over_stock, fails_pick, by_winners, by_pick, by_stock, by_need, standing_of}
use Rattle.tree_checker.proofs.FirstTo.{first_to-none, first_to-some, first_to-same, first_to-below}

outside : (a least most : ℕ) → (a < least) ⊎ (most < a) → (ltb a least || ltb most a) ≡ true
outside a least most h = grind (arith, nat_tests)

inside : (a least most : ℕ) → least ≤ a → a ≤ most → (ltb a least || ltb most a) ≡ false
inside a least most low high = grind (arith, nat_tests)

picked : (o : Option ℕ) → IsSome o → not (is_some o) ≡ false
picked None h = absurd (cc)
picked (Some j) h = refl

needs_none : (job : Job) (x : Purchase) → MeetsNeeds job x → first_to (goods job) (fails_need job x) ≡ None
needs_none job x meets = first_to-none (goods job) (fails_need job x) (λ k below. inside (bought job x k) (need job k) (most job k) (meets k below).enough (meets k below).not_more)

stock_none : (job : Job) (x : Purchase) (i : ℕ) → ((k : ℕ) → k < goods job → MeetsStock job x i k) → is_some (over_stock job x i) ≡ false
stock_none job x i meets = ap is_some (first_to-none (goods job) (fails_stock job x i) (λ k below. le-ltb (stock job i k) (x i k) (meets k below)))

stocks_none : (job : Job) (x : Purchase) → MeetsStocks job x → first_to (suppliers job) (λ i. is_some (over_stock job x i)) ≡ None
stocks_none job x meets = first_to-none (suppliers job) (λ i. is_some (over_stock job x i)) (λ i below. stock_none job x i (λ k less. meets i k below less))

picks_none : (job : Job) (x : Purchase) → HasPicks job x → first_to (suppliers job) (fails_pick job x) ≡ None
picks_none job x picks = first_to-none (suppliers job) (fails_pick job x) (λ i below. picked (pick job i (total job x i)) (picks i below))

of_need : (job : Job) (x : Purchase) (good sum : ℕ) → FailsNeed job x good sum → Need good sum ≡ standing_of job x
unfolding standing_of
of_need job x good sum f =
    let found = first_to-some (goods job) (fails_need job x) good f.in_range
    (outside (bought job x good) (need job good) (most job good) (subst (λ (s : ℕ). (s < need job good) ⊎ (most job good < s)) f.is_sum f.fails))
    (λ j less. inside (bought job x j) (need job j) (most job j) (f.first j less).enough (f.first j less).not_more) in
    rw found (ap (Need good) f.is_sum)

of_stock : (job : Job) (x : Purchase) (i k : ℕ) → FailsStock job x i k → Stock i k ≡ standing_of job x
unfolding standing_of
of_stock job x i k f =
    let here : over_stock job x i ≡ Some k = first_to-some (goods job) (fails_stock job x i) k f.good_in_range (lt-ltb (stock job i k) (x i k) f.fails)
    (λ j less. le-ltb (stock job i j) (x i j) (f.first_good j less)) in
    let found = first_to-some (suppliers job) (λ j. is_some (over_stock job x j)) i f.supplier_in_range (ap is_some here)
    (λ j less. stock_none job x j (λ good below. f.first_supplier j good less below)) in
    let none = needs_none job x f.needs in
    rw (none, found, here) refl

of_pick : (job : Job) (x : Purchase) (i units : ℕ) → FailsPick job x i units → Gap i units ≡ standing_of job x
unfolding standing_of
of_pick job x i units f =
    let none : pick job i (total job x i) ≡ None = ap (pick job i) (sym f.is_total) ∙ f.fails in
    let found = first_to-some (suppliers job) (fails_pick job x) i f.in_range (ap (λ (o : Option ℕ). not (is_some o)) none)
    (λ j less. picked (pick job j (total job x j)) (f.first j less)) in
    let needs = needs_none job x f.needs in
    let stocks = stocks_none job x f.stocks in
    rw (needs, stocks, found) (ap (Gap i) f.is_total)

of_winners : (job : Job) (x : Purchase) (number : ℕ) → FailsWinners job x number → Winners number ≡ standing_of job x
unfolding standing_of
of_winners job x number f =
    let fails = outside (winners job x) (least_winners job) (most_winners job) (subst (λ (n : ℕ). (n < least_winners job) ⊎ (most_winners job < n)) f.is_number f.fails) in
    let needs = needs_none job x f.needs in
    let stocks = stocks_none job x f.stocks in
    let picks = picks_none job x f.picks in
    rw (needs, stocks, picks, fails) (ap Winners f.is_number)

pub of_feasible : (job : Job) (x : Purchase) (amount : ℕ) → Feasible job x → amount ≡ cost job x → IsFeasible amount ≡ standing_of job x
unfolding standing_of
of_feasible job x amount f is =
    let fits = inside (winners job x) (least_winners job) (most_winners job) f.winners.enough f.winners.not_more in
    let needs = needs_none job x f.needs in
    let stocks = stocks_none job x f.stocks in
    let picks = picks_none job x f.picks in
    rw (needs, stocks, picks, fits) (ap IsFeasible is)

-- a purchase stands as its value says
pub standing_is : (job : Job) (x : Purchase) (s : Standing) → Stands job x s → s ≡ standing_of job x
standing_is job x (IsFeasible amount) h = of_feasible job x amount h.feasible h.is_cost
standing_is job x (Need good sum) h = of_need job x good sum h
standing_is job x (Stock i k) h = of_stock job x i k h
standing_is job x (Gap i units) h = of_pick job x i units h
standing_is job x (Winners number) h = of_winners job x number h

-- purchases with the same units in the places of the job
abbrev pub AreSame : Job → Purchase → Purchase → Type 0
AreSame job x y = (i k : ℕ) → k < goods job → x i k ≡ y i k

total_same : (job : Job) (x y : Purchase) → AreSame job x y → (i : ℕ) → total job x i ≡ total job y i
unfolding total
total_same job x y same i = sum_to-same (goods job) (x i) (y i) (same i)

bought_same : (job : Job) (x y : Purchase) → AreSame job x y → (k : ℕ) → k < goods job → bought job x k ≡ bought job y k
unfolding bought
bought_same job x y same k below = sum_to-same (suppliers job) (λ i. x i k) (λ i. y i k) (λ i less. same i k below)

winners_same : (job : Job) (x y : Purchase) → AreSame job x y → winners job x ≡ winners job y
unfolding winners wins
winners_same job x y same = sum_to-same (suppliers job) (wins job x) (wins job y) (λ i less. ap (λ (t : ℕ). if t == 0 then 0 else 1) (total_same job x y same i))

selected_same : (job : Job) (x y : Purchase) → AreSame job x y → (i : ℕ) → selected job x i ≡ selected job y i
unfolding selected
selected_same job x y same i = rw (total_same job x y same i) refl

goods_cost_same : (job : Job) (x y : Purchase) → AreSame job x y → (i : ℕ) → goods_cost job x i ≡ goods_cost job y i
unfolding goods_cost
goods_cost_same job x y same i =
    let chosen = selected_same job x y same i in
    sum_to-same (goods job) (λ k. x i k * price job i (selected job x i) k) (λ k. y i k * price job i (selected job y i) k)
    (λ k below. (let here = same i k below in rw (chosen, here) refl))

fee_cost_same : (job : Job) (x y : Purchase) → AreSame job x y → (i : ℕ) → fee_cost job x i ≡ fee_cost job y i
unfolding fee_cost
fee_cost_same job x y same i = rw (total_same job x y same i) refl

pub cost_same : (job : Job) (x y : Purchase) → AreSame job x y → cost job x ≡ cost job y
unfolding cost
cost_same job x y same = sum_to-same (suppliers job) (λ i. goods_cost job x i + fee_cost job x i) (λ i. goods_cost job y i + fee_cost job y i)
    (λ i below. omega (arith, goods_cost_same job x y same i, fee_cost_same job x y same i))

fails_need_same : (job : Job) (x y : Purchase) → AreSame job x y → (k : ℕ) → k < goods job → fails_need job x k ≡ fails_need job y k
fails_need_same job x y same k below = ap (λ (b : ℕ). ltb b (need job k) || ltb (most job k) b) (bought_same job x y same k below)

over_stock_same : (job : Job) (x y : Purchase) → AreSame job x y → (i : ℕ) → over_stock job x i ≡ over_stock job y i
over_stock_same job x y same i = first_to-same (goods job) (fails_stock job x i) (fails_stock job y i) (λ k below. ap (ltb (stock job i k)) (same i k below))

fails_pick_same : (job : Job) (x y : Purchase) → AreSame job x y → (i : ℕ) → fails_pick job x i ≡ fails_pick job y i
fails_pick_same job x y same i = ap (λ (t : ℕ). not (is_some (pick job i t))) (total_same job x y same i)

by_winners_same : (job : Job) (x y : Purchase) → AreSame job x y → by_winners job x ≡ by_winners job y
by_winners_same job x y same =
    let number = winners_same job x y same in
    let amount = cost_same job x y same in
    rw (number, amount) refl

by_pick_same : (job : Job) (x y : Purchase) → AreSame job x y → (found : Option ℕ) → by_pick job x found ≡ by_pick job y found
by_pick_same job x y same None = by_winners_same job x y same
by_pick_same job x y same (Some i) = ap (Gap i) (total_same job x y same i)

by_stock_same : (job : Job) (x y : Purchase) → AreSame job x y → (found : Option ℕ) → by_stock job x found ≡ by_stock job y found
by_stock_same job x y same None =
    ap (by_pick job x) (first_to-same (suppliers job) (fails_pick job x) (fails_pick job y) (λ i below. fails_pick_same job x y same i))
    ∙ by_pick_same job x y same (first_to (suppliers job) (fails_pick job y))
by_stock_same job x y same (Some i) =
    let over = over_stock_same job x y same i in
    let other = by_winners_same job x y same in
    rw (over, other) refl

by_need_same : (job : Job) (x y : Purchase) → AreSame job x y → (found : Option ℕ) → ((k : ℕ) → found ≡ Some k → k < goods job) → by_need job x found ≡ by_need job y found
by_need_same job x y same None within =
    ap (by_stock job x) (first_to-same (suppliers job) (λ i. is_some (over_stock job x i)) (λ i. is_some (over_stock job y i)) (λ i below. ap is_some (over_stock_same job x y same i)))
    ∙ by_stock_same job x y same (first_to (suppliers job) (λ i. is_some (over_stock job y i)))
by_need_same job x y same (Some k) within = ap (Need k) (bought_same job x y same k (within k refl))

pub standing_same : (job : Job) (x y : Purchase) → AreSame job x y → standing_of job x ≡ standing_of job y
unfolding standing_of
standing_same job x y same =
    let found = first_to-same (goods job) (fails_need job x) (fails_need job y) (fails_need_same job x y same) in
    ap (by_need job x) found ∙ by_need_same job x y same (first_to (goods job) (fails_need job y)) (λ k is. first_to-below (goods job) (fails_need job y) k is)
