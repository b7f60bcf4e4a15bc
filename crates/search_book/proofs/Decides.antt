-- Each event applies to a state, or does not.
use Rattle.std.proofs.Common.{ℕ, suc, zero, ◌≡◌, ◌<◌, ◌≤◌, ◌⊎◌, Bool, true, false, List, length, get_or, Option, Some, None, pos, ℤ, ◌≤ℤ◌, ◌<ℤ◌, refl, subst, inl, inr, arith}
use Rattle.std.specs.Prelude.{IsSome, IfSome, IsSomeAnd, neg_ℤ}
use Rattle.std.specs.List.{All}
use Rattle.std.proofs.lemmas.Bool.{cases_lt, cases_eq}
use Rattle.std.proofs.lemmas.Int.{ints, by_lt_z}
use Rattle.std.proofs.lemmas.List.Elements.{All-from_get_or, All-get_or}
use Rattle.tqd_base.specs.declared.limits.TheConstants.{DUAL_MAX}
use Rattle.tqd_instance.specs.declared.job.Job.{Job}
use Rattle.tqd_instance.specs.declared.plan.Plan.{Plan}
use Rattle.tqd_instance.specs.Job.{goods, suppliers, need, most, stock, pick, least_winners, most_winners}
use Rattle.tqd_instance.specs.Purchase.{Purchase, total, bought, winners}
use Rattle.tqd_instance.specs.Feasible.{MeetsNeed, MeetsStock, MeetsStocks, HasPick, MeetsWinners, Feasible}
use Rattle.tqd_instance.specs.Cost.{cost}
use Rattle.tqd_instance.specs.Plan.{units, plan_suppliers, plan_goods, IsSizedFor}
use Rattle.tqd_instance.specs.Standing.{Costs}
use Rattle.interval_box.specs.declared.boxes.IntervalBox.{IntervalBox}
use Rattle.interval_box.specs.Ranges.{low_of, high_of}
use Rattle.interval_box.specs.Halves.{IsProper}
use Rattle.interval_box.specs.Winners.{sure_winners, possible_winners}
use Rattle.bound_tree.specs.declared.leaf.Leaf.{Leaf}
use Rattle.bound_tree.specs.declared.leaf.Leaf.TheVariants.{Bound, Empty, Winners}
use Rattle.bound_tree.specs.Prices.{Prices, IsPrice, Fits, places_to}
use Rattle.bound_tree.specs.Value.{value, free_value}
use Rattle.bound_tree.specs.Kills.{Kills}
use Rattle.search_book.specs.declared.node.Node.{Node}
use Rattle.search_book.specs.declared.node.Phase.{Phase}
use Rattle.search_book.specs.declared.node.Phase.TheVariants.{Open, Taken, Split, Closed}
use Rattle.search_book.specs.Nodes.{area_of, phase_of, HasPhase}
use Rattle.search_book.specs.BookState.{BookState, best_cost}
use Rattle.search_book.specs.Events.{Event, take_node, improve, close_node, split_node, give_back, release, IsPlanAt, marked, divided, released, Happens, Steps}

-- it holds, or it does not
abbrev Decided : Type 0 → Type 0
Decided A = A ⊎ (A → ⊥)

both : {A B : Type 0} → Decided A → Decided B → Decided (A × B)
both (inl a) (inl b) = inl (a, b)
both (inl a) (inr never) = inr (λ h. never h.1)
both (inr never) b = inr (λ h. never h.0)

either : {A B : Type 0} → Decided A → Decided B → Decided (A ⊎ B)
either (inl a) b = inl (inl a)
either (inr never) (inl b) = inl (inr b)
either (inr never) (inr neither) = inr (λ h. elim h [ inl a ↦ never a | inr b ↦ neither b ])

-- what says the same
same : {A B : Type 0} → (A → B) → (B → A) → Decided A → Decided B
same to from (inl a) = inl (to a)
same to from (inr never) = inr (λ b. never (from b))

is_less : (m n : ℕ) → Decided (m < n)
is_less m n = elim (cases_lt m n) [ inl below ↦ inl below | inr past ↦ inr (λ below. omega arith) ]

is_at_most : (m n : ℕ) → Decided (m ≤ n)
is_at_most m n = elim (cases_lt n m) [ inl past ↦ inr (λ below. omega arith) | inr below ↦ inl below ]

is_signed_at_most : (a b : ℤ) → Decided (a ≤ℤ b)
is_signed_at_most a b = by_lt_z b a (λ past. inr (λ below. omega (arith, ints))) (λ below. inl below)

is_signed_less : (a b : ℤ) → Decided (a <ℤ b)
is_signed_less a b = by_lt_z a b (λ below. inl below) (λ past. inr (λ below. omega (arith, ints)))

-- at each of the first n numbers
all_below : (n : ℕ) (P : ℕ → Type 0) → ((k : ℕ) → Decided (P k)) → Decided ((k : ℕ) → k < n → P k)
all_below zero P each = inl (λ k below. absurd (omega arith))
all_below (suc n) P each = elim (all_below n P each) [
  | inr never ↦ inr (λ all. never (λ k below. all k (omega arith)))
  | inl rest ↦ elim (each n) [
    | inr never ↦ inr (λ all. never (all n (omega arith)))
    | inl last ↦ inl (λ k below. elim (cases_lt k n) [
      | inl before ↦ rest k before
      | inr past ↦ subst P (let here : n ≡ k = omega arith in here) last
    ])
  ]
]

-- a plan of a job's size that is feasible and costs so much
meets_need : (job : Job) (x : Purchase) (k : ℕ) → Decided (MeetsNeed job x k)
meets_need job x k =
    same (λ h. record { enough = h.0; not_more = h.1 }) (λ h. (h.enough, h.not_more))
    (both (is_at_most (need job k) (bought job x k)) (is_at_most (bought job x k) (most job k)))

meets_stocks : (job : Job) (x : Purchase) → Decided (MeetsStocks job x)
meets_stocks job x =
    same (λ h i k supplier good. h i supplier k good) (λ h i supplier k good. h i k supplier good)
    (all_below (suppliers job) (λ i. (k : ℕ) → k < goods job → MeetsStock job x i k)
    (λ i. all_below (goods job) (MeetsStock job x i) (λ k. is_at_most (x i k) (stock job i k))))

has_some : (o : Option ℕ) → Decided (IsSome o)
has_some None = inr (λ h. let none : false ≡ true = h in cc)
has_some (Some n) = inl refl

meets_winners : (job : Job) (x : Purchase) → Decided (MeetsWinners job x)
meets_winners job x =
    same (λ h. record { enough = h.0; not_more = h.1 }) (λ h. (h.enough, h.not_more))
    (both (is_at_most (least_winners job) (winners job x)) (is_at_most (winners job x) (most_winners job)))

is_feasible : (job : Job) (x : Purchase) → Decided (Feasible job x)
is_feasible job x =
    same (λ h. record { needs = h.0; stocks = h.1.0; picks = h.1.1.0; winners = h.1.1.1 }) (λ h. (h.needs, (h.stocks, (h.picks, h.winners))))
    (both (all_below (goods job) (MeetsNeed job x) (meets_need job x))
    (both (meets_stocks job x)
    (both (all_below (suppliers job) (HasPick job x) (λ i. has_some (pick job i (total job x i)))) (meets_winners job x))))

is_plan_at : (job : Job) (plan : Plan) (amount : ℕ) → Decided (IsPlanAt job plan amount)
is_plan_at job plan amount =
    let sized : Decided (IsSizedFor job plan) =
    same (λ h. record { suppliers = h.0; goods = h.1 }) (λ h. (h.suppliers, h.goods))
    (both (cases_eq (plan_suppliers plan) (suppliers job)) (cases_eq (plan_goods plan) (goods job))) in
    let costs : Decided (Costs job (units plan) amount) =
    same (λ h. record { feasible = h.0; is_cost = h.1 }) (λ h. (h.feasible, h.is_cost))
    (both (is_feasible job (units plan)) (cases_eq amount (cost job (units plan)))) in
    same (λ h. record { sized = h.0; costs = h.1 }) (λ h. (h.sized, h.costs)) (both sized costs)

is_below : (best : Option ℕ) (amount : ℕ) → Decided (IfSome best (λ c. amount < c))
is_below None amount = inl tt
is_below (Some c) amount = is_less amount c

-- a leaf that kills a box
is_price : (z : ℤ) → Decided (IsPrice z)
is_price z =
    same (λ h. record { not_less = h.0; not_more = h.1 }) (λ h. (h.not_less, h.not_more))
    (both (is_signed_at_most (neg_ℤ DUAL_MAX) z) (is_signed_at_most z DUAL_MAX))

are_prices : (prices : List ℤ) → Decided (All IsPrice prices)
are_prices prices =
    same (All-from_get_or IsPrice prices (pos 0)) (λ all k below. All-get_or IsPrice prices k (pos 0) below all)
    (all_below (length prices) (λ k. IsPrice (get_or prices k (pos 0))) (λ k. is_price (get_or prices k (pos 0))))

fits : (job : Job) (area : IntervalBox) (row : Prices) → Decided (Fits job area row)
fits job area row =
    same (λ h. record { goods = h.0; places = h.1.0; good_prices = h.1.1.0; place_prices = h.1.1.1 }) (λ h. (h.goods, (h.places, (h.good_prices, h.place_prices))))
    (both (cases_eq (length row.goods) (goods job))
    (both (cases_eq (length row.places) (places_to area (suppliers job)))
    (both (are_prices row.goods) (are_prices row.places))))

reaches : (best : Option ℕ) (v : ℤ) → Decided (IsSomeAnd best (λ c. pos c ≤ℤ v))
reaches None v = inr (λ h. h)
reaches (Some c) v = is_signed_at_most (pos c) v

kills : (job : Job) (area : IntervalBox) (best : Option ℕ) (leaf : Leaf) → Decided (Kills job area best leaf)
kills job area best (Bound row) = both (fits job area row) (reaches best (value job area row))
kills job area best (Empty row) = both (fits job area row) (is_signed_less (pos 0) (free_value job area row))
kills job area best Winners =
    either (is_less (most_winners job) (sure_winners job area)) (is_less (possible_winners job area) (least_winners job))

-- what became of a node
is_open : (p : Phase) → Decided (p ≡ Open)
is_open Open = inl refl
is_open Taken = inr (λ e. cc)
is_open (Split low high i at) = inr (λ e. cc)
is_open (Closed leaf) = inr (λ e. cc)

is_taken : (p : Phase) → Decided (p ≡ Taken)
is_taken Open = inr (λ e. cc)
is_taken Taken = inl refl
is_taken (Split low high i at) = inr (λ e. cc)
is_taken (Closed leaf) = inr (λ e. cc)

has_phase : (nodes : List Node) (n : ℕ) (p : Phase) → Decided (phase_of nodes n ≡ p) → Decided (HasPhase nodes n p)
has_phase nodes n p is =
    same (λ h. record { known = h.0; is = h.1 }) (λ h. (h.known, h.is)) (both (is_less n (length nodes)) is)

has_taken : (nodes : List Node) (n : ℕ) → Decided (HasPhase nodes n Taken)
has_taken nodes n = has_phase nodes n Taken (is_taken (phase_of nodes n))

is_proper : (area : IntervalBox) (i at : ℕ) → Decided (IsProper area i at)
is_proper area i at =
    same (λ h. record { from_low = h.0; below_high = h.1 }) (λ h. (h.from_low, h.below_high))
    (both (is_at_most (low_of area i) at) (is_less at (high_of area i)))

-- an event leads to some state, or to none
leads : (s : BookState) (event : Event) → ((t : BookState) × Happens s event t) ⊎ ((t : BookState) → Happens s event t → ⊥)
leads s (take_node n) = elim (has_phase s.nodes n Open (is_open (phase_of s.nodes n))) [
  | inl at ↦ inl (marked s n Taken, (at, refl))
  | inr never ↦ inr (λ t h. never h.0)
]
leads s (improve plan amount) = elim (both (is_plan_at s.job plan amount) (is_below (best_cost s) amount)) [
  | inl at ↦ inl (record s { best = Some (plan, amount) }, (at.0, at.1, refl))
  | inr never ↦ inr (λ t h. never (h.0, h.1))
]
leads s (close_node n leaf) = elim (both (has_taken s.nodes n) (kills s.job (area_of s.nodes n) (best_cost s) leaf)) [
  | inl at ↦ inl (marked s n (Closed leaf), (at.0, at.1, refl))
  | inr never ↦ inr (λ t h. never (h.0, h.1))
]
leads s (split_node n i at keep_low) = elim (both (has_taken s.nodes n) (is_proper (area_of s.nodes n) i at)) [
  | inl may ↦ inl (divided s n i at keep_low, (may.0, may.1, refl))
  | inr never ↦ inr (λ t h. never (h.0, h.1))
]
leads s (give_back n) = elim (has_taken s.nodes n) [
  | inl at ↦ inl (marked s n Open, (at, refl))
  | inr never ↦ inr (λ t h. never h.0)
]
leads s release = inl (released s, refl)

pub steps_on : (s : BookState) (event : Event) → (applied : Bool) × (t : BookState) × Steps s event applied t
steps_on s event = elim (leads s event) [
  | inl there ↦ (true, there.0, there.1)
  | inr never ↦ (false, s, (never, refl))
]
