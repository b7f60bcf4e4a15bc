-- What a judged plan leads to, and the boxes that are due after a node.
use Rattle.std.proofs.Common.{ℕ, ltb, leb, ◌≡◌, ◌<◌, ◌≤◌, ◌==◌, ◌&&◌, true, false, List, [], ◌∷◌, Some, Result, Ok, Err, refl, ap, sym, ◌∙◌, subst, arith, eq-eqb}
use Rattle.std.specs.List.{All}
use Rattle.std.proofs.lemmas.Bool.Decides.{nat_tests}
use Rattle.std.proofs.lemmas.Bool.{and_parts, ltb-true, leb-true}
use Rattle.std.proofs.lemmas.Option.{same_Some}
use Rattle.std.proofs.lemmas.List.Elements.{All-cons, All-head, All-tail}
use Rattle.tqd_instance.specs.declared.job.Job.{Job}
use Rattle.tqd_instance.specs.declared.plan.Plan.{Plan}
use Rattle.tqd_instance.specs.declared.standing.Standing.{Standing}
use Rattle.tqd_instance.specs.declared.standing.Standing.TheVariants.{Feasible, Need, Stock, Gap, Winners}
use Rattle.tqd_instance.specs.Job.{suppliers}
use Rattle.tqd_instance.specs.Plan.{units}
use Rattle.tqd_instance.specs.Purchase.{Purchase}
use Rattle.tqd_instance.specs.Standing.{Stands}
use Rattle.tqd_instance.proofs.Jobs.{job_in_range}
use Rattle.interval_box.specs.declared.boxes.IntervalBox.{IntervalBox}
use Rattle.interval_box.specs.Ranges.{low_of, high_of, IsBoxOf}
use Rattle.interval_box.specs.Halves.{IsProper, low_half, high_half}
use Rattle.interval_box.proofs.Split.{splits}
use Rattle.tree_checker.specs.declared.due.Due.{Due}
use Rattle.tree_checker.specs.declared.rejection.Rejection.{Rejection}
use Rattle.tree_checker.specs.declared.rejection.Why.TheVariants.{PlanStanding, PlanCost}
use Rattle.tree_checker.specs.Standing.{standing_of}
use Rattle.tree_checker.specs.Stack.{IsFirst, without_first, IsSplitFirst}
use Rattle.tree_checker.specs.declared.slots.RowSlots.{RowSlots}
use Rattle.tree_checker.specs.Verdict.{RowStore, from_root, judged, is_split}
use Rattle.tree_checker.specs.Judged.{HasUnits, Leads}
use Rattle.tree_checker.proofs.Standings.{standing_is, standing_same}

-- the standing of a plan is that of the purchase whose units it has
pub judged_as : (job : Job) (plan after : Plan) (boxes : List IntervalBox) (kept : RowSlots) (store : RowStore) (result : Result Due Rejection) (said : ℕ) (x : Purchase) (s : Standing)
    → Stands job (units plan) s → HasUnits job plan x → Leads job after boxes kept result (judged job store said s) → Leads job after boxes kept result (judged job store said (standing_of job x))
judged_as job plan after boxes kept store result said x s stands same leads =
    subst (λ (t : Standing). Leads job after boxes kept result (judged job store said t)) (standing_is job (units plan) s stands ∙ standing_same job (units plan) x same) leads

pub judged_right : (job : Job) (plan : Plan) (boxes : List IntervalBox) (kept : RowSlots) (store : RowStore) (due : Due) (said real : ℕ) → said ≡ real
    → Leads job plan boxes kept (Ok due) (from_root job store (Some said)) → Leads job plan boxes kept (Ok due) (judged job store said (Feasible real))
judged_right job plan boxes kept store due said real e leads = rw (eq-eqb said real e) leads

wrong_test : (said real : ℕ) → (said ≡ real → ⊥) → (said == real) ≡ false
wrong_test said real other = grind (arith, nat_tests)

rejected_leads : (job : Job) (plan : Plan) (boxes : List IntervalBox) (kept : RowSlots) (store : RowStore) (result : Result Due Rejection) (rejection : Rejection) → result ≡ Err rejection
    → Leads job plan boxes kept result (Err rejection)
rejected_leads job plan boxes kept store result rejection is = subst (λ (r : Result Due Rejection). Leads job plan boxes kept r (Err rejection)) (sym is) refl

pub judged_wrong : (job : Job) (plan : Plan) (boxes : List IntervalBox) (kept : RowSlots) (store : RowStore) (result : Result Due Rejection) (said real : ℕ) → (said ≡ real → ⊥)
    → result ≡ Err (record { line = 2; why = PlanCost said real }) → Leads job plan boxes kept result (judged job store said (Feasible real))
judged_wrong job plan boxes kept store result said real other is = rw (wrong_test said real other) (rejected_leads job plan boxes kept store result _ is)

pub judged_failing : (job : Job) (plan : Plan) (boxes : List IntervalBox) (kept : RowSlots) (store : RowStore) (result : Result Due Rejection) (said : ℕ) (s : Standing) → ((real : ℕ) → s ≡ Feasible real → ⊥)
    → result ≡ Err (record { line = 2; why = PlanStanding s }) → Leads job plan boxes kept result (judged job store said s)
judged_failing job plan boxes kept store result said (Feasible real) other is = absurd (other real refl)
judged_failing job plan boxes kept store result said (Need good sum) other is = rejected_leads job plan boxes kept store result _ is
judged_failing job plan boxes kept store result said (Stock i k) other is = rejected_leads job plan boxes kept store result _ is
judged_failing job plan boxes kept store result said (Gap i units) other is = rejected_leads job plan boxes kept store result _ is
judged_failing job plan boxes kept store result said (Winners number) other is = rejected_leads job plan boxes kept store result _ is

-- the box on top, with what is below it
pub first_of_all : (boxes : List IntervalBox) (area : IntervalBox) → IsFirst boxes (Some area) → boxes ≡ area ∷ without_first boxes
first_of_all [] area is = absurd (cc)
first_of_all (a ∷ below) area is = ap (λ (b : IntervalBox). b ∷ below) (sym (same_Some area a is))

pub rest_of_all : (P : IntervalBox → Type 0) (boxes : List IntervalBox) → All P boxes → All P (without_first boxes)
rest_of_all P [] all = all
rest_of_all P (a ∷ below) all = All-tail P a below all

pub first_of_job : (P : IntervalBox → Type 0) (area : IntervalBox) (below : List IntervalBox) → All P (area ∷ below) → P area
first_of_job P area below all = All-head P area below all

-- a split that is tested is proper
pub split_proper : (job : Job) (area : IntervalBox) (supplier at i s : ℕ) → (is_split job area supplier at ≡ true) × (i ≡ supplier) × (s ≡ at) → (i < suppliers job) × IsProper area i s
split_proper job area supplier at i s p =
    let first = and_parts (ltb supplier (suppliers job) && leb (low_of area supplier) at) (ltb at (high_of area supplier)) p.0 in
    let second = and_parts (ltb supplier (suppliers job)) (leb (low_of area supplier) at) first.0 in
    let less = ltb-true supplier (suppliers job) second.0 in
    let from = leb-true (low_of area supplier) at second.1 in
    let below = ltb-true at (high_of area supplier) first.1 in (
      omega (arith, p.1),
      record {
        from_low = subst (λ (j : ℕ). low_of area j ≤ s) (sym p.1) (omega (arith, p.2));
        below_high = subst (λ (j : ℕ). s < high_of area j) (sym p.1) (omega (arith, p.2));
      },
    )

pub can_split : (job : Job) (boxes : List IntervalBox) (area : IntervalBox) (supplier at i s : ℕ) → IsFirst boxes (Some area)
    → (is_split job area supplier at ≡ true) × (i ≡ supplier) × (s ≡ at) → IsSplitFirst boxes i s
can_split job [] area supplier at i s is p = absurd (cc)
can_split job (a ∷ below) area supplier at i s is p =
    let proper = split_proper job area supplier at i s p in
    let few = (job_in_range job).few_suppliers in
    (omega (arith, proper.0), subst (λ (b : IntervalBox). IsProper b i s) (same_Some area a is) proper.1)

pub boxes_split : (job : Job) (boxes news : List IntervalBox) (area : IntervalBox) (supplier at i s : ℕ) → IsFirst boxes (Some area)
    → (is_split job area supplier at ≡ true) × (i ≡ supplier) × (s ≡ at)
    → ((a : IntervalBox) (due : List IntervalBox) → boxes ≡ a ∷ due → news ≡ low_half a i s ∷ high_half a i s ∷ due)
    → All (IsBoxOf job) boxes → All (IsBoxOf job) news
boxes_split job boxes news area supplier at i s is p new all =
    let whole = first_of_all boxes area is in
    let proper = split_proper job area supplier at i s p in
    let here = first_of_job (IsBoxOf job) area (without_first boxes) (subst (All (IsBoxOf job)) whole all) in
    let halves = splits job area i s here proper.1 in
    subst (All (IsBoxOf job)) (sym (new area (without_first boxes) whole))
    (All-cons (IsBoxOf job) (low_half area i s) (high_half area i s ∷ without_first boxes) halves.low_is_box
    (All-cons (IsBoxOf job) (high_half area i s) (without_first boxes) halves.high_is_box (rest_of_all (IsBoxOf job) boxes all)))
