-- The net whose circulations are the relaxed purchases of a box. Node 0 is the hub; then come the suppliers, and then the goods.
use Rattle.std.specs.Prelude.{ℕ, ◌≡◌, ◌+◌, ◌*◌, ◌<◌, length}
use Rattle.mcf_lower.specs.declared.net.Arc.{Arc}
use Rattle.mcf_lower.specs.Net.{Network, arc_of}
use Rattle.tqd_instance.specs.declared.job.Job.{Job}
use Rattle.tqd_instance.specs.Job.{goods, suppliers, need, most}
use Rattle.interval_box.specs.declared.boxes.IntervalBox.{IntervalBox}
use Rattle.bound_tree.specs.Value.{cap}
use Rattle.box_bound.specs.Relaxed.{least_total, greatest_total, least_price}

abbrev pub supplier_node : ℕ → ℕ
supplier_node i = 1 + i

abbrev pub good_node : Job → ℕ → ℕ
good_node job k = 1 + suppliers job + k

-- the units of a supplier's total come from the hub
abbrev pub total_arc : Job → IntervalBox → ℕ → Arc
total_arc job area i = record { tail = 0; head = supplier_node i; low = least_total job area i; cap = greatest_total job area i; cost = 0 }

-- those of a good that a supplier sells
abbrev pub offer_arc : Job → IntervalBox → ℕ → ℕ → Arc
offer_arc job area i k = record { tail = supplier_node i; head = good_node job k; low = 0; cap = cap job i k; cost = least_price job area i k }

-- what is bought of a good goes back to the hub
abbrev pub need_arc : Job → ℕ → Arc
need_arc job k = record { tail = good_node job k; head = 0; low = need job k; cap = most job k; cost = 0 }

-- the numbers of these arcs
abbrev pub offer_place : Job → ℕ → ℕ → ℕ
offer_place job i k = suppliers job + (i * goods job + k)

abbrev pub need_place : Job → ℕ → ℕ
need_place job k = offer_place job (suppliers job) k

-- the net of a box
pub record IsNetOf (job : Job) (area : IntervalBox) (net : Network) : Type 0 where
  pub nodes : net.nodes ≡ 1 + suppliers job + goods job
  pub arcs : length net.arcs ≡ suppliers job + (suppliers job * goods job + goods job)
  pub totals : (i : ℕ) → i < suppliers job → arc_of net i ≡ total_arc job area i
  pub offers : (i k : ℕ) → i < suppliers job → k < goods job → arc_of net (offer_place job i k) ≡ offer_arc job area i k
  pub needs : (k : ℕ) → k < goods job → arc_of net (need_place job k) ≡ need_arc job k

-- a net that has n arcs more, the next ones of a list
pub record HasMore (old new : Network) (n : ℕ) (next : ℕ → Arc) : Type 0 where
  pub nodes : new.nodes ≡ old.nodes
  pub arcs : length new.arcs ≡ length old.arcs + n
  pub kept : (a : ℕ) → a < length old.arcs → arc_of new a ≡ arc_of old a
  pub each : (k : ℕ) → k < n → arc_of new (length old.arcs + k) ≡ next k

-- a net that has the arcs from the first n suppliers to the goods more
pub record HasOffers (job : Job) (area : IntervalBox) (old new : Network) (n : ℕ) : Type 0 where
  pub nodes : new.nodes ≡ old.nodes
  pub arcs : length new.arcs ≡ length old.arcs + n * goods job
  pub kept : (a : ℕ) → a < length old.arcs → arc_of new a ≡ arc_of old a
  pub each : (i k : ℕ) → i < n → k < goods job → arc_of new (length old.arcs + (i * goods job + k)) ≡ offer_arc job area i k
