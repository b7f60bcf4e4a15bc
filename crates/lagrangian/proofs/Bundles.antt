-- The mixtures of several suppliers, where that of one is another.
use Rattle.std.proofs.Common.{ℕ, ◌≡◌, ◌≢◌, ◌+◌, ◌<◌, ◌≤◌, List, length, get_or, set, refl, sym, ◌∙◌, subst, ⊎_elim, arith}
use Rattle.std.proofs.lemmas.Bool.{cases_eq, cases_lt}
use Rattle.std.proofs.lemmas.List.{length-set, get_or-set_same, get_or-set_other, get_or_read, get_or_past}
use Rattle.tqd_instance.specs.declared.job.Job.{Job}
use Rattle.tqd_instance.specs.Job.{goods, suppliers}
use Rattle.bound_tree.specs.Value.{cap}
use Rattle.interval_box.specs.declared.boxes.IntervalBox.{IntervalBox}
use Rattle.interval_box.specs.Ranges.{low_of, high_of}
use Rattle.lagrangian.specs.Columns.{Mixture, no_mixture, AreWithin, AreCapsOf, IsWhole, Keeps, KeepsAll}
use Rattle.lagrangian.specs.Bundle.{AreAllCapsOf}

-- what holds at each place of a list holds where one of its members is another for which it holds
pub each_set : (P : ℕ → Mixture → Type 0) (n : ℕ) (list : List Mixture) (i : ℕ) (new : Mixture) → i < length list
    → ((k : ℕ) → k < n → P k (get_or list k no_mixture)) → P i new → (k : ℕ) → k < n → P k (get_or (set list i new) k no_mixture)
each_set P n list i new l all here k below = ⊎_elim
    (λ (z : k ≡ i). subst (λ (m : ℕ). P m (get_or (set list i new) m no_mixture)) (sym z)
    (subst (P i) (sym (get_or-set_same list i new no_mixture l)) here))
    (λ (z : k ≢ i). subst (P k) (sym (get_or-set_other list i k new no_mixture z)) (all k below))
    (cases_eq k i)

-- what holds at the places below i, and at i of the new one, holds below i + 1
pub each_more : (P : ℕ → Mixture → Type 0) (list : List Mixture) (i : ℕ) (new : Mixture) → i < length list
    → ((k : ℕ) → k < i → P k (get_or list k no_mixture)) → P i new → (k : ℕ) → k < i + 1 → P k (get_or (set list i new) k no_mixture)
each_more P list i new l all here k below = ⊎_elim
    (λ (z : k ≡ i). subst (λ (m : ℕ). P m (get_or (set list i new) m no_mixture)) (sym z)
    (subst (P i) (sym (get_or-set_same list i new no_mixture l)) here))
    (λ (z : k ≢ i). subst (P k) (sym (get_or-set_other list i k new no_mixture z)) (all k (omega arith)))
    (cases_eq k i)

pub Keeps-same : (m : Mixture) → Keeps m m
Keeps-same m = record { caps = refl; places = λ h. h; total = refl; inside = λ low high h. h }

pub Keeps-then : (a b c : Mixture) → Keeps a b → Keeps b c → Keeps a c
Keeps-then a b c f g = record {
  caps = g.caps ∙ f.caps;
  places = λ h. g.places (f.places h);
  total = g.total ∙ f.total;
  inside = λ low high h. g.inside low high (f.inside low high h);
}

pub KeepsAll-same : (list : List Mixture) → KeepsAll list list
KeepsAll-same list = record { count = refl; each = λ i l. Keeps-same (get_or list i no_mixture) }

pub KeepsAll-then : (a b c : List Mixture) → KeepsAll a b → KeepsAll b c → KeepsAll a c
KeepsAll-then a b c f g = record {
  count = g.count ∙ f.count;
  each = λ i l. Keeps-then (get_or a i no_mixture) (get_or b i no_mixture) (get_or c i no_mixture) (f.each i l) (g.each i (omega (arith, f.count)));
}

-- one of the mixtures is another that keeps what stays the same
pub KeepsAll-set : (old list : List Mixture) (i : ℕ) (was new : Mixture) → KeepsAll old list → i < length list → was ≡ get_or list i was
    → Keeps was new → KeepsAll old (set list i new)
KeepsAll-set old list i was new kept l is one = record {
  count = length-set list i new ∙ kept.count;
  each = each_set (λ k m. Keeps (get_or old k no_mixture) m) (length old) list i new l kept.each
      (Keeps-then (get_or old i no_mixture) was new
      (subst (Keeps (get_or old i no_mixture)) (sym (get_or_read list i was l is no_mixture)) (kept.each i (omega (arith, kept.count)))) one);
}

-- the caps of a job's suppliers are kept
pub AreAllCapsOf-kept : (job : Job) (old new : List Mixture) → KeepsAll old new → AreAllCapsOf job old → AreAllCapsOf job new
AreAllCapsOf-kept job old new kept all i l =
    let below : i < length old = omega (arith, kept.count) in
    subst (AreCapsOf job i) (sym (kept.each i below).caps) (all i below)

-- a mixture that is whole in a range stays so
pub IsWhole-kept : (low high : ℕ) (old new : Mixture) → Keeps old new → IsWhole low high old → IsWhole low high new
IsWhole-kept low high old new kept h = record { places = kept.places h.places; inside = kept.inside low high h.inside; whole = kept.total ∙ h.whole }

pub IsWhole-kept_all : (job : Job) (area : IntervalBox) (old new : List Mixture) → KeepsAll old new → length old ≡ suppliers job
    → ((i : ℕ) → i < suppliers job → IsWhole (low_of area i) (high_of area i) (get_or old i no_mixture))
    → (i : ℕ) → i < suppliers job → IsWhole (low_of area i) (high_of area i) (get_or new i no_mixture)
IsWhole-kept_all job area old new kept count all i l =
    IsWhole-kept (low_of area i) (high_of area i) (get_or old i no_mixture) (get_or new i no_mixture) (kept.each i (omega arith)) (all i l)

-- units that the supplier can sell are within its caps
pub AreWithin-sold : (job : Job) (i : ℕ) (caps out : List ℕ) (f : ℕ → ℕ) → AreCapsOf job i caps → length out ≡ goods job
    → ((k : ℕ) → k < length out → get_or out k 0 ≡ f k) → ((k : ℕ) → k < goods job → f k ≤ cap job i k) → AreWithin caps out
AreWithin-sold job i caps out f of count is within = record {
  width = omega (arith, of.width);
  within = λ k. ⊎_elim
      (λ (z : k < length out). let b : k < goods job = omega arith in omega (arith, is k z, within k b, of.each k b))
      (λ (z : length out ≤ k). omega (arith, get_or_past out k 0 z))
      (cases_lt k (length out));
}
