-- The pick of a total that is in a range.
use Rattle.std.proofs.Common.{ℕ, ◌≡◌, Option, Some, None, refl}
use Rattle.std.specs.Prelude.{IsSomeAnd}
use Rattle.std.proofs.lemmas.Option.{none-some, same_Some}
use Rattle.tqd_instance.specs.declared.job.Job.{Job}
use Rattle.tqd_instance.specs.Job.{pick}
use Rattle.tqd_instance.specs.Purchase.{Purchase, total}
use Rattle.interval_box.specs.declared.boxes.IntervalBox.{IntervalBox}
use Rattle.interval_box.specs.Ranges.{Admits, PicksIn}

-- a pick that the range admits
pub record Picked (job : Job) (area : IntervalBox) (x : Purchase) (i : ℕ) : Type 0 where
  pub number : ℕ
  pub is : pick job i (total job x i) ≡ Some number
  pub admitted : Admits area i number

and_some : (o : Option ℕ) (P : ℕ → Type 0) → IsSomeAnd o P → (j : ℕ) × (o ≡ Some j) × P j
and_some None P h = absurd h
and_some (Some j) P h = (j, refl, h)

some_and : (o : Option ℕ) (P : ℕ → Type 0) (j : ℕ) → o ≡ Some j → P j → IsSomeAnd o P
some_and None P j is h = absurd (none-some j is)
some_and (Some k) P j is h =
    let same = same_Some k j is in
    rw same h

pub picked : (job : Job) (area : IntervalBox) (x : Purchase) (i : ℕ) → PicksIn job area x i → Picked job area x i
picked job area x i h =
    let p = and_some (pick job i (total job x i)) (Admits area i) h in
    record { number = p.0; is = p.1; admitted = p.2 }

pub picks : (job : Job) (area : IntervalBox) (x : Purchase) (i : ℕ) → Picked job area x i → PicksIn job area x i
picks job area x i p = some_and (pick job i (total job x i)) (Admits area i) p.number p.is p.admitted
