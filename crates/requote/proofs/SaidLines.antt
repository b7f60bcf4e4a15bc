-- What a line says of a box, by its row.
use Rattle.std.proofs.Common.{◌≡◌, ℕ, pos, true, false, Option, None, Some, refl, arith}
use Rattle.std.proofs.lemmas.Int.{ints}
use Rattle.std.specs.Prelude.{is_some, ◌≤ℤ◌, IsSomeAnd}
use Rattle.tqd_instance.specs.declared.job.Job.{Job}
use Rattle.interval_box.specs.declared.boxes.IntervalBox.{IntervalBox}
use Rattle.bound_tree.specs.Prices.{Prices, Fits}
use Rattle.bound_tree.specs.Value.{value}
use Rattle.bound_tree.specs.Kills.{Kills}
use Rattle.requote.specs.declared.said.RowLeaf.{RowLeaf}
use Rattle.requote.specs.declared.said.RowLeaf.TheVariants.{Bound as BoundLeaf, Empty as EmptyLeaf}
use Rattle.requote.specs.declared.said.Target.{Target}
use Rattle.requote.specs.Said.{bound_kills}
use Rattle.requote.specs.Reading.{row_leaf, row_kills}

pub none_there : {A : Type 0} (o : Option A) → is_some o ≡ false → o ≡ None
none_there None e = refl
none_there (Some x) e = absurd (cc)

bound_is : (job : Job) (best : Option ℕ) (area : IntervalBox) (row : Prices) → bound_kills job best area row ≡ true → IsSomeAnd best (λ c. pos c ≤ℤ value job area row)
bound_is job None area row e = absurd (cc)
bound_is job (Some c) area row e = grind (arith, ints, e)

-- a row that fits and kills
pub kills_with : (target : Target) (leaf : RowLeaf) (row : Prices) → Fits target.job.now target.area row → row_kills target leaf row ≡ true
    → Kills target.job.now target.area target.best (row_leaf leaf row)
kills_with target BoundLeaf row fits e = (fits, bound_is target.job.now target.best target.area row e)
kills_with target EmptyLeaf row fits e = (fits, grind (arith, ints, e))
