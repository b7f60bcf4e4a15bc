-- The charges that a value is computed with.
use Rattle.std.specs.Prelude.{ℕ}
use Rattle.tqd_instance.specs.declared.job.Job.{Job}
use Rattle.tqd_instance.specs.Job.{price, fee}
use Rattle.bound_tree.specs.declared.value.Asked.{Asked}
use Rattle.bound_tree.specs.declared.value.Asked.TheVariants.{All, Nothing}
use Rattle.bound_tree.specs.Value.{Charges}

-- an amount, or 0 where nothing is asked
abbrev pub asked_of : Asked → ℕ → ℕ
asked_of All amount = amount
asked_of Nothing amount = 0

abbrev pub charges_by : Asked → Job → Charges
charges_by asked job = record { price = λ i j k. asked_of asked (price job i j k); fee = λ i. asked_of asked (fee job i) }
