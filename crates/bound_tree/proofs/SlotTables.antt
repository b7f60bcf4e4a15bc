-- A table in which no slot has a row.
use Rattle.std.proofs.Common.{ℕ, zero, suc, ◌≡◌, List, ◌∷◌, length, map, replicate, Option, None, refl, ap}
use Rattle.std.proofs.lemmas.List.{length-map}
use Rattle.std.proofs.lemmas.List.Elements.{All-nil, All-cons}
use Rattle.std.specs.List.{All}
use Rattle.tqd_instance.specs.declared.job.Job.{Job}
use Rattle.bound_tree.specs.Prices.{Prices}
use Rattle.bound_tree.specs.declared.slots.SlotTable.{SlotTable}
use Rattle.bound_tree.specs.SlotTable.{kept_row, KeptFits, given_of}

pub none_are : (job : Job) (n : ℕ) → map (kept_row job) (replicate n None) ≡ replicate n None
none_are job zero = refl
none_are job (suc n) = ap (λ (xs : List (Option Prices)). None ∷ xs) (none_are job n)

pub none_fit : (job : Job) (n : ℕ) → All (KeptFits job) (replicate n None)
none_fit job zero = All-nil (KeptFits job)
none_fit job (suc n) = All-cons (KeptFits job) None (replicate n None) tt (none_fit job n)

pub given_slots : (job : Job) (table : SlotTable) → length (given_of job table).slots ≡ length table.slots.items
unfolding given_of
given_slots job table = length-map table.slots.items (kept_row job)
