-- The faults that are planned for a desk in memory, and what a call makes of them.
use Rattle.std.specs.Prelude.{ℕ, ◌-◌, Bool, ◌&&◌, ◌==◌, if◌then◌else◌, List, map}
use Rattle.std.specs.List.{list_any}
use Rattle.tqd_base.specs.declared.plan.DeskCall.{DeskCall}
use Rattle.tqd_base.specs.declared.plan.DeskCall.TheVariants.{Open, Take, Make, Put, Out, Close}
use Rattle.tqd_base.specs.declared.plan.Planned.{Planned}

-- the kinds of calls, numbered
abbrev pub number_of : DeskCall → ℕ
number_of Open = 0
number_of Take = 1
number_of Make = 2
number_of Put = 3
number_of Out = 4
number_of Close = 5

-- the fault is of a call of this kind
abbrev pub is_of : DeskCall → Planned → Bool
is_of call fault = number_of fault.call == number_of call

-- the next call of this kind has to fail
abbrev pub is_due : DeskCall → List Planned → Bool
is_due call faults = list_any (λ fault. is_of call fault && fault.left == 1) faults

-- a fault after one more call of this kind; one that has come stays at 0
abbrev pub one_less : DeskCall → Planned → Planned
one_less call fault = if is_of call fault then record fault { left = fault.left - 1 } else fault

-- the faults after one more call of this kind
abbrev pub counted : DeskCall → List Planned → List Planned
counted call faults = map (one_less call) faults
