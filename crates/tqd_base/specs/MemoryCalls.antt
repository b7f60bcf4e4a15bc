-- When the calls of a desk in memory fail: where a fault is planned, and nowhere else. Which counts of faults rise.
use Rattle.std.specs.Prelude.{ℕ, ◌≡◌, ◌+◌, ◌-◌, ◌^◌, ◌/◌, min, ⊤, Bool, true, false, length, take, Result, Ok, Err}
use Rattle.tqd_base.specs.declared.desk.DeskStop.{DeskStop}
use Rattle.tqd_base.specs.declared.desk.DeskStop.TheVariants.{Failed, Memory}
use Rattle.tqd_base.specs.declared.plan.DeskCall.{DeskCall}
use Rattle.tqd_base.specs.declared.plan.DeskCall.TheVariants.{Open, Take, Make, Put, Out, Close}
use Rattle.tqd_base.specs.World.{State, Faults, Bytes}
use Rattle.tqd_base.specs.Calls.{Puts, Prints}

-- a call fails exactly where it has to, unless memory is wanting
abbrev pub FailsWhere : {V : Type 0} → Bool → Result V DeskStop → Type 0
FailsWhere due (Ok value) = due ≡ false
FailsWhere due (Err Failed) = due ≡ true
FailsWhere due (Err Memory) = ⊤

-- the first half of a piece, rounded down
abbrev pub half_of : Bytes → Bytes
half_of piece = take (length piece / 2) piece

-- a `put` that fails adds the first half of its piece; one that wants memory adds nothing
abbrev pub PutsHalf : State → State → ℕ → Bytes → Result (Unit {0}) DeskStop → Type 0
PutsHalf old new slot piece (Ok done) = ⊤
PutsHalf old new slot piece (Err Failed) = Puts old new slot (half_of piece)
PutsHalf old new slot piece (Err Memory) = new.world ≡ old.world

-- and so does an `out`
abbrev pub PrintsHalf : State → State → Bytes → Result (Unit {0}) DeskStop → Type 0
PrintsHalf old new piece (Ok done) = ⊤
PrintsHalf old new piece (Err Failed) = Prints old new (half_of piece)
PrintsHalf old new piece (Err Memory) = new.world ≡ old.world

-- a count of faults after one more; it stands still at the greatest number of a count
abbrev pub one_more : ℕ → ℕ
one_more count = min (count + 1) (2 ^ 64 - 1)

-- the counts after one more fault of a kind of call: opening and taking are reading, making, putting and closing are writing
abbrev pub with_fault : DeskCall → Faults → Faults
with_fault Open faults = record faults { reading = one_more faults.reading }
with_fault Take faults = record faults { reading = one_more faults.reading }
with_fault Make faults = record faults { writing = one_more faults.writing }
with_fault Put faults = record faults { writing = one_more faults.writing }
with_fault Close faults = record faults { writing = one_more faults.writing }
with_fault Out faults = record faults { printing = one_more faults.printing }

-- a call that fails counts one fault of its kind and no other; one that does not fail counts none
abbrev pub Counts : {V : Type 0} → DeskCall → Faults → Faults → Result V DeskStop → Type 0
Counts call old new (Ok value) = new ≡ old
Counts call old new (Err Failed) = new ≡ with_fault call old
Counts call old new (Err Memory) = new ≡ old

-- an opening that ends with a stop counts it so
abbrev pub FailedOpen : Faults → Faults → DeskStop → Type 0
FailedOpen old new stop = Counts {V = ℕ} Open old new (Err stop)
