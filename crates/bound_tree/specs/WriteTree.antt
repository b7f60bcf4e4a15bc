-- What writing a tree does to a desk.
use Rattle.std.specs.Prelude.{ℕ, ◌≡◌, Option, None, Some, Result, Ok, Err}
use Rattle.std.specs.Option.{option_map}
use Rattle.tqd_base.specs.World.{State, Bytes, Rose}
use Rattle.tqd_base.specs.Calls.{Puts, PutsPrefix}
use Rattle.tqd_base.specs.declared.desk.DeskStop.{DeskStop}
use Rattle.tqd_base.specs.declared.desk.DeskStop.TheVariants.{Failed, Memory as NoMemory}
use Rattle.tqd_instance.specs.declared.job.Job.{Job}
use Rattle.tqd_instance.specs.declared.plan.Plan.{Plan}
use Rattle.tqd_instance.specs.Plan.{units, IsSizedFor}
use Rattle.tqd_instance.specs.Purchase.{Purchase}
use Rattle.tqd_instance.specs.Cost.{cost}
use Rattle.bound_tree.specs.declared.write.WriteStop.{WriteStop}
use Rattle.bound_tree.specs.declared.write.WriteStop.TheVariants.{Fault, Memory}
use denote.Ref.{Bor}

-- the purchase that a plan with its cost writes down
abbrev pub purchase_of : Option (Bor Plan × ℕ) → Option Purchase
purchase_of plan = option_map (λ p. units p.0.now) plan

-- a plan of the job's size with its cost, or none
abbrev pub IsPriced : Job → Option (Bor Plan × ℕ) → Type 0
IsPriced job None = Unit {0}
IsPriced job (Some p) = IsSizedFor job p.0.now × (p.1 ≡ cost job (units p.0.now))

abbrev pub write_stop_of : DeskStop → WriteStop
write_stop_of Failed = Fault
write_stop_of NoMemory = Memory

-- the slot's file grows by the text, or, where the writing stopped, by a prefix of it; all else stays as it was
abbrev pub WriteGives : State → State → ℕ → Bytes → Result (Unit {0}) WriteStop → Type 0
WriteGives old new slot text (Ok done) = Puts old new slot text
WriteGives old new slot text (Err Fault) = Rose old.faults.writing new.faults.writing × PutsPrefix old new slot text
WriteGives old new slot text (Err Memory) = PutsPrefix old new slot text
