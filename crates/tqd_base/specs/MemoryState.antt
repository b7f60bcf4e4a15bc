-- A desk in memory: its counts are its counters. Beside its state it keeps the faults that are planned and how much one `take` gives.
use Rattle.std.specs.Prelude.{ℕ, ◌≡◌, List}
use Rattle.tqd_base.specs.declared.memory_desk.MemoryDesk.{MemoryDesk}
use Rattle.tqd_base.specs.declared.plan.Planned.{Planned}
use Rattle.tqd_base.specs.World.{State}
use Rattle.tqd_base.specs.StoreWorld.{world_of, failed_of}

abbrev pub memory_state : MemoryDesk → State
memory_state desk = record {
  world = world_of desk.store;
  faults = record { reading = desk.reading; writing = desk.writing; printing = desk.printing };
  failed_last = failed_of desk.store;
}

-- the faults that are planned
abbrev pub planned : MemoryDesk → List Planned
planned desk = desk.plan.faults.items

-- the most bytes that one `take` gives
abbrev pub most_taken : MemoryDesk → ℕ
most_taken desk = desk.store.most

-- the desk plans the same faults, and gives as many bytes at once
pub record KeepsPlan (old new : MemoryDesk) : Type 0 where
  pub planned_stays : planned new ≡ planned old
  pub most_stays : most_taken new ≡ most_taken old
