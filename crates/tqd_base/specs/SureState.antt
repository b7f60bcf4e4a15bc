-- A desk that never fails: its counts stay 0, and no reading failed. Beside its state it keeps how much one `take` gives.
use Rattle.std.specs.Prelude.{ℕ, None}
use Rattle.tqd_base.specs.declared.sure_desk.SureDesk.{SureDesk}
use Rattle.tqd_base.specs.World.{State}
use Rattle.tqd_base.specs.StoreWorld.{world_of}

abbrev pub sure_state : SureDesk → State
sure_state desk = record {
  world = world_of desk.store;
  faults = record { reading = 0; writing = 0; printing = 0 };
  failed_last = None;
}

-- the most bytes that one `take` gives
abbrev pub sure_most : SureDesk → ℕ
sure_most desk = desk.store.most
