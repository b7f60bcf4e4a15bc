-- A store, seen as the world of a desk, and the name whose reading failed last.
use Rattle.std.specs.Prelude.{Option}
use Rattle.tqd_base.specs.declared.store.Store.{Store}
use Rattle.tqd_base.specs.World.{World, Name}
use Rattle.tqd_base.specs.Kept.{world_at, name_kept}

abbrev pub world_of : Store → World
world_of store = world_at store.files.items store.output.items store.slots.items

abbrev pub failed_of : Store → Option Name
failed_of store = name_kept store.slots.items store.failed
