-- A file that is longer than the limit has that fault.
use Rattle.tqd_top.proofs.Readings.{size_stops}
use Rattle.tqd_top.proofs.source.read_bytes.Goals as goal

pub returns-in-Err-Size : goal.returns-in-Err-Size
returns-in-Err-Size g c = let gives = rw c.in-Err-Size.field-0-is at c.in-Err-Size.ensures in size_stops _ _ _ _ _ _ _ gives.0 gives.1 c.bad.ensures
