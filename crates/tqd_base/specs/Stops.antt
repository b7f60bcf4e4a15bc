-- How the stops of the calls of a desk become those of the calls above it.
use Rattle.tqd_base.specs.declared.desk.DeskStop.{DeskStop}
use Rattle.tqd_base.specs.declared.desk.DeskStop.TheVariants.{Failed, Memory as NoMemory}
use Rattle.tqd_base.specs.declared.read.ReadStop.{ReadStop}
use Rattle.tqd_base.specs.declared.read.ReadStop.TheVariants.{Fault, Memory}

abbrev pub read_stop_of : DeskStop → ReadStop
read_stop_of Failed = Fault
read_stop_of NoMemory = Memory
