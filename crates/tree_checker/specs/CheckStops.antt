-- Why checking stops where a call of the desk did.
use Rattle.tqd_base.specs.declared.desk.DeskStop.{DeskStop}
use Rattle.tqd_base.specs.declared.desk.DeskStop.TheVariants.{Failed, Memory as NoMemory}
use Rattle.tree_checker.specs.declared.checking.CheckStop.{CheckStop}
use Rattle.tree_checker.specs.declared.checking.CheckStop.TheVariants.{Fault, Memory}

abbrev pub check_stop_of : DeskStop → CheckStop
check_stop_of Failed = Fault
check_stop_of NoMemory = Memory
