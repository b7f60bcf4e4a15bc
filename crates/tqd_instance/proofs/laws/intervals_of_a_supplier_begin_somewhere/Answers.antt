use Rattle.tqd_instance.proofs.FromsExist.{froms_exist}
use Rattle.tqd_instance.proofs.laws.intervals_of_a_supplier_begin_somewhere.Goals as goal

pub returns : goal.returns
returns c = λ formed i. froms_exist c.args._parts.now i formed
