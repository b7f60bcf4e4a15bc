use Rattle.tqd_instance.proofs.Froms.{froms_one}
use Rattle.tqd_instance.proofs.laws.intervals_begin_at_one_list.Goals as goal

pub returns : goal.returns
returns c = froms_one c.args._parts.now
