use Rattle.std.proofs.Common.{refl}
use Rattle.tqd_base.proofs.RealLemmas.{real_idle}
use Rattle.tqd_base.proofs.real_desk.RealDesk.new.Goals as goal

pub returns-clause-idle : goal.returns-clause-idle
returns-clause-idle g c = real_idle c.new.result.items c.new.ensures.items

pub returns-clause-faults : goal.returns-clause-faults
returns-clause-faults g c = record { reading = refl; writing = refl; printing = refl; failed_last = refl }
