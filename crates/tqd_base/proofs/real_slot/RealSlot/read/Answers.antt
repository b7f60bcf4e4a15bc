use Rattle.tqd_base.proofs.RealLemmas.{reads_file, reading_same}
use Rattle.tqd_base.proofs.real_slot.RealSlot.read.Goals as goal

pub unreachable-requires : goal.unreachable-requires
unreachable-requires g c = reads_file c.args.self.now c.in_default.not-Reading c.requires

pub unreachable-unreachable : goal.unreachable-unreachable
unreachable-unreachable g c = c.unreachable.result

pub returns-clause-same : goal.returns-clause-same
returns-clause-same g c = reading_same c.args.self.now c.in-Reading.field-0 _ c.read.new.self c.in-Reading.is
