use Rattle.std.proofs.Common.{refl, sym, true≢false}
use Rattle.tqd_base.proofs.RealLemmas.{writing_same, writing_writes}
use Rattle.tqd_base.proofs.real_slot.RealSlot.fails_to_settle.Goals as goal

pub returns-in-Writing-clause-same : goal.returns-in-Writing-clause-same
returns-in-Writing-clause-same g c = writing_same c.args.self.now c.in-Writing.field-0 _ c.fails_to_reach_disk.new.file c.in-Writing.is

pub returns-in-Writing-clause-writes : goal.returns-in-Writing-clause-writes
returns-in-Writing-clause-writes g c fails = writing_writes c.args.self.now c.in-Writing.field-0 _ c.in-Writing.is

pub returns-in_default : goal.returns-in_default
returns-in_default g c = record { same = refl; writes = λ fails. absurd (true≢false (sym fails)) }
