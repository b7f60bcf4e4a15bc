use Rattle.std.proofs.Common.{refl}
use Rattle.tqd_base.proofs.DeskLemmas.{same_state}
use Rattle.tqd_base.proofs.StoreLemmas.{on_ok, on_err}
use Rattle.tqd_base.proofs.memory_desk.MemoryDesk.set_file.Goals as goal

pub returns-clause-set : goal.returns-clause-set
returns-clause-set c = on_ok c.set_file.result _ _ (λ e. same_state _ _ e refl c.set_file.ensures.failed) c.set_file.ensures.set

pub returns-clause-stays : goal.returns-clause-stays
returns-clause-stays c = on_err c.set_file.result _ _ (λ e. same_state _ _ e refl c.set_file.ensures.failed) c.set_file.ensures.stays
