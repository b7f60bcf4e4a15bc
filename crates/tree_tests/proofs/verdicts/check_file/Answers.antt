use Rattle.tqd_base.proofs.Whole.{opened_reads}
use Rattle.tree_tests.proofs.verdicts.check_file.Goals as goal

pub check_from-requires : goal.check_from-requires
check_from-requires g c = opened_reads _ _ _ _ c.in_ok-slot.slot c.in_ok-slot.ensures
