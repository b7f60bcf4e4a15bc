use Rattle.tqd_base.proofs.Written.{idle_has_no_slot}
use Rattle.tree_tests.proofs.shares.is_shared.Goals as goal

pub share_new-answer-requires-clause-new : goal.share_new-answer-requires-clause-new
share_new-answer-requires-clause-new g c = idle_has_no_slot _ _ c.in_ok-desk.ensures.empty.slots
