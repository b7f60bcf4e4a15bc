use Rattle.tqd_base.proofs.Written.{idle_still}
use Rattle.tree_tests.proofs.texts.is_written.Goals as goal

pub write_new-answer-requires-clause-new : goal.write_new-answer-requires-clause-new
write_new-answer-requires-clause-new g c = idle_still _ _ _ c.fail.ensures.state c.in_ok-desk.ensures.empty.slots
