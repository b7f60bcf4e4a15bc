-- In the file that is given, or in none.
use Rattle.tqd_top.proofs.Saved.{saved_given, saved_none}
use Rattle.tqd_top.proofs.save.save_given.Goals as goal

pub returns-in-Some : goal.returns-in-Some
returns-in-Some g c = λ f. rw c.in-Some.is (saved_given _ _ _ _ _ (c.save_tree.ensures f))

pub returns-in-None : goal.returns-in-None
returns-in-None g c = λ f. rw c.in-None.is (saved_none _ _ _)
