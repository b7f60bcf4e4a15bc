use Rattle.tqd_base.proofs.StoreLemmas.{empty_world, empty_name}
use Rattle.tqd_base.proofs.store.Store.new.Goals as goal

pub returns-clause-world : goal.returns-clause-world
returns-clause-world c = empty_world _ _ _ c.new.ensures.items c.new-2.ensures.items c.new-3.ensures.items

pub returns-clause-failed : goal.returns-clause-failed
returns-clause-failed c = empty_name c.new-3.result.items
