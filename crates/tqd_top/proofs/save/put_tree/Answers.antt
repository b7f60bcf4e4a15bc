-- The text of the certificate, or a prefix of it.
use Rattle.tqd_top.proofs.Solutions.{finished_nodes, wrote_certificate}
use Rattle.tqd_top.proofs.save.put_tree.Goals as goal

pub write_shared-requires-clause-nodes : goal.write_shared-requires-clause-nodes
write_shared-requires-clause-nodes g c = finished_nodes _ _ c.requires.finished

pub returns-in-Ok : goal.returns-in-Ok
returns-in-Ok g c = λ f. wrote_certificate _ _ _ _ _ _ f c.plan_of-plan.ensures.bought (c.in-Ok.ensures f.tree f.nodes_are)
