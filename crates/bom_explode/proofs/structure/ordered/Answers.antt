use Rattle.std.proofs.Common.{sym, ◌∙◌}
use Rattle.bom_explode.proofs.Structures.{names-structure_of, ordered-structure_of}
use Rattle.bom_explode.proofs.structure.ordered.Goals as goal

pub ordered-requires : goal.ordered-requires
ordered-requires c = rw (names-structure_of c.args.bill.now) at c.requires

pub returns-clause-value : goal.returns-clause-value
returns-clause-value c = c.ordered.ensures.value ∙ sym (ordered-structure_of c.args.bill.now c.args.n)
