use Rattle.std.proofs.Common.{sym, ◌∙◌, ap, length}
use Rattle.bom_explode.proofs.Structures.{names-structure_of, IsStructure-of}
use Rattle.bom_explode.proofs.structure.names.Goals as goal

pub returns-clause-value : goal.returns-clause-value
returns-clause-value c = c.len.ensures.value ∙ ap length c.names.ensures.value ∙ sym (names-structure_of c.args.bill.now)

pub returns-clause-kept : goal.returns-clause-kept
returns-clause-kept c = IsStructure-of c.args.bill.now c.names.ensures.kept
