use Rattle.std.proofs.Common.{sym, ◌∙◌}
use Rattle.bom_explode.proofs.Structures.{lines-structure_of, IsStructure-of}
use Rattle.bom_explode.proofs.structure.lines.Goals as goal

pub returns-clause-value : goal.returns-clause-value
returns-clause-value c = c.lines.ensures.value ∙ sym (lines-structure_of c.args.bill.now)

pub returns-clause-kept : goal.returns-clause-kept
returns-clause-kept c = IsStructure-of c.args.bill.now c.lines.ensures.kept
