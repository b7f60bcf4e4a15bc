use Rattle.bom_explode.proofs.Structures.{names-structure_of, lines-structure_of, assembly-structure_of, quantity-structure_of}
use Rattle.bom_explode.proofs.structure.source.Goals as goal

pub line-assembly-requires : goal.line-assembly-requires
line-assembly-requires c = rw (lines-structure_of c.args.bill.now) at c.requires

pub returns-clause-assembly : goal.returns-clause-assembly
returns-clause-assembly c = assembly-structure_of c.args.bill.now c.args.l _ c.line-assembly.ensures.value

pub returns-clause-quantity : goal.returns-clause-quantity
returns-clause-quantity c = quantity-structure_of c.args.bill.now c.args.l _ c.line-assembly.ensures.value

pub returns-clause-inside : goal.returns-clause-inside
returns-clause-inside c = rw (names-structure_of c.args.bill.now) c.line-assembly.ensures.kept.assembly
