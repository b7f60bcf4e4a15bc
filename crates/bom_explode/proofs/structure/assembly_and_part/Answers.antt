use Rattle.bom_explode.proofs.Structures.{names-structure_of, lines-structure_of, assembly-structure_of, part-structure_of}
use Rattle.bom_explode.proofs.structure.assembly_and_part.Goals as goal

pub line-assembly-requires : goal.line-assembly-requires
line-assembly-requires c = rw (lines-structure_of c.args.bill.now) at c.requires

pub returns-clause-assembly : goal.returns-clause-assembly
returns-clause-assembly c = assembly-structure_of c.args.bill.now c.args.l _ c.line-assembly.ensures.value

pub returns-clause-part : goal.returns-clause-part
returns-clause-part c = part-structure_of c.args.bill.now c.args.l _ c.line-assembly.ensures.value

pub returns-clause-assembly_inside : goal.returns-clause-assembly_inside
returns-clause-assembly_inside c = rw (names-structure_of c.args.bill.now) c.line-assembly.ensures.kept.assembly

pub returns-clause-part_inside : goal.returns-clause-part_inside
returns-clause-part_inside c = rw (names-structure_of c.args.bill.now) c.line-assembly.ensures.kept.part
