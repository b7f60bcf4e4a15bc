use Rattle.std.proofs.Common.{arith}
use Rattle.bom_explode.specs.Structure.{structure_of}
use Rattle.bom_explode.proofs.Ordering.{joined_on_circle}
use Rattle.bom_explode.proofs.circle.least_on_circle.Goals as goal

pub returns-then-least-count : goal.returns-then-least-count
returns-then-least-count c =
    let i = c.loop-l.invariant in
    record {
      inside = omega (arith, i.count);
      below_itself = i.on_circle c.if-least-count.true;
      least = λ m b. let j = joined_on_circle (structure_of c.args.bill.now) c.args.component.now m c.requires b in
          omega (arith, i.least j.0 (omega (arith, j.1.inside, i.lines)) j.1.same, j.1.from);
    }

pub returns-else-least-count : goal.returns-else-least-count
returns-else-least-count c n b =
    let i = c.loop-l.invariant in
    let j = joined_on_circle (structure_of c.args.bill.now) c.args.component.now n c.requires b in
    omega (arith, i.least j.0 (omega (arith, j.1.inside, i.lines)) j.1.same, i.count, i.kept.assemblies j.0 j.1.inside)
