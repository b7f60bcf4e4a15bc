use Rattle.bom_explode.specs.Structure.{structure_of}
use Rattle.bom_explode.specs.Solution.{need_of}
use Rattle.bom_explode.proofs.Climbing.{Solves-need_of}
use Rattle.bom_explode.proofs.explosion.explode.Goals as goal

pub returns-in-Some-least_above : goal.returns-in-Some-least_above
returns-in-Some-least_above c =
    let s = structure_of c.args.bill.now in
    record {
      no_circle = c.in_default.ensures;
      need = need_of s;
      solves = Solves-need_of s c.new.ensures.kept c.in_default.ensures;
      above = c.in-Some-least_above.ensures;
    }

pub returns : goal.returns
returns c =
    let s = structure_of c.args.bill.now in
    record {
      no_circle = c.in_default.ensures;
      need = need_of s;
      solves = Solves-need_of s c.new.ensures.kept c.in_default.ensures;
      counted = c.in_default-least_above.ensures;
      goods = c.in_ok-of.ensures;
    }
