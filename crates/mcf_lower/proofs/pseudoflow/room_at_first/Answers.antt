use Rattle.std.proofs.Common.{sym, arith}
use Rattle.mcf_lower.proofs.Rooms.{first_room-along, first_room-back, along_gain, along_else, back_gain, back_else}
use Rattle.mcf_lower.proofs.pseudoflow.room_at_first.Goals as goal

pub returns-then-numbers-arc-clause-is : goal.returns-then-numbers-arc-clause-is
returns-then-numbers-arc-clause-is c =
    rw (first_room-along c.args.net.now c.args.numbers.now c.args.e (omega arith), ← c.arc_of-arc.ensures.is)
    (sym (along_gain c.args.numbers.now c.arc_of-arc.result (omega arith)))

pub returns-else-numbers-arc-clause-is : goal.returns-else-numbers-arc-clause-is
returns-else-numbers-arc-clause-is c =
    rw (first_room-along c.args.net.now c.args.numbers.now c.args.e (omega arith), ← c.arc_of-arc.ensures.is)
    (sym (along_else c.args.numbers.now c.arc_of-arc.result (omega arith)))

pub returns-then-numbers-arc-2-clause-is : goal.returns-then-numbers-arc-2-clause-is
returns-then-numbers-arc-2-clause-is c =
    let k = rw (c.arcs-arcs.ensures.is) at c.arc_of-arc-else-e-arcs.ensures.is in
    rw (first_room-back c.args.net.now c.args.numbers.now c.args.e (omega arith), ← k)
    (sym (back_gain c.args.numbers.now c.arc_of-arc-else-e-arcs.result (omega arith)))

pub returns-else-numbers-arc-2-clause-is : goal.returns-else-numbers-arc-2-clause-is
returns-else-numbers-arc-2-clause-is c =
    let k = rw (c.arcs-arcs.ensures.is) at c.arc_of-arc-else-e-arcs.ensures.is in
    rw (first_room-back c.args.net.now c.args.numbers.now c.args.e (omega arith), ← k)
    (sym (back_else c.args.numbers.now c.arc_of-arc-else-e-arcs.result (omega arith)))
