use Rattle.std.proofs.Common.{arith, get_or}
use Rattle.std.proofs.lemmas.List.Elements.{Contains-get_or}
use Rattle.tqd_instance.proofs.LackLemmas.{first_lack_of, lacks_none_of}
use Rattle.tqd_instance.proofs.lacks.first_lack.Goals as goal

pub lack_at-requires-clause-from : goal.lack_at-requires-clause-from
lack_at-requires-clause-from c =
    (c.requires.froms.stated (get_or c.args.froms.now c.loop-from.from-index 0)).0
    (Contains-get_or c.args.froms.now c.loop-from.from-index 0 c.loop-from-test.true)

pub returns-in-Some : goal.returns-in-Some
returns-in-Some c =
    first_lack_of c.args.parts.now c.args.i c.loop-from.from-index c.in-Some.good c.args.froms.now c.requires.froms c.loop-from-test.true
    c.loop-from.invariant (rw c.in-Some.is at c.in_ok-good.ensures)

pub returns : goal.returns
returns c =
    lacks_none_of c.args.parts.now c.args.i c.args.froms.now c.requires.froms
    (λ a good below. c.loop-from.invariant a good (omega arith))
