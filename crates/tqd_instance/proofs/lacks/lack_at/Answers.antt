use Rattle.std.proofs.Common.{None, length}
use Rattle.tqd_instance.specs.Built.{price_stated}
use Rattle.tqd_instance.specs.Rows.{AreValues}
use Rattle.tqd_instance.proofs.LackLemmas.{lacks_none_at, first_lack_at}
use Rattle.tqd_instance.proofs.lacks.lack_at.Goals as goal

pub returns-in-Some : goal.returns-in-Some
returns-in-Some c =
    let stated : AreValues (length c.args.parts.now.needs) None (price_stated c.args.parts.now c.args.i c.args.from) c.deref.result.now =
    rw c.deref.ensures.value c.in_ok-prices.ensures in
    first_lack_at c.args.parts.now c.args.i c.args.from c.in-Some.k c.args.offered.now c.deref.result.now c.requires.formed c.requires.offered
    stated c.requires.from c.in-Some.ensures

pub returns : goal.returns
returns c =
    let stated : AreValues (length c.args.parts.now.needs) None (price_stated c.args.parts.now c.args.i c.args.from) c.deref.result.now =
    rw c.deref.ensures.value c.in_ok-prices.ensures in
    lacks_none_at c.args.parts.now c.args.i c.args.from c.args.offered.now c.deref.result.now c.requires.formed c.requires.offered stated c.in-None.ensures
