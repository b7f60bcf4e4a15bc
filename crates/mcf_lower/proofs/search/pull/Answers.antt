use Rattle.mcf_lower.proofs.Offers.{IsOffered-join, Last-offered, IsClosed-pulled}
use Rattle.mcf_lower.proofs.search.pull.Goals as goal

pub pull_back-requires-clause-last : goal.pull_back-requires-clause-last
pull_back-requires-clause-last c =
    Last-offered c.args.net.now c.args.numbers.now _ c.pull_along.new.labels c.args.v c.requires.last c.pull_along.ensures.offered

pub returns-clause-offered : goal.returns-clause-offered
returns-clause-offered c = IsOffered-join c.args.net.now.nodes _ _ _ c.pull_along.ensures.offered c.pull_back.ensures.offered

pub returns-clause-closed : goal.returns-clause-closed
returns-clause-closed c =
    IsClosed-pulled c.args.net.now c.args.room.now c.args.numbers.now _ c.pull_along.new.labels c.pull_back.new.labels c.args.v c.requires.network
    c.pull_along.ensures.offered c.pull_back.ensures.offered c.requires.last.settled c.requires.closed c.pull_along.ensures.met c.pull_back.ensures.met
