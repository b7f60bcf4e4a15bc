use Rattle.lagrangian.proofs.Worths.{found_none}
use Rattle.lagrangian.proofs.place.best_place.Goals as goal

pub returns-then-j-eq0-clause-found : goal.returns-then-j-eq0-clause-found
returns-then-j-eq0-clause-found c = found_none c.args.job.now c.args.good_prices.now c.args.i c.args.j c.if-j-eq0.true
