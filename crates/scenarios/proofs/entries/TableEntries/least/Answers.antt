use Rattle.scenarios.proofs.Tables.{entry_found}
use Rattle.scenarios.proofs.entries.TableEntries.least.Goals as goal

pub returns : goal.returns
returns g c = entry_found c.args.self.now.job.now c.in_ok-job.job c.args.at c.most_winners-most.result c.least.result
    c.most_winners-most.ensures.value c.in_ok-job.ensures c.least.ensures
