use Rattle.search_run.proofs.Trims.{cut_trim}
use Rattle.search_run.proofs.trim.Trim.cut.Goals as goal

pub returns : goal.returns
returns c =
    cut_trim c.args._job.now c.args._area.now c.args.self.now _ c.args.end.now c.args.leaf c.requires.trim c.requires.end c.requires.leaf
    c.in_ok-push.ensures.items c.half_of-self.ensures
