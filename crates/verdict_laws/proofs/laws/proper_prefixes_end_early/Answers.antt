use Rattle.verdict_laws.proofs.Ends.{ends_early}
use Rattle.verdict_laws.proofs.laws.proper_prefixes_end_early.Goals as goal

pub returns : goal.returns
returns c = ends_early
