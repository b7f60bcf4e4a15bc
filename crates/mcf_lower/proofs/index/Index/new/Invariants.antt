use Rattle.mcf_lower.specs.Ends.{IsIndexTo}
use Rattle.mcf_lower.proofs.index.Index.new.Given as goal

abbrev pub invariant-loop-v : goal.invariant-loop-v
invariant-loop-v l = IsIndexTo l.net l.v l.starts.items l.ends.items
