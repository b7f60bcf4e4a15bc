use Rattle.break_even.proofs.Cuts.{greater_cut_no_dearer}
use Rattle.break_even.proofs.laws.greater_cuts_are_no_dearer.Goals as goal

pub returns : goal.returns
returns c = λ i x y a b known le of_a of_b. greater_cut_no_dearer c.args._job.now a b i x y le of_a of_b
