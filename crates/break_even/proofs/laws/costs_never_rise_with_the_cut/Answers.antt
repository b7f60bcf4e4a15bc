use Rattle.break_even.proofs.Cuts.{costs_never_rise}
use Rattle.break_even.proofs.laws.costs_never_rise_with_the_cut.Goals as goal

pub returns : goal.returns
returns c = λ i x y a b known le of_a of_b. costs_never_rise c.args._job.now a b i x y le of_a of_b
