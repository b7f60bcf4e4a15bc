use Rattle.bound_tree.proofs.OtherBoxes.{narrowed_is}
use Rattle.bound_tree.proofs.laws.narrowed_rows_fit.Goals as goal

pub returns : goal.returns
returns c = λ job area part row of_job part_of_job within fits. narrowed_is job area part row part_of_job within fits
