use Rattle.tqd_instance.proofs.FromsExist.{job_one}
use Rattle.order_gen.specs.Draws.{first_state}
use Rattle.order_gen.specs.GenParts.{parts_from}
use Rattle.order_gen.proofs.MadeForm.{drawn_formed}
use Rattle.order_gen.proofs.laws.a_seed_makes_one_job.Goals as goal

pub returns : goal.returns
returns c = λ seed goods suppliers a b some few some_suppliers few_suppliers of_a of_b.
    job_one (parts_from (first_state seed) goods suppliers) a b (drawn_formed (first_state seed) goods suppliers some few some_suppliers few_suppliers) of_a of_b
