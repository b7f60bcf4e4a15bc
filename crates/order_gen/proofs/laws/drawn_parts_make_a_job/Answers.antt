use Rattle.order_gen.specs.Draws.{first_state}
use Rattle.order_gen.proofs.MadeForm.{drawn_formed, drawn_passes}
use Rattle.order_gen.proofs.laws.drawn_parts_make_a_job.Goals as goal

pub returns : goal.returns
returns c = record {
  formed = λ seed goods suppliers some few some_suppliers few_suppliers. drawn_formed (first_state seed) goods suppliers some few some_suppliers few_suppliers;
  passes = λ seed goods suppliers some few some_suppliers few_suppliers. drawn_passes (first_state seed) goods suppliers some few some_suppliers few_suppliers;
}
