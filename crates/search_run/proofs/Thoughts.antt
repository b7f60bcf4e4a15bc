-- What a bound says of a box, at a stage.
use Rattle.std.proofs.Common.{◌<◌, Option, Result, Ok, Err, IfOk}
use Rattle.tqd_base.specs.declared.memory.Memory.{Memory}
use Rattle.tqd_instance.specs.declared.job.Job.{Job}
use Rattle.interval_box.specs.declared.boxes.IntervalBox.{IntervalBox}
use Rattle.interval_box.specs.Ranges.{IsSingle}
use Rattle.search_run.specs.declared.thought.Offer.{Offer}
use Rattle.search_run.specs.declared.thought.Act.{Act}
use Rattle.search_run.specs.declared.thought.Act.TheVariants.{Stay, Kill, Reach, Solve, Trim, Split}
use Rattle.search_run.specs.declared.thought.Stage.{Stage}
use Rattle.search_run.specs.declared.thought.Thought.{Thought}
use Rattle.search_run.specs.Stages.{rank}
use Rattle.search_run.specs.Thoughts.{IsAct, IsThought, IsActOfBound, IsBoundThought}

act_of_bound : (job : Job) (area : IntervalBox) (stage : Stage) (offer : Option Offer) (act : Act) → ((IsSingle job area → ⊥) → 0 < rank stage)
    → IsActOfBound job area offer act → IsAct job area stage offer act
act_of_bound job area stage offer Stay left is = left is
act_of_bound job area stage offer (Kill leaf) left is = is
act_of_bound job area stage offer (Reach row) left is = absurd is
act_of_bound job area stage offer (Solve row) left is = is
act_of_bound job area stage offer (Trim cuts) left is = absurd is
act_of_bound job area stage offer (Split bound branch) left is = absurd is

-- the last stage comes to a bound only where the box leaves no choice
pub of_bound : (job : Job) (area : IntervalBox) (stage : Stage) (thought : Thought) → ((IsSingle job area → ⊥) → 0 < rank stage)
    → IsBoundThought job area thought → IsThought job area stage thought
of_bound job area stage thought left is = record {
  offer = is.offer;
  act = act_of_bound job area stage thought.offer thought.act left is.act;
}

-- what holds at each stage but the last, at one of them
pub at_stage : (job : Job) (area : IntervalBox) (stage : Stage) (result : Result Thought Memory) → 0 < rank stage
    → IfOk result (λ thought. (s : Stage) → 0 < rank s → IsThought job area s thought) → IfOk result (IsThought job area stage)
at_stage job area stage (Ok thought) some is = is stage some
at_stage job area stage (Err e) some is = tt
