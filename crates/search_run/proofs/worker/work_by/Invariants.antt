use Rattle.search_run.specs.Minds.{IsMindOf}
use Rattle.search_run.specs.Working.{IsGoodFor}
use Rattle.search_run.proofs.worker.work_by.Given as goal

abbrev pub invariant-loop : goal.invariant-loop
invariant-loop g l = record {
  next : IsGoodFor l.hall.job.now l.next;
  mind : IsMindOf l.hall.job.now l.mind;
}
