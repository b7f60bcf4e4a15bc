-- What a search makes of a job.
use Rattle.tqd_instance.specs.declared.job.Job.{Job}
use Rattle.search_book.specs.BookState.{BookState, IsOpening}
use Rattle.search_book.specs.Later.{IsLater}

-- t is later than an opening state of the job
pub record IsLaterThanOpening (job : Job) (t : BookState) : Type 0 where
  pub opening : BookState
  pub is_opening : IsOpening job opening
  pub later : IsLater opening t
