-- What a worker goes on with.
use Rattle.tqd_instance.specs.declared.job.Job.{Job}
use Rattle.interval_box.specs.Ranges.{IsBoxOf}
use Rattle.search_run.specs.declared.thought.Task.{Task}
use Rattle.search_run.specs.declared.holds.Look.{Look}
use Rattle.search_run.specs.declared.holds.Look.TheVariants.{Found, Again, Over}
use Rattle.search_run.specs.declared.holds.Next.{Next}
use Rattle.search_run.specs.declared.holds.Next.TheVariants.{Kept, Free, Over as Ends}

-- the box of a task is one of the job
abbrev pub IsTask : Job → Task → Type 0
IsTask job task = IsBoxOf job task.area

-- a box that was found is one of the job
abbrev pub IsFoundIn : Job → Look → Type 0
IsFoundIn job (Found task) = IsTask job task
IsFoundIn job Again = Unit {0}
IsFoundIn job Over = Unit {0}

-- a box to go on with is one of the job
abbrev pub IsGoodFor : Job → Next → Type 0
IsGoodFor job (Kept task) = IsTask job task
IsGoodFor job Free = Unit {0}
IsGoodFor job Ends = Unit {0}
