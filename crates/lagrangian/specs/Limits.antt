-- The numbers of a job that its totals are held against.
use Rattle.std.specs.Prelude.{ℕ, ◌≡◌, ◌<◌, length, slice_index}
use Rattle.tqd_instance.specs.declared.job.Job.{Job}
use Rattle.tqd_instance.specs.Job.{suppliers}
use Rattle.lagrangian.specs.declared.totals.Limits.{Limits}
use Rattle.lagrangian.specs.Repair.{needs, mosts, caps}

pub record AreLimits (job : Job) (limits : Limits) : Type 0 where
  pub needs_are : limits.needs ≡ needs job
  pub mosts_are : limits.mosts ≡ mosts job
  pub places : length limits.caps ≡ 64
  pub caps_are : (i : ℕ) → i < suppliers job → slice_index limits.caps i ≡ caps job i
