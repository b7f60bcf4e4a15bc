-- What clauses say of a counted worker, which is the owner of its deque, and of a counted pass.
use Rattle.std.specs.Prelude.{◌≡◌, ℕ}
use Rattle.crossbeam_deque.specs.Handles.{view, taken, IsPassOf, SamePass}
use Rattle.crossbeam_deque.specs.Handles.{worker_deque, worker_port, worker_view, worker_capacity, worker_index, SameWorker}
use Rattle.counted_deque.specs.declared.handles.CountedWorker.{CountedWorker}
use Rattle.counted_deque.specs.declared.handles.CountedPass.{CountedPass}

module _ {T A V P : Type 0} where
  -- which deque it is
  abbrev pub owner_deque : CountedWorker T A V P → (ℕ × ℕ) × A
  owner_deque w = worker_deque w.worker

  -- the number of the owner's own pass, and what it knows
  abbrev pub owner_port : CountedWorker T A V P → ℕ
  owner_port w = worker_port w.worker

  abbrev pub owner_view : CountedWorker T A V P → V
  owner_view w = worker_view w.worker

  abbrev pub owner_capacity : CountedWorker T A V P → ℕ
  owner_capacity w = worker_capacity w.worker

  abbrev pub owner_index : CountedWorker T A V P → ℕ
  owner_index w = worker_index w.worker

  -- how many pops of the owner found the deque empty
  abbrev pub dry_pops : CountedWorker T A V P → ℕ
  dry_pops w = w.dry

  -- how many steals found it empty that were made with passes which the owner has taken in and not handed back
  abbrev pub held_steals : CountedWorker T A V P → ℕ
  held_steals w = w.held

  -- the owner of one deque, before and after a step
  abbrev pub SameOwner : CountedWorker T A V P → CountedWorker T A V P → Type 0
  SameOwner old new = SameWorker old.worker new.worker

  abbrev pub SameCounts : CountedWorker T A V P → CountedWorker T A V P → Type 0
  SameCounts old new = (dry_pops new ≡ dry_pops old) × (held_steals new ≡ held_steals old)

module _ {T V A : Type 0} where
  -- which deque it is a pass of
  abbrev pub pass_deque : CountedPass T V A → (ℕ × ℕ) × A
  pass_deque p = (p.token.rows, p.token.heap)

  abbrev pub pass_number : CountedPass T V A → ℕ
  pass_number p = p.token.id

  -- what the pass knows
  abbrev pub pass_view : CountedPass T V A → V
  pass_view p = view p.token

  -- how many tasks the pass knows to have left the deque at its front
  abbrev pub pass_taken : CountedPass T V A → ℕ
  pass_taken p = taken p.token

  -- how many steals with the pass found the deque empty
  abbrev pub dry_steals : CountedPass T V A → ℕ
  dry_steals p = p.dry

  abbrev pub IsCountedPassOf : (ℕ × ℕ) × A → CountedPass T V A → Type 0
  IsCountedPassOf deque p = IsPassOf deque p.token

  abbrev pub SameCountedPass : CountedPass T V A → CountedPass T V A → Type 0
  SameCountedPass old new = SamePass old.token new.token
