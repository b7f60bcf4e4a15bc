-- Laws of the changes of a world.
use Rattle.std.proofs.Common.{ℕ, ◌≡◌, Bool, true, false, Option, refl, sym, ◌∙◌, ap, eq-eqb, eqb-true}
use Rattle.std.specs.Prelude.{if◌then◌else◌, ◌==◌}
use Rattle.tqd_base.specs.World.{World, Slot, set_slot}

-- a world is its files, its output and what is at each slot
pub same_world : (w v : World) → w.files ≡ v.files → w.output ≡ v.output → ((n : ℕ) → w.slots n ≡ v.slots n) → w ≡ v
same_world w v files output slots = λ i. record { files = files i; output = output i; slots = λ n. slots n i }

pub slots-set_slot-same : (w : World) (n : ℕ) (s : Option Slot) → (set_slot w n s).slots n ≡ s
unfolding set_slot
slots-set_slot-same w n s = rw (eq-eqb n n refl)

if_same : (b : Bool) (x y : Option Slot) → (b ≡ true → x ≡ y) → (if b then x else y) ≡ y
if_same true x y h = h refl
if_same false x y h = refl

-- what is put into a slot twice is what is put there last
if_twice : (b : Bool) (x y z : Option Slot) → (if b then x else (if b then y else z)) ≡ (if b then x else z)
if_twice true x y z = refl
if_twice false x y z = refl

pub set_slot-set_slot : (w : World) (n : ℕ) (s t : Option Slot) → set_slot (set_slot w n s) n t ≡ set_slot w n t
unfolding set_slot
set_slot-set_slot w n s t = same_world _ _ refl refl (λ m. if_twice (m == n) t s (w.slots m))

-- a slot that is put back as it was changes nothing
pub set_slot-same : (w : World) (n : ℕ) (s : Option Slot) → w.slots n ≡ s → set_slot w n s ≡ w
unfolding set_slot
set_slot-same w n s h = same_world _ _ refl refl (λ m. if_same (m == n) s (w.slots m) (λ e. sym h ∙ ap w.slots (sym (eqb-true m n e))))
