use Rattle.std.specs.Prelude.{ℕ, ◌≡◌, ◌≢◌, ◌<◌, Result, Err}
use Rattle.bom_explode.specs.Structure.{Structure, IsStructure}
use Rattle.bom_explode.specs.Below.{HasNoCircle}
use Rattle.bom_explode.specs.Needs.{Solves, Needed}
use Rattle.tqd_base.specs.declared.memory.Stop.{Stop}
use Rattle.tqd_base.specs.declared.memory.Stop.TheVariants.{Memory}
use Rattle.bom_explode.specs.declared.fault.ExplodeFault.{ExplodeFault}
use Rattle.bom_explode.specs.Explosion.{Explodes}

-- a bill without a circle has needs
abbrev pub NeedsExist : Type 0
NeedsExist = (s : Structure) → IsStructure s → HasNoCircle s → (need : ℕ → ℕ) × Solves s need

-- and no others
abbrev pub NeedsAgree : Type 0
NeedsAgree = (s : Structure) → IsStructure s → HasNoCircle s → (x y : ℕ → ℕ) → Solves s x → Solves s y
    → (n : ℕ) → n < s.names → x n ≡ y n

-- two answers about one bill are the same, where memory was not wanting
abbrev pub AnswersAgree : Type 0
AnswersAgree = (s : Structure) → IsStructure s → (x y : Result Needed (Stop ExplodeFault)) → Explodes s x → Explodes s y
    → x ≢ Err Memory → y ≢ Err Memory → x ≡ y
