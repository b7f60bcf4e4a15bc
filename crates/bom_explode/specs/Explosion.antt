-- What an explosion answers.
use Rattle.std.specs.Prelude.{ℕ, ◌<◌, ◌≤◌, ⊤, Result, Ok, Err}
use Rattle.tqd_base.specs.declared.limits.TheConstants.{QTY_MAX}
use Rattle.tqd_base.specs.declared.memory.Stop.{Stop}
use Rattle.tqd_base.specs.declared.memory.Stop.TheVariants.{Refused, Memory}
use Rattle.bom_explode.specs.declared.fault.ExplodeFault.{ExplodeFault}
use Rattle.bom_explode.specs.declared.fault.ExplodeFault.TheVariants.{Circle, NeedRange}
use Rattle.bom_explode.specs.Structure.{Structure}
use Rattle.bom_explode.specs.Below.{HasNoCircle, IsLeastOnCircle}
use Rattle.bom_explode.specs.Needs.{Solves, AreGoods, IsLeastAbove, Needed}

-- no name is below itself, and some name needs more than can be counted: n is the least
pub record IsTooMuch (s : Structure) (n : ℕ) : Type 0 where
  pub no_circle : HasNoCircle s
  pub need : ℕ → ℕ
  pub solves : Solves s need
  pub above : IsLeastAbove s need n

-- no name is below itself, no need is too great to count, and these are the goods with their needs
pub record IsExploded (s : Structure) (needs : Needed) : Type 0 where
  pub no_circle : HasNoCircle s
  pub need : ℕ → ℕ
  pub solves : Solves s need
  pub counted : (n : ℕ) → n < s.names → need n ≤ QTY_MAX
  pub goods : AreGoods s need needs.goods needs.units

-- the answers of `explode`: of the three facts at most one holds, and of one answer alone
abbrev pub Explodes : Structure → Result Needed (Stop ExplodeFault) → Type 0
Explodes s (Ok needs) = IsExploded s needs
Explodes s (Err (Refused (Circle n))) = IsLeastOnCircle s n
Explodes s (Err (Refused (NeedRange n))) = IsTooMuch s n
Explodes s (Err Memory) = ⊤
