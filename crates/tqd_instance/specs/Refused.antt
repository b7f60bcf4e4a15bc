-- What a refusal says.
use Rattle.std.specs.Prelude.{ℕ, ◌≡◌}
use Rattle.tqd_base.specs.declared.memory.Stop.{Stop}
use Rattle.tqd_base.specs.declared.memory.Stop.TheVariants.{Refused, Memory as NoMemory}
use Rattle.tqd_instance.specs.declared.parts.JobFault.{JobFault}
use Rattle.tqd_instance.specs.declared.parts.JobFault.TheVariants.{MissingPrice}
use Rattle.tqd_instance.specs.PartsData.{PartsData}
use Rattle.tqd_instance.specs.Built.{IsFirstLack}
use Rattle.tqd_instance.specs.Rows.{IsFirstLackOf}

-- P holds of the fault, where there is one
abbrev pub IfRefused : {F : Type 0} → Stop F → (F → Type 0) → Type 0
IfRefused (Refused fault) P = P fault
IfRefused NoMemory P = Unit {0}

-- the fault is the first lack of this supplier
abbrev pub IsLackOf : PartsData → ℕ → JobFault → Type 0
IsLackOf parts i (MissingPrice supplier from k) = (supplier ≡ i) × IsFirstLackOf parts i from k
IsLackOf parts i _ = ⊥

-- the fault is the first lack of all
abbrev pub IsFirstLackFault : PartsData → JobFault → Type 0
IsFirstLackFault parts (MissingPrice i from k) = IsFirstLack parts i from k
IsFirstLackFault parts _ = ⊥
