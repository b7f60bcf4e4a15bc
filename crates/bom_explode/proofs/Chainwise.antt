-- Chains of lines, joined.
use Rattle.std.proofs.Common.{ℕ}
use Rattle.bom_explode.specs.Structure.{Structure}
use Rattle.bom_explode.specs.Below.{IsBelow, by_line, by_chain}

pub IsBelow-join : {s : Structure} {p m a : ℕ} → IsBelow s p m → IsBelow s m a → IsBelow s p a
IsBelow-join h (by_line l d) = by_chain l d h
IsBelow-join h (by_chain l d r) = by_chain l d (IsBelow-join h r)
