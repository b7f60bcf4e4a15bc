-- What is below what in a bill, and circles.
use Rattle.std.specs.Prelude.{ℕ, ◌≡◌, ◌<◌, ◌≤◌}
use Rattle.bom_explode.specs.Structure.{Structure}

-- line l leads from the assembly a to the part p
pub record Leads (s : Structure) (l a p : ℕ) : Type 0 where
  pub inside : l < s.lines
  pub from : s.assembly l ≡ a
  pub to : s.part l ≡ p

-- p is below a: a chain of lines, at least one, leads from a, as assembly, down to p, as part
pub data IsBelow (s : Structure) (p : ℕ) : ℕ → Type 0 where
  by_line : {a : ℕ} (l : ℕ) → Leads s l a p → IsBelow s p a
  by_chain : {a m : ℕ} (l : ℕ) → Leads s l a m → IsBelow s p m → IsBelow s p a

-- no name is below itself
abbrev pub HasNoCircle : Structure → Type 0
HasNoCircle s = (n : ℕ) → IsBelow s n n → ⊥

-- n is the least name that is below itself
pub record IsLeastOnCircle (s : Structure) (n : ℕ) : Type 0 where
  pub inside : n < s.names
  pub below_itself : IsBelow s n n
  pub least : (m : ℕ) → IsBelow s m m → n ≤ m
