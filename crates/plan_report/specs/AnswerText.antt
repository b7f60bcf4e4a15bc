-- The texts of answers that are one line.
use Rattle.std.specs.Prelude.{ℕ, Option, Some, None, [], ◌∷◌, codes, decimal}
use Rattle.money.specs.Price.{cost_text}
use Rattle.tqd_base.specs.World.{Bytes}
use Rattle.break_even.specs.declared.cut.CutAnswer.{CutAnswer}
use Rattle.break_even.specs.declared.cut.CutAnswer.TheVariants.{NoPurchase, NoCut, Cut}
use Rattle.plan_report.specs.Lines.{line}

-- no purchase is feasible
unfoldable pub infeasible_text : Bytes
infeasible_text = line (codes "infeasible") []

-- a tree certifies this least cost, or that no purchase is feasible
unfoldable pub accepted_text : Option ℕ → Bytes
accepted_text (Some cost) = line (codes "accepted") (cost_text cost ∷ [])
accepted_text None = line (codes "accepted") (codes "none" ∷ [])

-- a made job and its least cost
unfoldable pub summary_text : ℕ → ℕ → ℕ → ℕ → Bytes
summary_text seed goods suppliers cost = line (codes "made") (decimal seed ∷ decimal goods ∷ decimal suppliers ∷ cost_text cost ∷ [])

-- by how many thousandths a supplier's prices must fall before a least purchase costs less: the supplier's name, the cut, and
-- the least cost without it and with it; or none, and the least cost. Where no purchase is feasible that is all that is said
unfoldable pub break_even_text : Bytes → CutAnswer → Bytes
break_even_text name NoPurchase = infeasible_text
break_even_text name (NoCut before) = line (codes "break-even") (name ∷ codes "none" ∷ cost_text before ∷ [])
break_even_text name (Cut cut before after) = line (codes "break-even") (name ∷ decimal cut ∷ cost_text before ∷ cost_text after ∷ [])
