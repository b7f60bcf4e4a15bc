-- The text of a rejected tree. Suppliers, goods and lines are numbers, as in the tree.
use Rattle.std.specs.Prelude.{[], ◌∷◌, ◌++◌, codes, decimal}
use Rattle.std.specs.Fmt.{signed_decimal}
use Rattle.tqd_base.specs.World.{Bytes}
use Rattle.tqd_instance.specs.declared.standing.Standing.{Standing}
use Rattle.tqd_instance.specs.declared.standing.Standing.TheVariants.{Feasible, Need, Stock, Gap, Winners}
use Rattle.tree_checker.specs.declared.rejection.Rejection.{Rejection}
use Rattle.tree_checker.specs.declared.rejection.Why.{Why}
use Rattle.tree_checker.specs.declared.rejection.Why.TheVariants.{Header, PlanForm, PlanStanding, PlanCost, Line, SplitRange, RowSlot, RowLength, PriceRange, BoundWithoutPlan, BoundShort, EmptyFails, WinnersFit, EarlyEnd, Trailing}
use Rattle.plan_report.specs.Lines.{line}

-- why a plan is not feasible; a plan that is has a text too, which no checker brings about
abbrev pub standing_reason : Standing → Bytes
standing_reason (Feasible cost) = codes "feasible plan"
standing_reason (Need good sum) = codes "good " ++ decimal good ++ codes " gets " ++ decimal sum
standing_reason (Stock supplier good) = codes "supplier " ++ decimal supplier ++ codes " good " ++ decimal good ++ codes " above stock"
standing_reason (Gap supplier total) = codes "supplier " ++ decimal supplier ++ codes " total " ++ decimal total ++ codes " in no segment"
standing_reason (Winners n) = decimal n ++ codes " winners"

-- why a text of a tree is rejected
abbrev pub reason : Why → Bytes
reason Header = codes "bad header"
reason PlanForm = codes "bad plan line"
reason (PlanStanding standing) = standing_reason standing
reason (PlanCost said real) = codes "cost said " ++ decimal said ++ codes ", is " ++ decimal real
reason Line = codes "bad line"
reason SplitRange = codes "bad split"
reason (RowSlot slot) = codes "bad row slot " ++ decimal slot
reason (RowLength found wanted) = decimal found ++ codes " prices, wanted " ++ decimal wanted
reason (PriceRange value) = codes "price out of range"
reason BoundWithoutPlan = codes "bound without a plan"
reason (BoundShort value cost) = codes "value " ++ signed_decimal value ++ codes " below cost " ++ decimal cost
reason (EmptyFails value) = codes "free value " ++ signed_decimal value ++ codes " is not above 0"
reason WinnersFit = codes "winner limits can be met"
reason EarlyEnd = codes "ends early"
reason Trailing = codes "text after the tree"

-- the number of the line, from 1, and why
unfoldable pub rejection_text : Rejection → Bytes
rejection_text rejection = line (codes "rejected") (decimal rejection.line ∷ reason rejection.why ∷ [])
