use Rattle.std.proofs.Common.{◌<◌, arith}
use Rattle.lagrangian.specs.declared.offer.TheConstants.{ZERO, TOP}
use Rattle.lagrangian.specs.Levels.{units_under}
use Rattle.lagrangian.proofs.OfferSums.{units_under-same, units_up_to-same, units_under-mono}
use Rattle.lagrangian.proofs.LevelChoice.{balanced_at_zero, balanced_at_top, balanced_up, balanced_down}
use Rattle.lagrangian.proofs.level.balanced_level.Goals.{then-high-below, else-high-below, else-low-below-via-then-low-below+else-below-high, else-low-below-via-else-low-below}
use Rattle.lagrangian.proofs.level.balanced_level.Goals as goal

pub returns-then-below-high-clause-level : goal.returns-then-below-high-clause-level
returns-then-below-high-clause-level c =
    balanced_at_zero c.args.offers.now c.args.low c.args.high (omega (arith, c.if-low-below.true)) (omega (arith, c.if-below-high.true))

pub returns-then-units_under-low-clause-level : goal.returns-then-units_under-low-clause-level
returns-then-units_under-low-clause-level c = balanced_at_top c.args.offers.now c.args.low c.args.high (omega (arith, c.if-units_under-low.true)) (omega arith)

pub level_reaching-requires-clause-enough : goal.level_reaching-requires-clause-enough
level_reaching-requires-clause-enough c =
    let more = units_under-mono ZERO TOP c.args.offers.now (omega arith) in
    elim c.if-high-below.branch [
      | then-high-below w ↦ omega (arith, w.level_reaching-is, w.if-high-below.true)
      | else-high-below w ↦ omega (arith, w.level_reaching-is, c.if-units_under-low.false)
    ]

-- what is balanced with the offers in their old order is with those in their new one
pub returns-clause-level : goal.returns-clause-level
returns-clause-level c =
    let old = c.args.offers.now in
    let new = c.level_reaching.new.offers in
    let level = c.level_reaching.result in
    let same = c.level_reaching.ensures.same in
    let reached = c.level_reaching.ensures.reached in
    rw (units_under-same level old new same, units_up_to-same level old new same)
    (elim c.if-high-below.branch [
      | then-high-below w ↦ balanced_down old c.args.low c.args.high level (omega arith) (omega (arith, w.if-high-below.true)) (rw w.level_reaching-is at reached)
      | else-high-below w ↦
          (let few : units_under ZERO old < c.args.low = elim c.else-low-below.branch [
            | else-low-below-via-then-low-below+else-below-high v ↦ omega (arith, v.if-below-high.false, w.if-high-below.false)
            | else-low-below-via-else-low-below v ↦ omega (arith, v.if-low-below.false)
          ] in
          balanced_up old c.args.low c.args.high level (omega arith) few (rw w.level_reaching-is at reached))
    ])
