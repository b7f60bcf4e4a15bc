use Rattle.std.proofs.Common.{◌≡◌, ◌+◌, ◌-◌, ◌*◌, ◌∙◌, ap₂, arith}
use Rattle.std.proofs.lemmas.Int.{ints}
use Rattle.std.proofs.lemmas.Nat.{mul-le}
use Rattle.lagrangian.proofs.PriceReads.{worth_computed}
use Rattle.lagrangian.proofs.place.worth_at.Goals as goal

pub returns : goal.returns
returns c =
    let paid = mul-le c.from-2.result c.from-3.result 4000000000000000 100000000 (omega arith) (omega arith) in
    let saved = mul-le c.from-4.result c.from-5.result 4000000000000000 100000000 (omega arith) (omega arith) in
    let a : c.from-2.result * c.from-3.result ≡ (c.args.level - 4000000000000000) * c.args.low = ap₂ (λ x y. x * y) (c.from-2.ensures ∙ c.saturating_sub.ensures) c.from-3.ensures in
    let b : c.from-4.result * c.from-5.result ≡ (4000000000000000 - c.args.level) * c.args.high = ap₂ (λ x y. x * y) (c.from-4.ensures ∙ c.saturating_sub-2.ensures) c.from-5.ensures in
    let is = worth_computed (c.from.result + c.from-2.result * c.from-3.result) (c.losses.result + c.from-4.result * c.from-5.result) (omega arith) (omega arith) in
    record { value = is.0 ∙ omega (arith, ints); in_range = is.1 }
