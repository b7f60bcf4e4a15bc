use Rattle.std.proofs.Common.{ℕ, ◌≡◌, ◌≤◌, arith, sym, subst}
use Rattle.tqd_instance.specs.PartsData.{PartsData}
use Rattle.tqd_instance.specs.declared.parts.JobFault.{JobFault}
use Rattle.tqd_instance.specs.declared.parts.JobFault.TheVariants.{TooManyGoods, MissingPrice, ShareOrder, WinnerOrder}
use Rattle.tqd_instance.specs.Built.{Passes, Refuses}
use Rattle.order_gen.specs.Draws.{first_state}
use Rattle.order_gen.specs.GenParts.{parts_from}
use Rattle.order_gen.proofs.Made.{IsMade, starts_of, parts_made}
use Rattle.order_gen.specs.GenParts.{parts_from}
use Rattle.order_gen.proofs.MadeForm.{made_formed, made_passes}
use Rattle.order_gen.proofs.FirstSupplier.{from_first, first_feasible}
use Rattle.order_gen.proofs.make.make_job.Goals as goal

made : (parts : PartsData) (seed goods suppliers : ℕ) → parts ≡ parts_from (first_state seed) goods suppliers
    → 1 ≤ goods → goods ≤ 1000 → 1 ≤ suppliers → suppliers ≤ 64 → IsMade (starts_of (first_state seed) goods suppliers) parts
made parts seed goods suppliers is some_goods few_goods some_suppliers few_suppliers =
    subst (IsMade (starts_of (first_state seed) goods suppliers)) (sym is)
    (parts_made (first_state seed) goods suppliers some_goods few_goods some_suppliers few_suppliers)

pub build-requires : goal.build-requires
build-requires c =
    made_formed (starts_of (first_state c.args.seed) c.args.goods c.args.suppliers) c.in_ok-parts.parts
    (made c.in_ok-parts.parts c.args.seed c.args.goods c.args.suppliers c.in_ok-parts.ensures c.requires.some_goods c.requires.few_goods
    c.requires.some_suppliers c.requires.few_suppliers)

pub returns-in-Ok-clause-purchase : goal.returns-in-Ok-clause-purchase
returns-in-Ok-clause-purchase c = (
  from_first c.in-Ok.job,
  first_feasible (starts_of (first_state c.args.seed) c.args.goods c.args.suppliers) c.in_ok-parts.parts c.in-Ok.job
      (made c.in_ok-parts.parts c.args.seed c.args.goods c.args.suppliers c.in_ok-parts.ensures c.requires.some_goods c.requires.few_goods
      c.requires.some_suppliers c.requires.few_suppliers) c.in-Ok.ensures.job,
)

-- parts that pass every test are not refused
not_refused : (parts : PartsData) (fault : JobFault) → Passes parts → Refuses parts fault → ⊥
not_refused parts (TooManyGoods n) p r = omega (arith, p.few_goods, r.0, r.1)
not_refused parts (MissingPrice i from k) p r = p.prices i from k r.1.lacks
not_refused parts (ShareOrder i) p r = p.shares i r.2.bad
not_refused parts WinnerOrder p r = omega (arith, p.winners, r.3)

pub unreachable-requires : goal.unreachable-requires
unreachable-requires c =
    not_refused c.in_ok-parts.parts c.in-Err-Refused.field-0-0
    (made_passes (starts_of (first_state c.args.seed) c.args.goods c.args.suppliers) c.in_ok-parts.parts
    (made c.in_ok-parts.parts c.args.seed c.args.goods c.args.suppliers c.in_ok-parts.ensures c.requires.some_goods c.requires.few_goods
    c.requires.some_suppliers c.requires.few_suppliers))
    (rw c.in-Err-Refused.field-0-is at c.in-Err-Refused.ensures.refused)
