use Rattle.std.proofs.Common.{ℕ, arith}
use Rattle.tqd_instance.specs.Job.{price}
use Rattle.tqd_instance.proofs.Jobs.{job_in_range}
use Rattle.branching.proofs.LeastPrices.{high_few, first_is, least_begins, least_goes_on, relaxed_price-is}
use Rattle.branching.proofs.gap.relaxed_price.Goals as goal

pub low_of-requires : goal.low_of-requires
low_of-requires c = omega (arith, (job_in_range c.args.job.now).few_suppliers)

pub overflow_step-j : goal.overflow_step-j
overflow_step-j c = omega (arith, high_few c.args.job.now c.args.area.now c.args.i c.requires.of_job c.requires.supplier, (c.requires.of_job.ranges c.args.i c.requires.supplier).ordered)

pub high_of-j-end-requires : goal.high_of-j-end-requires
high_of-j-end-requires c = omega (arith, (job_in_range c.args.job.now).few_suppliers)

pub overflow_add-j-end : goal.overflow_add-j-end
overflow_add-j-end c = omega (arith, high_few c.args.job.now c.args.area.now c.args.i c.requires.of_job c.requires.supplier)

pub loop-j-init : goal.loop-j-init
loop-j-init c =
    let f = λ (j : ℕ). price c.args.job.now c.args.i j c.args.k in
    record {
      is_least = least_begins f c.max-first.result c.price-least.result c.price-least.ensures.value;
      within = c.price-least.ensures.within;
    }

pub loop-j-preserved : goal.loop-j-preserved
loop-j-preserved c =
    let f = λ (j : ℕ). price c.args.job.now c.args.i j c.args.k in
    record {
      is_least = least_goes_on f c.max-first.result c.loop-j.j c.loop-j.least c.price.result c.min-least.result c.loop-j.invariant.is_least c.price.ensures.value (omega arith);
      within = omega (arith, c.loop-j.invariant.within);
    }

pub returns-clause-value : goal.returns-clause-value
returns-clause-value c =
    relaxed_price-is c.args.job.now c.args.area.now c.args.i c.args.k c.max-first.result c.loop-j.j c.loop-j.least (first_is c.args.area.now c.args.i c.low_of.result c.max-first.result c.low_of.ensures c.max-first.ensures)
    (omega (arith, c.loop-j.invariant.is_least.some, (c.requires.of_job.ranges c.args.i c.requires.supplier).ordered)) c.loop-j.invariant.is_least

pub returns-clause-least : goal.returns-clause-least
returns-clause-least c = λ j from to. c.loop-j.invariant.is_least.least j (omega (arith, first_is c.args.area.now c.args.i c.low_of.result c.max-first.result c.low_of.ensures c.max-first.ensures)) (omega arith)
