use Rattle.std.proofs.Common.{subst, sym, rules}
use Rattle.interval_box.specs.Halves.{IsProper}
use Rattle.bound_tree.specs.Narrowed.{IsPartOf}
use Rattle.bound_tree.proofs.HalfParts.{are_parts}
use Rattle.tree_tests.proofs.rows.narrowed.Goals as goal

pub narrowed-requires-clause-part_of_job : goal.narrowed-requires-clause-part_of_job
narrowed-requires-clause-part_of_job g c = c.halves.ensures.high_of_job c.args.job.now c.root-root.ensures.of_job

pub narrowed-requires-clause-within : goal.narrowed-requires-clause-within
narrowed-requires-clause-within g c =
    let proper : IsProper c.root-root.result 0 1 = search rules in
    subst (λ half. IsPartOf c.args.job.now half c.root-root.result) (sym c.halves.ensures.high)
    (are_parts c.args.job.now c.root-root.result 0 1 c.root-root.ensures.of_job proper).high

pub read-requires-clause-of_job : goal.read-requires-clause-of_job
read-requires-clause-of_job g c = c.halves.ensures.high_of_job c.args.job.now c.root-root.ensures.of_job
