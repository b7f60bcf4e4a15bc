use Rattle.std.proofs.Common.{rules, ◌≡◌, true}
use Rattle.tqd_instance.proofs.Froms.{formed_from}
use Rattle.tqd_instance.proofs.parts.JobParts.is_well_formed.Goals as goal

pub returns : goal.returns
returns c =
    let in_ranges : c.is_in_ranges.result ≡ true = search rules in
    let once : c.has_keys_once.result ≡ true = search rules in (
      (λ yes. formed_from c.args.self.now (c.is_in_ranges.ensures.0 in_ranges) (c.has_keys_once.ensures.0 once) (c.in_ok-few.ensures.0 yes)),
      (λ formed. c.in_ok-few.ensures.1 formed.few_intervals),
    )
