use Rattle.verdict_laws.proofs.Exact.{least_only, none_only}
use Rattle.verdict_laws.proofs.Showing.{least_shown, none_shown}
use Rattle.verdict_laws.proofs.laws.verdicts_are_exact.Goals as goal

pub returns : goal.returns
returns c = record {
  optimal = λ job text c. (least_only job text c, least_shown job text c);
  none = λ job text. (none_only job text, none_shown job text);
}
