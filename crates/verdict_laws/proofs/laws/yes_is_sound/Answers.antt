use Rattle.verdict_laws.proofs.Exact.{least_only, none_only, least_sound, none_sound}
use Rattle.verdict_laws.proofs.laws.yes_is_sound.Goals as goal

pub returns : goal.returns
returns c = record {
  optimal = λ job text c e. least_sound job text c (least_only job text c e);
  none = λ job text e. none_sound job text (none_only job text e);
}
