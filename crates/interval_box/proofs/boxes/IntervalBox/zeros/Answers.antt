use Rattle.interval_box.proofs.Root.{zeros_are}
use Rattle.interval_box.proofs.boxes.IntervalBox.zeros.Goals as goal

pub returns : goal.returns
returns c = zeros_are
