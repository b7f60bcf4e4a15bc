use Rattle.std.proofs.Common.{ap, [], ◌++◌}
use Rattle.tqd_base.specs.World.{Bytes}
use Rattle.bound_tree.proofs.SlotTexts.{formats_apart}
use Rattle.bound_tree.proofs.laws.formats_differ.Goals as goal

pub returns : goal.returns
returns c = λ job plan other tree tree' e. formats_apart job plan other tree tree' [] [] (ap (λ (t : Bytes). t ++ []) e)
