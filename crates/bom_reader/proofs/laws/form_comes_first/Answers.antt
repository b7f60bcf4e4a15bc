use Rattle.bom_reader.proofs.FormLaws.{form_comes_first as holds}
use Rattle.bom_reader.proofs.laws.form_comes_first.Goals as goal

pub returns : goal.returns
returns c = holds
