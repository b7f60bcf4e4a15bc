use Rattle.bom_explode.proofs.Agreeing.{answers_agree}
use Rattle.bom_explode.proofs.laws.answers_agree.Goals as goal

pub returns : goal.returns
returns c = answers_agree
