-- The forms have different first words.
use Rattle.command_words.proofs.OneForm.{one_form}
use Rattle.command_words.proofs.laws.words_are_of_one_form.Goals as goal

pub returns : goal.returns
returns c = one_form
