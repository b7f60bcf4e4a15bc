-- What each form asks for is a command.
use Rattle.command_words.proofs.Ranges.{command_where}
use Rattle.command_words.proofs.laws.words_of_a_form_are_a_command.Goals as goal

pub returns : goal.returns
returns c = command_where
