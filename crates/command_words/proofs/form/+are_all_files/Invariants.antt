-- It goes down the words.
use Rattle.std.proofs.Common.{length}
use Rattle.command_words.proofs.form.+are_all_files.Given as goal

abbrev pub decreases-are_all_files : goal.decreases-are_all_files
decreases-are_all_files l = length l.words.now
