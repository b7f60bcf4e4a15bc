-- The words are split where the option begins.
use Rattle.std.specs.Prelude.{string_bytes}
use Rattle.command_words.proofs.Splits.{files_by, option_by, split_within}
use Rattle.command_words.proofs.form.split_option.Goals as goal

pub split_at-requires : goal.split_at-requires
split_at-requires c = split_within string_bytes c.args.words.now _ c.before_option.ensures

pub returns-clause-files : goal.returns-clause-files
returns-clause-files c = files_by string_bytes c.args.words.now _ _ c.before_option.ensures c.split_at.ensures.front

pub returns-clause-option : goal.returns-clause-option
returns-clause-option c = option_by string_bytes c.args.words.now _ _ c.before_option.ensures c.split_at.ensures.back
