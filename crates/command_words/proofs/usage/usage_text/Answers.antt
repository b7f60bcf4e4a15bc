-- The first line, and the others behind it.
use Rattle.command_words.specs.Forms.{usage_text}
use Rattle.command_words.proofs.FormLemmas.{joined}
use Rattle.command_words.proofs.usage.usage_text.Goals as goal

pub returns : goal.returns
unfolding usage_text
returns c = joined _ _ _ _ _ c.new-text.ensures.items c.in_ok-add_lines.ensures c.in_ok-add_lines-2.ensures
