use Rattle.std.proofs.Common.{◌≡◌, ◌++◌, map, take}
use Rattle.std.specs.Fmt.{decimal}
use Rattle.bound_tree.specs.LineText.{fields_text}
use Rattle.bound_tree.specs.LineWords.{word_text}
use Rattle.bound_tree.proofs.text.begin_line.Given as goal

abbrev pub invariant-loop-count : goal.invariant-loop-count
invariant-loop-count l = l.text.items ≡ word_text l.fn.word ++ fields_text (map decimal (take l.count-index l.counts))
