-- What a line of a tree says. Counts and prices are read as the shortest spellings of whole numbers of up to 23 digits.
use Rattle.std.specs.Prelude.{ℕ, ◌==◌, nat_le, if◌then◌else◌, List, [], ◌∷◌, length, Option, None, Some}
use Rattle.std.specs.Option.{option_map, option_and_then}
use Rattle.tqd_base.specs.World.{Bytes}
use Rattle.tqd_base.specs.declared.limits.TheConstants.{LINE_MAX}
use Rattle.money.specs.Number.{count_of, signed_of}
use Rattle.bound_tree.specs.declared.word.Word.{Word}
use Rattle.bound_tree.specs.declared.word.Word.TheVariants.{Header as HeaderWord, NoPlan as NoPlanWord, Plan as PlanWord, Buy as BuyWord, Split as SplitWord, Row as RowWord, Bound as BoundWord, Empty as EmptyWord, Winners as WinnersWord}
use Rattle.bound_tree.specs.declared.line.TreeLine.{TreeLine}
use Rattle.bound_tree.specs.declared.line.TreeLine.TheVariants.{Header, Header2, NoPlan, Plan, Buy, Split, Row, Bound, Empty, Winners}
use Rattle.bound_tree.specs.Words.{words, numbers_of}
use Rattle.bound_tree.specs.LineWords.{word_of}

-- the header of a format, by its version
abbrev pub header_by : ℕ → Option TreeLine
header_by version = if version == 1 then Some Header else if version == 2 then Some Header2 else None

-- a word and counts: the version of the format, which is 1 or 2; the cost of the plan and the number of its `buy` lines; a
-- supplier, a good and the units of it; a supplier and a segment
unfoldable pub read_counts : Word → List ℕ → Option TreeLine
read_counts HeaderWord (version ∷ []) = header_by version
read_counts NoPlanWord [] = Some NoPlan
read_counts PlanWord (cost ∷ count ∷ []) = Some (Plan cost count)
read_counts BuyWord (supplier ∷ good ∷ units ∷ []) = Some (Buy supplier good units)
read_counts SplitWord (supplier ∷ segment ∷ []) = Some (Split supplier segment)
read_counts WinnersWord [] = Some Winners
read_counts _ _ = None

-- the slot of a row and its prices
abbrev pub read_row : List Bytes → Option TreeLine
read_row [] = None
read_row (slot ∷ prices) = option_and_then (λ n. option_map (Row n) (numbers_of signed_of prices)) (count_of slot)

-- a word and fields: prices after `bound` and `empty`, a slot and prices after `row`, counts after any other word
unfoldable pub read_as : Word → List Bytes → Option TreeLine
read_as RowWord fields = read_row fields
read_as BoundWord fields = option_map Bound (numbers_of signed_of fields)
read_as EmptyWord fields = option_map Empty (numbers_of signed_of fields)
read_as word fields = option_and_then (read_counts word) (numbers_of count_of fields)

abbrev pub read_words : List Bytes → Option TreeLine
read_words [] = None
read_words (word ∷ fields) = option_and_then (λ w. read_as w fields) (word_of word)

-- a line of any length
unfoldable pub read_text : Bytes → Option TreeLine
read_text line = read_words (words line)

-- a line of at most 65,536 bytes; a longer one is none of a tree
unfoldable pub read_line : Bytes → Option TreeLine
read_line line = if nat_le (length line) LINE_MAX then read_text line else None
