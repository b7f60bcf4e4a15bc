-- The text of a line, without its line feed.
use Rattle.std.specs.Prelude.{ℕ, ◌<◌, ◌^◌, List, [], ◌∷◌, ◌++◌, map, decimal, ℤ, pos, unsigned_abs}
use Rattle.std.specs.Fmt.{signed_decimal}
use Rattle.std.specs.List.{flat_map, All}
use Rattle.tqd_base.specs.World.{Bytes}
use Rattle.bound_tree.specs.declared.word.Word.{Word}
use Rattle.bound_tree.specs.declared.word.Word.TheVariants.{Header as HeaderWord, NoPlan as NoPlanWord, Plan as PlanWord, Buy as BuyWord, Split as SplitWord, Row as RowWord, Bound as BoundWord, Empty as EmptyWord, Winners as WinnersWord}
use Rattle.bound_tree.specs.declared.line.TreeLine.{TreeLine}
use Rattle.bound_tree.specs.declared.line.TreeLine.TheVariants.{Header, Header2, NoPlan, Plan, Buy, Split, Row, Bound, Empty, Winners}
use Rattle.bound_tree.specs.LineWords.{word_text}

-- fields, with a space (32) before each
abbrev pub fields_text : List Bytes → Bytes
fields_text fields = flat_map (λ field. 32 ∷ field) fields

-- a word and counts in their shortest spelling
abbrev pub counts_text : Word → List ℕ → Bytes
counts_text word counts = word_text word ++ fields_text (map decimal counts)

-- a word and prices in their shortest spelling, with `-` before one that is below 0
abbrev pub prices_text : Word → List ℤ → Bytes
prices_text word prices = word_text word ++ fields_text (map signed_decimal prices)

-- the word that a line begins with
abbrev pub line_word : TreeLine → Word
line_word Header = HeaderWord
line_word Header2 = HeaderWord
line_word NoPlan = NoPlanWord
line_word (Plan cost count) = PlanWord
line_word (Buy supplier good units) = BuyWord
line_word (Split supplier segment) = SplitWord
line_word (Row slot prices) = RowWord
line_word (Bound prices) = BoundWord
line_word (Empty prices) = EmptyWord
line_word Winners = WinnersWord

-- the numbers that stand in it, the version of the format among them
abbrev pub line_numbers : TreeLine → List ℤ
line_numbers Header = pos 1 ∷ []
line_numbers Header2 = pos 2 ∷ []
line_numbers NoPlan = []
line_numbers (Plan cost count) = pos cost ∷ pos count ∷ []
line_numbers (Buy supplier good units) = pos supplier ∷ pos good ∷ pos units ∷ []
line_numbers (Split supplier segment) = pos supplier ∷ pos segment ∷ []
line_numbers (Row slot prices) = pos slot ∷ prices
line_numbers (Bound prices) = prices
line_numbers (Empty prices) = prices
line_numbers Winners = []

-- a line: its word, and its numbers in their shortest spelling, with `-` before one that is below 0
unfoldable pub line_text : TreeLine → Bytes
line_text line = prices_text (line_word line) (line_numbers line)

-- all numbers of a line are within this limit, with either sign
abbrev pub HasNumbersBelow : ℕ → TreeLine → Type 0
HasNumbersBelow limit line = All (λ n. unsigned_abs n < limit) (line_numbers line)

-- they have at most 23 digits
abbrev pub IsSpelled : TreeLine → Type 0
IsSpelled = HasNumbersBelow (10 ^ 23)
