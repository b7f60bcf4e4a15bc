-- The fields of a line that are still to be read.
use Rattle.std.specs.Prelude.{ℕ, ◌≡◌, ◌<◌, ◌≤◌, ◌==◌, if◌then◌else◌, List, [], ◌∷◌, length, Option, None, Some}
use Rattle.std.specs.List.{position_or_len, before_first, after_first}
use Rattle.tqd_base.specs.World.{Bytes}
use Rattle.bound_tree.specs.declared.word.Word.{Word}
use Rattle.bound_tree.specs.declared.word.Word.TheVariants.{Row}
use Rattle.bound_tree.specs.Words.{words}
use Rattle.bound_tree.specs.LineWords.{word_of}
use denote.Ref.{Bor}

-- none, or the words of a text
abbrev pub fields_in : Option (Bor Bytes) → List Bytes
fields_in None = []
fields_in (Some text) = words text.now

-- the first of the fields that are left, where there is one, is taken
abbrev pub TakesField : List Bytes → List Bytes → Option (Bor Bytes) → Type 0
TakesField old new None = (old ≡ []) × (new ≡ [])
TakesField old new (Some field) = old ≡ field.now ∷ new

-- the fields after the slot of a row
abbrev pub after_slot : List Bytes → List Bytes
after_slot [] = []
after_slot (slot ∷ fields) = fields

-- of the fields after a word, those that write prices
abbrev pub price_fields : Word → List Bytes → List Bytes
price_fields Row fields = after_slot fields
price_fields _ fields = fields

abbrev pub price_fields_by : Option Word → List Bytes → List Bytes
price_fields_by None fields = fields
price_fields_by (Some word) fields = price_fields word fields

-- of the words of a line, those that write the prices of a row: in a `row` line those after the slot
unfoldable pub price_words : List Bytes → List Bytes
price_words [] = []
price_words (word ∷ fields) = price_fields_by (word_of word) fields

-- numbers, where there are so many of them
abbrev pub exactly : ℕ → List ℕ → Option (List ℕ)
exactly n numbers = if length numbers == n then Some numbers else None

-- a text is cut at the first byte of a kind: what stands before it, and what stands after it, where there is one
abbrev pub CutsAt : ℕ → Bytes → Bytes → Option (Bor Bytes) → Type 0
CutsAt byte text before None = (length text ≤ position_or_len (λ b. b == byte) text) × (before ≡ text)
CutsAt byte text before (Some after) = (position_or_len (λ b. b == byte) text < length text)
    × (before ≡ before_first (λ b. b == byte) text) × (after.now ≡ after_first (λ b. b == byte) text)
