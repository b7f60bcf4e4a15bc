-- The words that lines begin with.
use Rattle.std.specs.Prelude.{List, [], ◌∷◌, codes, find, Option}
use Rattle.std.specs.Str.{bytes_eq}
use Rattle.tqd_base.specs.World.{Bytes}
use Rattle.bound_tree.specs.declared.word.Word.{Word}
use Rattle.bound_tree.specs.declared.word.Word.TheVariants.{Header, NoPlan, Plan, Buy, Split, Row, Bound, Empty, Winners}

abbrev pub word_text : Word → Bytes
word_text Header = codes "tqd-tree"
word_text NoPlan = codes "none"
word_text Plan = codes "plan"
word_text Buy = codes "buy"
word_text Split = codes "split"
word_text Row = codes "row"
word_text Bound = codes "bound"
word_text Empty = codes "empty"
word_text Winners = codes "winners"

abbrev pub all_words : List Word
all_words = Header ∷ NoPlan ∷ Plan ∷ Buy ∷ Split ∷ Row ∷ Bound ∷ Empty ∷ Winners ∷ []

-- the word that a text is, if it is one
unfoldable pub word_of : Bytes → Option Word
word_of text = find (λ word. bytes_eq text (word_text word)) all_words
