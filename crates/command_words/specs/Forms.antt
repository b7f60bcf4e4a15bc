-- The forms of the words of a command line: the list of them is FORMS of the code. A word is the list of its bytes.
use Rattle.std.specs.Prelude.{ℕ, ◌-◌, Bool, true, false, not, ◌&&◌, ◌||◌, if◌then◌else◌, nat_eq, nat_le, List, [], ◌∷◌, ◌++◌, length, map, take, drop, Option, Some, None, is_some, unwrap_or, codes}
use Rattle.std.specs.List.{find, flat_map, list_all}
use Rattle.std.specs.Option.{option_map}
use Rattle.money.specs.Number.{qty_of}
use Rattle.tqd_base.specs.declared.limits.TheConstants.{WORKERS_MAX}
use Rattle.tqd_base.specs.World.{Name, Bytes}
use Rattle.command_words.specs.declared.word.TheConstants.{SEED_MAX}
use Rattle.command_words.specs.declared.form.TheConstants.{FORMS}
use Rattle.command_words.specs.declared.form.Field.{Field}
use Rattle.command_words.specs.declared.form.Behind.{Behind}
use Rattle.command_words.specs.declared.form.Behind.TheVariants.{Nothing, Workers, Files}
use Rattle.command_words.specs.declared.form.Field.TheVariants.{File, FileOrNone, Name as NameField, Number}
use Rattle.std.specs.Borrow.{Bor}
use Rattle.command_words.specs.declared.form.Verb.{Verb}
use Rattle.command_words.specs.Text.{same}

-- a form: what it asks for, its first word, the fields behind it, what may stand behind them, and how the usage shows
-- what stands behind the first word
pub record Form : Type 0 where
  pub verb : Verb
  pub word : Bytes
  pub fields : List Field
  pub behind : Behind
  pub usage : Bytes

-- a row of a table of forms
abbrev pub form_of : Verb × Bor Bytes × Bor (List Field) × Behind × Bor Bytes → Form
form_of row = record { verb = row.0; word = row.1.now; fields = row.2.now; behind = row.3; usage = row.4.now }

-- all forms
abbrev pub forms : List Form
forms =
    map (λ row. record { verb = row.0; word = row.1.now; fields = row.2.now; behind = row.3; usage = row.4.now })
    FORMS

-- the file that a word names, if it names one
unfoldable pub file_of : Name → Option Name
file_of word = if same word [] || same word (codes "-") then None else Some word

-- the number that a word writes; 0 where it writes none
unfoldable pub number_of : Name → ℕ
number_of word = unwrap_or (qty_of 0 SEED_MAX word) 0

-- whether a word may stand for a field
unfoldable pub stands_for : Field → Name → Bool
stands_for File word = is_some (file_of word)
stands_for FileOrNone word = not (same word [])
stands_for NameField word = not (same word [])
stands_for (Number least greatest) word = is_some (qty_of least greatest word)

-- whether words are none, or the option of workers
unfoldable pub is_option : List Name → Bool
is_option [] = true
is_option (option ∷ number ∷ []) = same option (codes "--workers") && stands_for (Number 1 WORKERS_MAX) number
is_option _ = false

-- whether words are two that call for the option
unfoldable pub is_called : List Name → Bool
is_called (option ∷ number ∷ []) = same option (codes "--workers")
is_called _ = false

-- how many of some words stand before the option: all but the last two, where these call for it
unfoldable pub before_option : List Name → ℕ
before_option words = if is_called (drop (length words - 2) words) then length words - 2 else length words

-- the words before it, and the option or nothing
unfoldable pub files_in : List Name → List Name
files_in words = take (before_option words) words

unfoldable pub option_in : List Name → List Name
option_in words = drop (before_option words) words

-- whether words are files, from one to so many, each of which may be `-`
unfoldable pub are_files : ℕ → List Name → Bool
are_files most words =
    nat_le 1 (length words) && nat_le (length words) most && list_all (λ word. stands_for FileOrNone word) words

-- whether words may stand behind the fields
unfoldable pub is_behind : Behind → List Name → Bool
is_behind Nothing words = nat_eq (length words) 0
is_behind Workers words = is_option words
is_behind (Files most) words = are_files most (files_in words) && is_option (option_in words)

-- whether words stand for fields, one for each, with what may stand behind them
unfoldable pub stand_for : Behind → List Field → List Name → Bool
stand_for behind [] rest = is_behind behind rest
stand_for behind (field ∷ others) [] = false
stand_for behind (field ∷ others) (first ∷ rest) = stands_for field first && stand_for behind others rest

-- whether words are of a form: first its word, and then its fields
unfoldable pub is_of : Form → List Name → Bool
is_of form [] = false
is_of form (first ∷ rest) = same first form.word && stand_for form.behind form.fields rest

-- what the first of some forms that words are of asks for
abbrev pub verb_in : List Form → List Name → Option Verb
verb_in some words = option_map (λ (form : Form). form.verb) (find (λ form. is_of form words) some)

-- and of all forms, of which words are of one at most
unfoldable pub verb_of : List Name → Option Verb
verb_of words = verb_in forms words

-- the usage has a line for each form
abbrev pub usage_line : Bytes → Form → Bytes
usage_line before form = before ++ codes "tqd " ++ form.word ++ codes " " ++ form.usage ++ 10 ∷ []

unfoldable pub usage_text : Bytes
usage_text =
    flat_map (usage_line (codes "usage: ")) (take 1 forms) ++ flat_map (usage_line (codes "       ")) (drop 1 forms)
