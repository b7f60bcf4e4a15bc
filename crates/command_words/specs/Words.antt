-- The command that the words of a command line are.
use Rattle.std.specs.Prelude.{ℕ, ◌≡◌, ◌⊎◌, Contains, List, [], ◌∷◌, map, string_bytes, codes, Option, Some, None, option_and_then}
use Rattle.std.specs.Option.{option_copied}
use Rattle.tqd_base.specs.World.{Name}
use Rattle.command_words.specs.declared.words.JobFiles.{JobFiles}
use Rattle.command_words.specs.declared.words.Command.{Command}
use Rattle.command_words.specs.declared.words.Command.TheVariants.{Solve, Check, Needs, Make, Requote, Scenarios, Winners, BreakEven}
use Rattle.command_words.specs.declared.form.Verb.{Verb}
use Rattle.command_words.specs.declared.form.Verb.TheVariants.{Solve as OfSolve, Check as OfCheck, Needs as OfNeeds, Make as OfMake, Requote as OfRequote, Scenarios as OfScenarios, Winners as OfWinners, BreakEven as OfBreakEven}
use Rattle.command_words.specs.Forms.{file_of, files_in, number_of, option_in, verb_of}

-- the files that state a job
pub record FilesNamed : Type 0 where
  pub orders : Name
  pub bill : Option Name
  pub offers : Name
  pub terms : Option Name

-- to solve a job, with a tree or without, by so many workers; to check a tree against a job; to list the needs of
-- orders and a bill; to solve a made job with this seed and so many goods and suppliers; to solve a job from an old
-- tree, with a tree or without; to compare the least costs under each of these terms, by so many workers; to tabulate
-- least costs by the greatest number of winners, by so many workers; to find the least cut of a supplier's prices that
-- pays
pub data Asked : Type 0 where
  ToSolve : FilesNamed → Option Name → ℕ → Asked
  ToCheck : FilesNamed → Name → Asked
  ToNeed : Name → Option Name → Asked
  ToMake : ℕ → ℕ → ℕ → Asked
  ToRequote : FilesNamed → Name → Option Name → Asked
  ToCompare : FilesNamed → List (Option Name) → ℕ → Asked
  ToTabulate : FilesNamed → ℕ → Asked
  ToBreakEven : FilesNamed → Name → Asked

-- ORDERS BILL OFFERS TERMS
abbrev pub files_of : Name → Name → Name → Name → FilesNamed
files_of orders bill offers terms =
    record { orders = orders; bill = file_of bill; offers = offers; terms = file_of terms }

-- N of `--workers N`; without the option there is one worker
unfoldable pub workers_of : List Name → ℕ
workers_of (option ∷ number ∷ []) = number_of number
workers_of _ = 1

-- `scenarios ORDERS BILL OFFERS` with these words behind it: TERMS.., and the option or not
unfoldable pub compared : Name → Name → Name → List Name → Asked
compared orders bill offers words =
    ToCompare (files_of orders bill offers (codes "-")) (map file_of (files_in words)) (workers_of (option_in words))

-- what words that are of a form ask for
unfoldable pub asked_by : Verb → List Name → Option Asked
asked_by OfSolve (first ∷ orders ∷ bill ∷ offers ∷ terms ∷ tree ∷ option) =
    Some (ToSolve (files_of orders bill offers terms) (file_of tree) (workers_of option))
asked_by OfCheck (first ∷ orders ∷ bill ∷ offers ∷ terms ∷ tree ∷ []) =
    Some (ToCheck (files_of orders bill offers terms) tree)
asked_by OfNeeds (first ∷ orders ∷ bill ∷ []) = Some (ToNeed orders (file_of bill))
asked_by OfMake (first ∷ seed ∷ goods ∷ suppliers ∷ []) =
    Some (ToMake (number_of seed) (number_of goods) (number_of suppliers))
asked_by OfRequote (first ∷ orders ∷ bill ∷ offers ∷ terms ∷ old ∷ tree ∷ []) =
    Some (ToRequote (files_of orders bill offers terms) old (file_of tree))
asked_by OfScenarios (first ∷ orders ∷ bill ∷ offers ∷ words) = Some (compared orders bill offers words)
asked_by OfWinners (first ∷ orders ∷ bill ∷ offers ∷ terms ∷ option) =
    Some (ToTabulate (files_of orders bill offers terms) (workers_of option))
asked_by OfBreakEven (first ∷ orders ∷ bill ∷ offers ∷ terms ∷ supplier ∷ []) =
    Some (ToBreakEven (files_of orders bill offers terms) supplier)
asked_by _ _ = None

-- the command that the words are, or None where they are of no form
unfoldable pub command_of : List Name → Option Asked
command_of words = option_and_then (λ verb. asked_by verb words) (verb_of words)

-- a command of the code in plain data
abbrev pub files_named : JobFiles → FilesNamed
files_named files =
    record {
      orders = files.orders.now;
      bill = option_copied files.bill;
      offers = files.offers.now;
      terms =
          option_copied files.terms;
    }

abbrev pub asked : Command → Asked
asked (Solve files tree workers) = ToSolve (files_named files) (option_copied tree) workers
asked (Check files tree) = ToCheck (files_named files) tree.now
asked (Needs orders bill) = ToNeed orders.now (option_copied bill)
asked (Make seed goods suppliers) = ToMake seed goods suppliers
asked (Requote files old tree) = ToRequote (files_named files) old.now (option_copied tree)
asked (Scenarios files terms workers) =
    ToCompare (files_named files) (map (λ word. file_of (string_bytes word)) terms.now) workers
asked (Winners files workers) = ToTabulate (files_named files) workers
asked (BreakEven files supplier) = ToBreakEven (files_named files) supplier.now

-- solve ORDERS BILL OFFERS TERMS TREE, by any number of workers
pub record IsSolve (words : List Name) (files : FilesNamed) (tree : Option Name) : Type 0 where
  pub workers : ℕ
  pub words_are : command_of words ≡ Some (ToSolve files tree workers)

-- check ORDERS BILL OFFERS TERMS TREE
pub record IsCheck (words : List Name) (files : FilesNamed) (tree : Name) : Type 0 where
  pub words_are : command_of words ≡ Some (ToCheck files tree)

-- needs ORDERS BILL
pub record IsNeeds (words : List Name) (orders : Name) (bill : Option Name) : Type 0 where
  pub words_are : command_of words ≡ Some (ToNeed orders bill)

-- make SEED GOODS SUPPLIERS
pub record IsMake (words : List Name) (seed goods suppliers : ℕ) : Type 0 where
  pub words_are : command_of words ≡ Some (ToMake seed goods suppliers)

-- requote ORDERS BILL OFFERS TERMS OLD TREE
pub record IsRequote (words : List Name) (files : FilesNamed) (old : Name) (tree : Option Name) : Type 0 where
  pub words_are : command_of words ≡ Some (ToRequote files old tree)

-- scenarios ORDERS BILL OFFERS TERMS.., by any number of workers
pub record IsScenarios (words : List Name) (files : FilesNamed) (terms : List (Option Name)) : Type 0 where
  pub workers : ℕ
  pub words_are : command_of words ≡ Some (ToCompare files terms workers)

-- winners ORDERS BILL OFFERS TERMS, by any number of workers
pub record IsWinners (words : List Name) (files : FilesNamed) : Type 0 where
  pub workers : ℕ
  pub words_are : command_of words ≡ Some (ToTabulate files workers)

-- break-even ORDERS BILL OFFERS TERMS SUPPLIER
pub record IsBreakEven (words : List Name) (files : FilesNamed) (supplier : Name) : Type 0 where
  pub words_are : command_of words ≡ Some (ToBreakEven files supplier)

-- the words are of no form
abbrev pub IsNoForm : List Name → Type 0
IsNoForm words = command_of words ≡ None

-- a name of a file that states a job
abbrev pub IsFileOf : FilesNamed → Name → Type 0
IsFileOf files name =
    (name ≡ files.orders) ⊎ ((Some name ≡ files.bill) ⊎ ((name ≡ files.offers) ⊎ (Some name ≡ files.terms)))

-- a name that a command reads
abbrev pub IsReadBy : Asked → Name → Type 0
IsReadBy (ToSolve files tree workers) name = IsFileOf files name
IsReadBy (ToCheck files tree) name = IsFileOf files name ⊎ (name ≡ tree)
IsReadBy (ToNeed orders bill) name = (name ≡ orders) ⊎ (Some name ≡ bill)
IsReadBy (ToMake seed goods suppliers) name = ⊥
IsReadBy (ToRequote files old tree) name = IsFileOf files name ⊎ (name ≡ old)
IsReadBy (ToCompare files terms workers) name = IsFileOf files name ⊎ Contains terms (Some name)
IsReadBy (ToTabulate files workers) name = IsFileOf files name
IsReadBy (ToBreakEven files supplier) name = IsFileOf files name

pub record IsInput (words : List Name) (name : Name) : Type 0 where
  pub command : Asked
  pub words_are : command_of words ≡ Some command
  pub is_read : IsReadBy command name
