-- Where a reader stands in a text of records.
use Rattle.std.specs.Prelude.{◌≡◌, ℕ, Bool, true, false, List, [], ◌∷◌, ◌++◌, Some}
use Rattle.std.specs.Borrow.{Bor}
use Rattle.csv.specs.Reading.{Reached, Ready, default_config, reader_config, reader_state, reader_trim, records, source_of}
use Rattle.csv.specs.declared.parser.State.TheVariants as st
use Rattle.csv.specs.declared.reader.Reader.{Reader}
use Rattle.csv.specs.declared.reader.Trim.TheVariants as trim

-- the reader has read these records of the text, and reads on
pub record HasRead (text : List ℕ) (past : List (List (List ℕ))) (reader : Reader (Bor (List ℕ))) : Type 0 where
  pub trim : reader_trim reader ≡ trim.None
  pub ready : Ready reader
  pub config : reader_config reader ≡ default_config
  pub rest : List ℕ
  pub source : source_of (λ bytes. Some bytes.now) reader ≡ Some rest
  pub reached : Reached default_config st.StartRecord text past (reader_state reader) rest

-- a read found one more record, or none, and then the records of the text are those before
abbrev pub ReadsOn : List ℕ → List (List (List ℕ)) → Bool → List (List ℕ) → Reader (Bor (List ℕ)) → Type 0
ReadsOn text past true fields reader = HasRead text (past ++ fields ∷ []) reader
ReadsOn text past false fields reader = records default_config text ≡ past
