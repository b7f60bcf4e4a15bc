-- What one more read adds to what a reader has read.
use Rattle.std.proofs.Common.{◌≡◌, ℕ, Bool, true, false, List, ◌++◌, Some, Result, Ok, Err, ◌∙◌, inl, Bor}
use Rattle.std.specs.Prelude.{IfOk, OnOk, MatchResult, IsErrAnd}
use Rattle.csv.proofs.ReadFacts.{rows-end, rows-more}
use Rattle.csv.specs.Reading.{ReadRecord, Ready, default_config, reader_trim, records, took_first}
use Rattle.csv.specs.declared.parser.State.TheVariants as st
use Rattle.csv.specs.declared.reader.Reader.{Reader}
use Rattle.csv.specs.declared.reader.Trim.TheVariants as trim
use Rattle.csv_rows.specs.Reading.{HasRead, ReadsOn}
use Rattle.csv_rows.proofs.RecordCount.{records-front, records-all}

pub read-on : (text : List ℕ) (past : List (List (List ℕ))) (old new : Reader (Bor (List ℕ))) (found : Bool) (fields : List (List ℕ)) → HasRead text past old → took_first new ≡ true
    → ReadRecord (λ (bytes : Bor (List ℕ)). Some bytes.now) old new found fields → ReadsOn text past found fields new
read-on text past old new true fields h first r =
    let more = rows-more (λ (bytes : Bor (List ℕ)). Some bytes.now) old new fields default_config st.StartRecord text h.rest past h.config h.source h.reached r in
    record { trim = r.3 ∙ h.trim; ready = inl first; config = r.2 ∙ h.config; rest = more.0; source = more.1; reached = more.2 }
read-on text past old new false fields h first r =
    records-all text h.rest past old.state h.reached (rows-end (λ (bytes : Bor (List ℕ)). Some bytes.now) old new fields default_config h.rest h.config h.source r)

-- an error that became another
pub map_err-ok : {T E D : Type 0} (r : Result T E) (s : Result T D) (P : T → Type 0) (Q : E → D → Type 0) → MatchResult r (λ x. s ≡ Ok x) (λ e. IsErrAnd s (Q e)) → IfOk r P → IfOk s P
map_err-ok (Ok x) s P Q h p = rw h p
map_err-ok (Err e) (Ok y) P Q h p = absurd h
map_err-ok (Err e) (Err d) P Q h p = tt

-- what a read's clauses say together
pub reads-on : {E : Type 0} (result : Result Bool E) (old new : Reader (Bor (List ℕ))) (fields : List (List ℕ))
    → (reader_trim old ≡ trim.None → OnOk result (took_first new ≡ true))
    → IfOk result (λ found. reader_trim old ≡ trim.None → Ready old → ReadRecord (λ (bytes : Bor (List ℕ)). Some bytes.now) old new found fields)
    → IfOk result (λ found. (text : List ℕ) (past : List (List (List ℕ))) → HasRead text past old → ReadsOn text past found fields new)
reads-on (Ok found) old new fields first reads = λ text past h. read-on text past old new found fields h (first h.trim) (reads h.trim h.ready)
reads-on (Err e) old new fields first reads = tt

pub reads-front : (text : List ℕ) (past : List (List (List ℕ))) (reader : Reader (Bor (List ℕ))) → HasRead text past reader → (more : List (List (List ℕ))) × (records default_config text ≡ past ++ more)
reads-front text past reader h = records-front text h.rest past reader.state h.reached
