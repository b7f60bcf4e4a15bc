-- How a reader of rows reports: by the first row with a fault.
use Rattle.std.specs.Prelude.{◌≡◌, ⊤, Bool, List, [], ◌∷◌, ◌++◌, Option, None, Some, Result, Ok, Err, if◌then◌else◌}
use Rattle.std.specs.Option.{option_or}
use Rattle.tqd_base.specs.declared.memory.Stop.{Stop}
use Rattle.tqd_base.specs.declared.memory.Stop.TheVariants.{Refused, Memory}

-- this fault where the test holds, else that of the later tests
abbrev pub fault_if : {F : Type 0} → Bool → F → Option F → Option F
fault_if test fault later = if test then Some fault else later

-- the first fault of rows, where `fault_after earlier row` is that of a row after the earlier ones
abbrev pub first_fault : {R F : Type 0} → (List R → R → Option F) → List R → List R → Option F
first_fault fault_after earlier [] = None
first_fault fault_after earlier (row ∷ rows) = option_or (fault_after earlier row) (first_fault fault_after (earlier ++ row ∷ []) rows)

-- the value, where there is no fault
abbrev pub unless : {F V : Type 0} → Option F → V → Result V F
unless None value = Ok value
unless (Some fault) value = Err fault

-- what the next step makes of the value, where there is one
abbrev pub and_then : {F V W : Type 0} → (V → Result W F) → Result V F → Result W F
and_then step (Ok value) = step value
and_then step (Err fault) = Err fault

-- a call answered this outcome, where its value is seen by `view`, or memory was wanting
abbrev pub AnswersBy : {F X V : Type 0} → (X → V) → Result X (Stop F) → Result V F → Type 0
AnswersBy view (Ok value) outcome = outcome ≡ Ok (view value)
AnswersBy view (Err (Refused fault)) outcome = outcome ≡ Err fault
AnswersBy view (Err Memory) outcome = ⊤

abbrev pub Answers : {F V : Type 0} → Result V (Stop F) → Result V F → Type 0
Answers result outcome = AnswersBy (λ value. value) result outcome
