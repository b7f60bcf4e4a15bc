-- The rows of a table of offers.
use Rattle.std.proofs.Common.{ℕ, ◌≡◌, ◌+◌, ◌<◌, ◌≤◌, List, [], ◌∷◌, length, get_or, take, None, Some, Ok, Err, refl, sym, ap, ◌∙◌, subst, arith}
use Rattle.std.proofs.lemmas.List.{length-take-le, take_more, take_all}
use Rattle.std.specs.Prelude.{All}
use Rattle.tqd_base.specs.declared.memory.Stop.{Stop}
use Rattle.tqd_base.specs.declared.memory.Stop.TheVariants.{Refused, Memory}
use Rattle.bom_reader.specs.Faults.{Answers, unless}
use Rattle.bom_reader.specs.Rows.{Row, row_number}
use Rattle.bom_reader.proofs.FirstFault.{unless-ok, unless-err, first_fault-at}
use Rattle.offer_reader.specs.Offers.{Wanted, offer_fault_after}
use Rattle.offer_reader.specs.Steps.{ReadingData, HasOffers, ReadsAll, step_fault, stepped}
use Rattle.offer_reader.specs.declared.fault.OfferFault.{OfferFault}
use Rattle.offer_reader.proofs.RowFacts.{fault_same, offers_more}

four_fields : (row : Row) → length row ≡ 4 → get_or row 0 [] ∷ get_or row 1 [] ∷ get_or row 2 [] ∷ get_or row 3 [] ∷ [] ≡ row
four_fields (a ∷ b ∷ c ∷ d ∷ []) four = refl
four_fields [] four = absurd (omega (arith, four))
four_fields (a ∷ []) four = absurd (omega (arith, four))
four_fields (a ∷ b ∷ []) four = absurd (omega (arith, four))
four_fields (a ∷ b ∷ c ∷ []) four = absurd (omega (arith, four))
four_fields (a ∷ b ∷ c ∷ d ∷ e ∷ more) four = absurd (omega (arith, four))

-- the texts of the fields of a row
pub record AreTexts (table : List Row) (i : ℕ) (texts : Row) : Type 0 where
  pub inside : i < length table
  pub width : All (λ row. length row ≡ 4) table
  pub texts_are : texts ≡ get_or (get_or table i []) 0 [] ∷ get_or (get_or table i []) 1 [] ∷ get_or (get_or table i []) 2 [] ∷ get_or (get_or table i []) 3 [] ∷ []

the_row : (table : List Row) (i : ℕ) (texts : Row) → AreTexts table i texts → texts ≡ get_or table i []
the_row table i texts t = t.texts_are ∙ four_fields (get_or table i []) (t.width i [] t.inside)

number_is : (table : List Row) (i : ℕ) → i < length table → row_number (take i table) ≡ i + 2
number_is table i inside = ap (λ n. n + 2) (length-take-le i table (omega arith))

pub row_read : (wanted : Wanted) (table : List Row) (i : ℕ) (texts : Row) (reading after : ReadingData) → HasOffers wanted (take i table) reading → AreTexts table i texts
    → Answers {V = Unit {0}} (Ok tt) (unless (step_fault wanted reading (i + 2) texts) tt) → after ≡ stepped wanted reading texts → HasOffers wanted (take (i + 1) table) after
row_read wanted table i texts reading after has t answer is =
    let row = the_row table i texts t in
    let none : step_fault wanted reading (i + 2) texts ≡ None = unless-ok (step_fault wanted reading (i + 2) texts) tt tt answer in
    let here : step_fault wanted reading (row_number (take i table)) (get_or table i []) ≡ None =
    ap (λ n. step_fault wanted reading n (get_or table i [])) (number_is table i t.inside) ∙ ap (λ (r : Row). step_fault wanted reading (i + 2) r) (sym row) ∙ none in
    let more = offers_more wanted (take i table) (get_or table i []) reading has here in
    let same : after ≡ stepped wanted reading (get_or table i []) = is ∙ ap (λ (r : Row). stepped wanted reading r) row in
    subst (λ (r : ReadingData). HasOffers wanted (take (i + 1) table) r) (sym same)
    (subst (λ (rows : List Row). HasOffers wanted rows (stepped wanted reading (get_or table i []))) (sym (take_more table i [] t.inside)) more)

pub row_stops : (wanted : Wanted) (table : List Row) (i : ℕ) (texts : Row) (reading : ReadingData) (stop : Stop OfferFault) → HasOffers wanted (take i table) reading → AreTexts table i texts
    → Answers {V = Unit {0}} (Err stop) (unless (step_fault wanted reading (i + 2) texts) tt) → ReadsAll wanted table (Err stop)
row_stops wanted table i texts reading (Refused fault) has t answer =
    let row = the_row table i texts t in
    let faulty : step_fault wanted reading (i + 2) texts ≡ Some fault = unless-err (step_fault wanted reading (i + 2) texts) tt fault answer in
    let here : offer_fault_after wanted (take i table) (get_or table i []) ≡ Some fault =
    sym (fault_same wanted (take i table) (get_or table i []) reading has)
    ∙ ap (λ n. step_fault wanted reading n (get_or table i [])) (number_is table i t.inside) ∙ ap (λ (r : Row). step_fault wanted reading (i + 2) r) (sym row) ∙ faulty in
    first_fault-at (offer_fault_after wanted) table i [] fault t.inside has.sound here
row_stops wanted table i texts reading Memory has t answer = tt

pub all_read : (wanted : Wanted) (table : List Row) (i : ℕ) (reading : ReadingData) → HasOffers wanted (take i table) reading → length table ≤ i → HasOffers wanted table reading
all_read wanted table i reading has past = subst (λ (rows : List Row). HasOffers wanted rows reading) (take_all i table past) has
