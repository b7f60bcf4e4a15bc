-- What a row with its numbers, its key and its good makes of a reading.
use Rattle.std.proofs.Common.{ℕ, ◌≡◌, Bool, true, false, None, Some, Result, Ok, Err, refl, sym, subst}
use Rattle.std.specs.List.{list_any}
use Rattle.tqd_base.specs.declared.memory.Stop.{Stop}
use Rattle.tqd_base.specs.declared.memory.Stop.TheVariants.{Refused, Memory}
use Rattle.bom_reader.specs.Faults.{Answers, unless}
use Rattle.bom_reader.specs.Rows.{Row}
use Rattle.bom_reader.proofs.FirstFault.{unless-ok, unless-value, unless-err}
use Rattle.offer_reader.specs.Offers.{Wanted, good_of, supplier, part}
use Rattle.offer_reader.specs.Reading.{fields_fault, many_fault, numbers_of, priced}
use Rattle.offer_reader.specs.Steps.{ReadingData, key_in, same_key, step_fault, with_names_of}
use Rattle.offer_reader.specs.declared.fault.OfferFault.{OfferFault}
use Rattle.offer_reader.specs.declared.fault.OfferFault.TheVariants.{Twice}
use Rattle.offer_reader.specs.declared.reading.OfferNumbers.{OfferNumbers}

pub fields_stop : (wanted : Wanted) (reading : ReadingData) (at : ℕ) (row : Row) (stop : Stop OfferFault)
    → Answers {V = OfferNumbers} (Err stop) (unless (fields_fault at row) (numbers_of row)) → Answers {V = Unit {0}} (Err stop) (unless (step_fault wanted reading at row) tt)
fields_stop wanted reading at row (Refused fault) h = let is : fields_fault at row ≡ Some fault = unless-err (fields_fault at row) (numbers_of row) fault h in rw is refl
fields_stop wanted reading at row Memory h = tt

-- the numbers of a row whose fields are of their forms
pub record HasNumbers (at : ℕ) (row : Row) (numbers : OfferNumbers) : Type 0 where
  pub sound : fields_fault at row ≡ None
  pub numbers_are : numbers ≡ numbers_of row

pub has_numbers : (at : ℕ) (row : Row) (numbers : OfferNumbers) → unless (fields_fault at row) (numbers_of row) ≡ Ok numbers → HasNumbers at row numbers
has_numbers at row numbers h = record {
  sound = unless-ok (fields_fault at row) (numbers_of row) numbers h;
  numbers_are = sym (unless-value (fields_fault at row) (numbers_of row) numbers h);
}

abbrev pub repeats : ReadingData → Row → OfferNumbers → Bool
repeats reading row numbers = list_any (same_key (key_in (with_names_of reading row) row numbers.from)) reading.keys

pub row_repeats : (wanted : Wanted) (reading : ReadingData) (at : ℕ) (row : Row) (numbers : OfferNumbers) → HasNumbers at row numbers → repeats reading row numbers ≡ true
    → unless {V = Unit {0}} (step_fault wanted reading at row) tt ≡ Err (Twice at)
row_repeats wanted reading at row numbers has stood =
    let here : repeats reading row (numbers_of row) ≡ true = subst (λ (n : OfferNumbers). repeats reading row n ≡ true) has.numbers_are stood in
    rw (has.sound, here) refl

pub good_answers : (wanted : Wanted) (reading : ReadingData) (at : ℕ) (row : Row) (numbers : OfferNumbers) (good : ℕ) (r : Result (Unit {0}) (Stop OfferFault)) → HasNumbers at row numbers
    → repeats reading row numbers ≡ false → good_of wanted (part row) ≡ Some good
    → Answers r (unless (many_fault (priced reading.goods (supplier row) good numbers) (supplier row) at) tt) → Answers r (unless (step_fault wanted reading at row) tt)
good_answers wanted reading at row numbers good r has fresh named h =
    let here : repeats reading row (numbers_of row) ≡ false = subst (λ (n : OfferNumbers). repeats reading row n ≡ false) has.numbers_are fresh in
    let same = subst (λ (n : OfferNumbers). Answers r (unless (many_fault (priced reading.goods (supplier row) good n) (supplier row) at) tt)) has.numbers_are h in
    rw (has.sound, here, named) same

pub other_answers : (wanted : Wanted) (reading : ReadingData) (at : ℕ) (row : Row) (numbers : OfferNumbers) → HasNumbers at row numbers
    → repeats reading row numbers ≡ false → good_of wanted (part row) ≡ None → unless {V = Unit {0}} (step_fault wanted reading at row) tt ≡ Ok tt
other_answers wanted reading at row numbers has fresh unnamed =
    let here : repeats reading row (numbers_of row) ≡ false = subst (λ (n : OfferNumbers). repeats reading row n ≡ false) has.numbers_are fresh in
    rw (has.sound, here, unnamed) refl
