-- A list of fields as rows of one width.
use Rattle.std.proofs.Common.{◌≡◌, ◌<◌, ◌≤◌, ◌+◌, ◌*◌, ℕ, zero, suc, List, [], ◌∷◌, ◌++◌, length, take, drop, get_or, refl, ap, append_assoc, sym, ◌∙◌, arith}
use Rattle.std.proofs.lemmas.List.{take_all, take-append-le, drop-append-le, drop-drop, get_or-take, get_or-drop, length-drop, length-take, take_more}
use Rattle.std.proofs.Math.Nat.{suc-mul, zero-mul, add_comm}
use Rattle.csv_rows.specs.Rows.{rows_of}

pub rows-length : (width count : ℕ) (fields : List (List ℕ)) → length (rows_of width count fields) ≡ count
rows-length width zero fields = refl
rows-length width (suc count) fields = ap suc (rows-length width count (drop width fields))

-- the fields of one more row
pub rows-more : (width count : ℕ) (fields row : List (List ℕ)) → length fields ≡ count * width → length row ≡ width → rows_of width (suc count) (fields ++ row) ≡ rows_of width count fields ++ row ∷ []
rows-more width zero [] row long wide = ap (λ (r : List (List ℕ)). r ∷ []) (take_all width row (omega (arith, wide)))
rows-more width zero (f ∷ fs) row long wide = absurd (omega (arith, long))
rows-more width (suc count) fields row long wide =
    let whole : length fields ≡ count * width + width = long ∙ suc-mul count width in
    let enough : width ≤ length fields = omega (arith, whole) in
    let left : length (drop width fields) ≡ count * width = omega (arith, length-drop width fields, whole) in
    rw (take-append-le width fields row enough, drop-append-le width fields row enough, rows-more width count (drop width fields) row left wide) refl

-- a row is the fields at its place
rows-at : (width count i : ℕ) (fields : List (List ℕ)) → i < count → get_or (rows_of width count fields) i [] ≡ take width (drop (i * width) fields)
rows-at width zero i fields inside = absurd (omega arith)
rows-at width (suc count) zero fields inside = let front : 0 * width ≡ 0 = zero-mul width in rw front refl
rows-at width (suc count) (suc i) fields inside =
    let place : width + i * width ≡ suc i * width = add_comm width (i * width) ∙ sym (suc-mul i width) in
    rows-at width count i (drop width fields) (omega arith) ∙ ap (take width) (drop-drop (i * width) width fields ∙ ap (λ (n : ℕ). drop n fields) place)

-- a field of a row stands among the fields
pub row-inside : (width count i j : ℕ) (fields : List (List ℕ)) → i < count → j < length (get_or (rows_of width count fields) i []) → i * width + j < length fields
row-inside width count i j fields inside short =
    let there : j < length (take width (drop (i * width) fields)) = rw (rows-at width count i fields inside) at short in
    omega (arith, there, length-take width (drop (i * width) fields), length-drop (i * width) fields)

pub row-field : (width count i j : ℕ) (fields : List (List ℕ)) → i < count → j < length (get_or (rows_of width count fields) i []) → get_or (get_or (rows_of width count fields) i []) j [] ≡ get_or fields (i * width + j) []
row-field width count i j fields inside short =
    let there : j < length (take width (drop (i * width) fields)) = rw (rows-at width count i fields inside) at short in
    let within : j < width = omega (arith, there, length-take width (drop (i * width) fields)) in
    ap (λ (r : List (List ℕ)). get_or r j []) (rows-at width count i fields inside)
    ∙ (get_or-take width (drop (i * width) fields) j [] within ∙ get_or-drop (i * width) fields j [])

-- fields before those of a row, and one more of these
pub field-more : (before all after row : List (List ℕ)) (field : List ℕ) (i : ℕ) → all ≡ before ++ take i row → after ≡ all ++ field ∷ [] → field ≡ get_or row i [] → i < length row → after ≡ before ++ take (i + 1) row
field-more before all after row field i is pushed read inside =
    rw (take_more row i [] inside) (pushed ∙ rw (is, read) (append_assoc before (take i row) (get_or row i [] ∷ [])))

-- the same of a table that is these rows
pub field-inside : (width count i j : ℕ) (fields : List (List ℕ)) (table : List (List (List ℕ))) → rows_of width count fields ≡ table → i < length table → j < length (get_or table i []) → i * width + j < length fields
field-inside width count i j fields table is inside short =
    let fewer : i < count = omega (arith, inside, ap length is, rows-length width count fields) in
    row-inside width count i j fields fewer (rw (← is) at short)

pub field-value : (width count i j : ℕ) (fields : List (List ℕ)) (table : List (List (List ℕ))) → rows_of width count fields ≡ table → i < length table → j < length (get_or table i [])
    → get_or (get_or table i []) j [] ≡ get_or fields (i * width + j) []
field-value width count i j fields table is inside short =
    let fewer : i < count = omega (arith, inside, ap length is, rows-length width count fields) in
    rw (← is) (row-field width count i j fields fewer (rw (← is) at short))
