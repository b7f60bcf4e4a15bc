-- The ends of rows as pairs of numbers.
use Rattle.std.proofs.Common.{◌≡◌, ℕ, Bool, true, false, cond, eqb, ◌&&◌, ◌||◌, ◌∙◌, Ordering, List, [], ◌∷◌, ◌++◌, map, refl, sym}
use Rattle.std.proofs.lemmas.Bool.{eq-eqb, eqb-true, ne_eqb, false≢true}
use Rattle.std.proofs.lemmas.List.Concat.{flat_map-append}
use Rattle.std.proofs.lemmas.List.Elements.{All-nil, All-cons, All-head, All-tail}
use Rattle.std.proofs.lemmas.List.Sums.{fold-append}
use Rattle.std.proofs.lemmas.List.Folds.{list_any-append}
use Rattle.std.specs.BTreeMap.{is_at}
use Rattle.std.specs.BTreeSet.{BTreeSet, IsEmpty, contains}
use Rattle.std.specs.Cmp.{unsigned_tied}
use Rattle.std.specs.Ordering.{is_eq, nat_cmp, ordering_then}
use Rattle.std.specs.declared.cmp.Ordering.TheVariants.{Less, Equal, Greater}
use Rattle.std.specs.Prelude.{All}
use Rattle.std.specs.List.{list_any}
use Rattle.bom_reader.specs.Names.{has_name, with_name, with_names}
use Rattle.bom_reader.specs.Rows.{Row}
use Rattle.bom_reader.specs.Lines.{assembly, part, ends_of, names_in, line_of, same_ends}
use Rattle.bom_reader.specs.declared.line.Line.{Line}
use Rattle.bom_reader.proofs.NamePlaces.{has_name-added, has_name-stays, has_name-stays_all, place-stays_all, same-places}

-- both ends of the row are among the names
abbrev pub IsKnown : List (List ℕ) → Row → Type 0
IsKnown names row = (has_name names (assembly row) ≡ true) × (has_name names (part row) ≡ true)

pub known-own : (names : List (List ℕ)) (row : Row) → IsKnown (with_names names (ends_of row)) row
known-own names row = (has_name-stays (with_name names (assembly row)) (assembly row) (part row) (has_name-added names (assembly row)), has_name-added (with_name names (assembly row)) (part row))

pub known-stays : (names more : List (List ℕ)) (row : Row) → IsKnown names row → IsKnown (with_names names more) row
known-stays names more row known = (has_name-stays_all names (assembly row) more known.0, has_name-stays_all names (part row) more known.1)

-- the names in rows, once they are added
pub names-append : (names : List (List ℕ)) (rows more : List Row) → with_names names (names_in (rows ++ more)) ≡ with_names (with_names names (names_in rows)) (names_in more)
names-append names rows more = rw (flat_map-append ends_of rows more) (fold-append with_name names (names_in rows) (names_in more))

pub known-all : (names : List (List ℕ)) (rows : List Row) → All (IsKnown (with_names names (names_in rows))) rows
known-all names [] = All-nil (IsKnown names)
known-all names (row ∷ rows) =
    let more = with_names (with_names names (ends_of row)) (names_in rows) in
    All-cons (IsKnown more) row rows (known-stays (with_names names (ends_of row)) (names_in rows) row (known-own names row)) (known-all (with_names names (ends_of row)) rows)

-- lines stay where names are added
pub line_of-stays : (names more : List (List ℕ)) (row : Row) → IsKnown names row → line_of (with_names names more) row ≡ line_of names row
line_of-stays names more row known = rw (place-stays_all names (assembly row) more known.0, place-stays_all names (part row) more known.1) refl

pub lines-stay : (names more : List (List ℕ)) (rows : List Row) → All (IsKnown names) rows → map (line_of (with_names names more)) rows ≡ map (line_of names) rows
lines-stay names more [] known = refl
lines-stay names more (row ∷ rows) known = rw (line_of-stays names more row (All-head (IsKnown names) row rows known), lines-stay names more rows (All-tail (IsKnown names) row rows known)) refl

-- the pair of a line, and whether it stands among those of lines
abbrev pub pair_of : Line → ℕ × ℕ
pair_of line = (line.assembly, line.part)

abbrev pub same_pair : ℕ × ℕ → ℕ × ℕ → Bool
same_pair a b = eqb a.0 b.0 && eqb a.1 b.1

pub pairs-same : (names : List (List ℕ)) (row : Row) (rows : List Row) → IsKnown names row → All (IsKnown names) rows → list_any (same_pair (pair_of (line_of names row))) (map pair_of (map (line_of names) rows)) ≡ list_any (same_ends row) rows
pairs-same names row [] known all = refl
pairs-same names row (other ∷ rows) known all =
    let first = All-head (IsKnown names) other rows all in
    rw (same-places names (assembly row) (assembly other) known.0 first.0, same-places names (part row) (part other) known.1 first.1, pairs-same names row rows known (All-tail (IsKnown names) other rows all)) refl

-- the order of pairs in a set, which holds the pairs of a list where it has each of these and no other
abbrev pub pair_cmp : ℕ × ℕ → ℕ × ℕ → Ordering
pair_cmp a b = ordering_then (nat_cmp a.0 b.0) (nat_cmp a.1 b.1)

abbrev pub HoldsPairs : BTreeSet (ℕ × ℕ) → List (ℕ × ℕ) → Type 0
HoldsPairs set pairs = (q : ℕ × ℕ) → contains pair_cmp set q ≡ list_any (same_pair q) pairs

pub pairs-none : (set : BTreeSet (ℕ × ℕ)) → IsEmpty set → HoldsPairs set []
pairs-none set none q = rw none refl

eqb-swap : (a b : ℕ) → eqb a b ≡ eqb b a
eqb-swap a b = go (eqb a b) refl where
  go : (t : Bool) → eqb a b ≡ t → eqb a b ≡ eqb b a
  go true is = is ∙ sym (eq-eqb b a (sym (eqb-true a b is)))
  go false is = is ∙ sym (ne_eqb b a (λ (e : b ≡ a). false≢true (sym is ∙ eq-eqb a b (sym e))))

is_eq-then : (p q : Ordering) → is_eq (ordering_then p q) ≡ (is_eq p && is_eq q)
is_eq-then Less q = refl
is_eq-then Equal q = refl
is_eq-then Greater q = refl

pair_cmp-same : (a b : ℕ × ℕ) → is_at (pair_cmp a) b ≡ same_pair b a
pair_cmp-same a b = is_eq-then (nat_cmp a.0 b.0) (nat_cmp a.1 b.1) ∙ rw (unsigned_tied a.0 b.0, unsigned_tied a.1 b.1, eqb-swap a.0 b.0, eqb-swap a.1 b.1) refl

pub pairs-more : (set set' : BTreeSet (ℕ × ℕ)) (pairs : List (ℕ × ℕ)) (pair : ℕ × ℕ) → HoldsPairs set pairs → ((q : ℕ × ℕ) → contains pair_cmp set' q ≡ cond (is_at (pair_cmp pair) q) true (contains pair_cmp set q)) → HoldsPairs set' (pairs ++ pair ∷ [])
pairs-more set set' pairs pair held after q = after q ∙ rw (pair_cmp-same pair q, held q, list_any-append (same_pair q) pairs (pair ∷ [])) (go (same_pair q pair) (list_any (same_pair q) pairs)) where
  go : (s b : Bool) → cond s true b ≡ (b || (s || false))
  go true true = refl
  go true false = refl
  go false true = refl
  go false false = refl
