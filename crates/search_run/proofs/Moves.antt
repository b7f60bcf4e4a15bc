-- A node that is Taken in the place of another one.
use Rattle.std.proofs.Common.{ℕ, ◌≡◌, ◌≢◌, ◌≤◌, ◌⊎◌, length, arith, refl, sym, subst, inl, inr}
use Rattle.std.proofs.lemmas.Bool.{cases_eq}
use Rattle.search_book.specs.BookState.{BookState}
use Rattle.search_book.specs.Taken.{IsTaken, SameTaken, TakenWith, TakenWithout, TakenInPlace}
use Rattle.search_run.specs.Steps.{Moves}

-- the node itself, where what is Taken stays
pub stays : (s t : BookState) (n : ℕ) → IsTaken s n → SameTaken s t → Moves s n n t
stays s t n at same = record {
  fresh = inl refl;
  taken = λ k. elim (cases_eq k n) [
    | inl here ↦ (λ h. inr here, λ h. (same k).1 (subst (IsTaken s) (sym here) at))
    | inr other ↦ (λ h. inl ((same k).0 h, other), λ h. elim h [ inl before ↦ (same k).1 before.0 | inr here ↦ absurd (other here) ])
  ];
}

-- a new node
pub moved : (s t : BookState) (n m : ℕ) → TakenInPlace s n m t → Moves s n m t
moved s t n m placed = record { fresh = inr placed.is_new; taken = placed.taken }

-- a node that is Taken in the place of n is none of the others
apart : (s : BookState) (n m k : ℕ) → (m ≡ n) ⊎ (length s.nodes ≤ m) → IsTaken s k → k ≢ n → k ≢ m
apart s n m k (inl same) at other here = other (omega (arith, same, here))
apart s n m k (inr new) at other here = let known = at.known in absurd (omega (arith, new, here, known))

-- one move after another
pub moves_on : (s t u : BookState) (n m l : ℕ) → length s.nodes ≤ length t.nodes → Moves s n m t → Moves t m l u → Moves s n l u
moves_on s t u n m l grown first second = record {
  fresh = elim second.fresh [
    | inl same ↦ elim first.fresh [ inl also ↦ inl (omega (arith, same, also)) | inr new ↦ inr (omega (arith, same, new)) ]
    | inr new ↦ inr (omega (arith, grown, new))
  ];
  taken = λ k. (
    λ h. elim ((second.taken k).0 h) [
      | inl before ↦ elim ((first.taken k).0 before.0) [ inl old ↦ inl old | inr here ↦ absurd (before.1 here) ]
      | inr here ↦ inr here
    ],
    λ h. (second.taken k).1 (elim h [
      | inl old ↦ inl ((first.taken k).1 (inl old), apart s n m k first.fresh old.0 old.1)
      | inr here ↦ inr here
    ]),
  );
}

-- a node that was moved to, and is Taken no more
pub gone_after : (s t u : BookState) (n m : ℕ) → Moves s n m t → TakenWithout t m u → TakenWithout s n u
gone_after s t u n m moves without k = (
  λ h. let before = (without k).0 h in elim ((moves.taken k).0 before.0) [ inl old ↦ old | inr here ↦ absurd (before.1 here) ],
  λ h. (without k).1 ((moves.taken k).1 (inl h), apart s n m k moves.fresh h.0 h.1),
)

-- a half that is kept at first, Taken no more, with the other half in its place
pub swapped : (s t u v : BookState) (n m l : ℕ) → TakenInPlace s n m t → TakenWithout t m u → TakenWith u l v → length s.nodes ≤ l → Moves s n l v
swapped s t u v n m l placed without with new = record {
  fresh = inr new;
  taken = λ k. (
    λ h. elim ((with k).0 h) [
      | inl before ↦ inl ((gone_after s t u n m (moved s t n m placed) without k).0 before)
      | inr here ↦ inr here
    ],
    λ h. (with k).1 (elim h [
      | inl old ↦ inl ((gone_after s t u n m (moved s t n m placed) without k).1 old)
      | inr here ↦ inr here
    ]),
  );
}
