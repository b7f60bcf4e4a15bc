-- Lists of what a function gives of the elements of another.
use Rattle.std.proofs.Common.{suc, ◌≡◌, List, [], ◌∷◌, Option, None, Some, refl, arith}
use Rattle.std.proofs.lemmas.List.Elements.{All-nil, All-cons, All-head, All-tail}
use Rattle.std.proofs.lemmas.List.Kept.{AllPairs-cons}
use Rattle.std.specs.Prelude.{All, filter_map}
use Rattle.std.specs.List.{AllPairs, cons_option}

all_more : {Y : Type 0} (Q : Y → Type 0) (ys : List Y) (o : Option Y) → ((y : Y) → o ≡ Some y → Q y) → All Q ys → All Q (cons_option o ys)
all_more Q ys None here rest = rest
all_more Q ys (Some y) here rest = All-cons Q y ys (here y refl) rest

pub all_picked : {X Y : Type 0} (f : X → Option Y) (P : X → Type 0) (Q : Y → Type 0) → ((x : X) (y : Y) → P x → f x ≡ Some y → Q y) → (xs : List X) → All P xs → All Q (filter_map f xs)
all_picked f P Q gives [] all = All-nil Q
all_picked f P Q gives (x ∷ xs) all =
    all_more Q (filter_map f xs) (f x) (λ y is. gives x y (All-head P x xs all) is) (all_picked f P Q gives xs (All-tail P x xs all))

first_of_pairs : {X : Type 0} (P : X → X → Type 0) (x : X) (xs : List X) → AllPairs P (x ∷ xs) → All (P x) xs
first_of_pairs P x xs pairs = λ k d inside. pairs 0 (suc k) d (omega arith) (omega arith)

other_pairs : {X : Type 0} (P : X → X → Type 0) (x : X) (xs : List X) → AllPairs P (x ∷ xs) → AllPairs P xs
other_pairs P x xs pairs = λ i j d ordered inside. pairs (suc i) (suc j) d (omega arith) (omega arith)

pairs_more : {Y : Type 0} (R : Y → Y → Type 0) (ys : List Y) (o : Option Y) → ((y : Y) → o ≡ Some y → All (R y) ys) → AllPairs R ys → AllPairs R (cons_option o ys)
pairs_more R ys None here rest = rest
pairs_more R ys (Some y) here rest = AllPairs-cons R y ys (here y refl) rest

pub pairs_picked : {X Y : Type 0} (f : X → Option Y) (P : X → X → Type 0) (R : Y → Y → Type 0)
    → ((a b : X) (x y : Y) → P a b → f a ≡ Some x → f b ≡ Some y → R x y) → (xs : List X) → AllPairs P xs → AllPairs R (filter_map f xs)
pairs_picked f P R gives [] pairs = λ i j d ordered inside. absurd (omega arith)
pairs_picked f P R gives (x ∷ xs) pairs =
    pairs_more R (filter_map f xs) (f x) (λ y is. all_picked f (P x) (R y) (λ b z apart picks. gives x b y z apart is picks) xs (first_of_pairs P x xs pairs))
    (pairs_picked f P R gives xs (other_pairs P x xs pairs))
