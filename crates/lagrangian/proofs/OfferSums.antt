-- Sums over a list of offers: one more offer, the same offers in another order, and how they grow with the level.
use Rattle.std.proofs.lemmas.List.{take-set}
use Rattle.std.proofs.Common.{ℕ, ◌≡◌, ◌+◌, ◌-◌, ◌*◌, ◌<◌, ◌≤◌, List, [], ◌∷◌, length, get_or, take, refl, ap, sym, ◌∙◌, arith, set, length-set, get_or-set_same}
use Rattle.std.specs.List.{sum_by, All}
use Rattle.std.specs.List.Sorted.{IsPermutation}
use Rattle.std.proofs.lemmas.List.Sums.{sum_by_more, sum_by-cons, sum_by-le-sum_by}
use Rattle.std.proofs.lemmas.List.Elements.{All-head, All-tail}
use Rattle.std.proofs.lemmas.List.Sorted.{sum_by-IsPermutation}
use Rattle.lagrangian.specs.declared.offer.Offer.{Offer}
use Rattle.lagrangian.specs.Levels.{under, up_to, loss, units_under, units_up_to, losses_of, goods_under, goods_up_to, goods_losses, AreOffersOf}
use Rattle.lagrangian.proofs.OneLevel.{under-none, up_to-none, loss-none, under-le-up_to, under-mono, up_to-le-under}

pub units_under-none : (top : ℕ) → units_under top [] ≡ 0
unfolding units_under
units_under-none top = refl

pub losses_of-none : (top : ℕ) → losses_of top [] ≡ 0
unfolding losses_of
losses_of-none top = refl

-- one offer more
pub sum_by-next : (f : Offer → ℕ) (offers : List Offer) (i : ℕ) (o : Offer) → i < length offers → o ≡ get_or offers i o
    → sum_by f (take (i + 1) offers) ≡ sum_by f (take i offers) + f o
sum_by-next f offers i o below here =
    sum_by_more f offers i o below ∙ ap (λ x. sum_by f (take i offers) + f x) (sym here)

pub units_under-more : (top : ℕ) (offers : List Offer) (i : ℕ) (o : Offer) → i < length offers → o ≡ get_or offers i o
    → units_under top (take (i + 1) offers) ≡ units_under top (take i offers) + under top o.level o.cap
unfolding units_under
units_under-more top offers i o below here = sum_by-next (λ o. under top o.level o.cap) offers i o below here

pub losses_of-more : (top : ℕ) (offers : List Offer) (i : ℕ) (o : Offer) → i < length offers → o ≡ get_or offers i o
    → losses_of top (take (i + 1) offers) ≡ losses_of top (take i offers) + loss top o.level o.cap
unfolding losses_of
losses_of-more top offers i o below here = sum_by-next (λ o. loss top o.level o.cap) offers i o below here

-- terms that are nowhere greater on the list have no greater sum
pub sum_by-le-all : (f g : Offer → ℕ) (offers : List Offer) → All (λ o. f o ≤ g o) offers → sum_by f offers ≤ sum_by g offers
sum_by-le-all f g [] le = omega arith
sum_by-le-all f g (o ∷ offers) le =
    let first = All-head (λ o. f o ≤ g o) o offers le in
    let rest = sum_by-le-all f g offers (All-tail (λ o. f o ≤ g o) o offers le) in
    omega (arith, sum_by-cons f o offers, sum_by-cons g o offers)

-- the order of the offers is free
pub units_under-same : (top : ℕ) (xs ys : List Offer) → IsPermutation xs ys → units_under top ys ≡ units_under top xs
unfolding units_under
units_under-same top xs ys h = sum_by-IsPermutation (λ o. under top o.level o.cap) xs ys h

pub units_up_to-same : (top : ℕ) (xs ys : List Offer) → IsPermutation xs ys → units_up_to top ys ≡ units_up_to top xs
unfolding units_up_to
units_up_to-same top xs ys h = sum_by-IsPermutation (λ o. up_to top o.level o.cap) xs ys h

pub losses_of-same : (top : ℕ) (xs ys : List Offer) → IsPermutation xs ys → losses_of top ys ≡ losses_of top xs
unfolding losses_of
losses_of-same top xs ys h = sum_by-IsPermutation (λ o. loss top o.level o.cap) xs ys h

-- under a higher level are more units, and those up to a level are under a higher one
pub units_under-mono : (a b : ℕ) (offers : List Offer) → a ≤ b → units_under a offers ≤ units_under b offers
unfolding units_under
units_under-mono a b offers h =
    sum_by-le-sum_by (λ o. under a o.level o.cap) (λ o. under b o.level o.cap) offers (λ o. under-mono a b o.level o.cap h)

pub units_up_to-le-under : (a b : ℕ) (offers : List Offer) → a < b → units_up_to a offers ≤ units_under b offers
unfolding units_under units_up_to
units_up_to-le-under a b offers h =
    sum_by-le-sum_by (λ o. up_to a o.level o.cap) (λ o. under b o.level o.cap) offers (λ o. up_to-le-under a b o.level o.cap h)

pub units_under-le-up_to : (a : ℕ) (offers : List Offer) → units_under a offers ≤ units_up_to a offers
unfolding units_under units_up_to
units_under-le-up_to a offers =
    sum_by-le-sum_by (λ o. under a o.level o.cap) (λ o. up_to a o.level o.cap) offers (λ o. under-le-up_to a o.level o.cap)

-- the sums over offers are those over the goods that they state
pub units_under-of : (n : ℕ) (level cap : ℕ → ℕ) (offers : List Offer) (top : ℕ) → AreOffersOf n level cap offers
    → units_under top offers ≡ goods_under n level cap top
unfolding units_under goods_under
units_under-of n level cap offers top states = states (under top) (under-none top)

pub units_up_to-of : (n : ℕ) (level cap : ℕ → ℕ) (offers : List Offer) (top : ℕ) → AreOffersOf n level cap offers
    → units_up_to top offers ≡ goods_up_to n level cap top
unfolding units_up_to goods_up_to
units_up_to-of n level cap offers top states = states (up_to top) (up_to-none top)

pub losses_of-of : (n : ℕ) (level cap : ℕ → ℕ) (offers : List Offer) (top : ℕ) → AreOffersOf n level cap offers
    → losses_of top offers ≡ goods_losses n level cap top
unfolding losses_of goods_losses
losses_of-of n level cap offers top states = states (loss top) (loss-none top)

-- what the code adds for one offer
pub loss-computed : (top level cap a b c : ℕ) → a ≡ cap → c ≡ top - level → b ≡ c → a * b ≡ loss top level cap
unfolding loss
loss-computed top level cap a b c e f g = cc

-- offers in another order state the same goods
pub states_same : (n : ℕ) (level cap : ℕ → ℕ) (xs ys : List Offer) → IsPermutation xs ys → AreOffersOf n level cap xs → AreOffersOf n level cap ys
states_same n level cap xs ys h states f none = sum_by-IsPermutation (λ o. f o.level o.cap) xs ys h ∙ states f none

-- an offer is put behind the first ones, and counted where it has units
pub put_none : (f : ℕ → ℕ → ℕ) (old : List Offer) (count : ℕ) (o : Offer) → ((l : ℕ) → f l 0 ≡ 0) → o.cap ≡ 0
    → sum_by (λ o. f o.level o.cap) (take count (set old count o)) ≡ sum_by (λ o. f o.level o.cap) (take count old) + f o.level o.cap
put_none f old count o none empty =
    let nothing : f o.level o.cap ≡ 0 = ap (f o.level) empty ∙ none o.level in
    let kept = ap (sum_by (λ (o : Offer). f o.level o.cap)) (take-set old count o) in
    omega arith

pub put_some : (f : ℕ → ℕ → ℕ) (old : List Offer) (count : ℕ) (o : Offer) → count < length old
    → sum_by (λ o. f o.level o.cap) (take (count + 1) (set old count o)) ≡ sum_by (λ o. f o.level o.cap) (take count old) + f o.level o.cap
put_some f old count o room =
    let g = λ (o : Offer). f o.level o.cap in
    let more = sum_by_more g (set old count o) count o (omega (arith, length-set old count o)) in
    let here = get_or-set_same old count o o room in
    more ∙ ap (λ (n : ℕ). n + g (get_or (set old count o) count o)) (ap (sum_by g) (take-set old count o)) ∙ ap (λ (x : Offer). sum_by g (take count old) + g x) here
