-- Names by their numbers, and goods by theirs.
use Rattle.std.proofs.Common.{ℕ, ◌≡◌, ◌<◌, eqb, List, length, get_or, Some, sym, ap, ◌∙◌}
use Rattle.std.proofs.lemmas.Bool.{eqb-true}
use Rattle.std.proofs.lemmas.List.Quantifiers.{position-Some}
use Rattle.std.proofs.lemmas.Option.{option_and_then_some}
use Rattle.std.specs.Prelude.{position}
use Rattle.std.specs.Cmp.Lexicographic.{bytes_decides}
use Rattle.std.specs.Str.{bytes_eq}
use Rattle.bom_reader.specs.Names.{number_of}
use Rattle.offer_reader.specs.Offers.{Wanted, good_of}

-- a number is of one name
pub number_inside : (names : List (List ℕ)) (name : List ℕ) (n : ℕ) → number_of names name ≡ Some n → n < length names
number_inside names name n is = (position-Some (bytes_eq name) names n name is).0

name_there : (names : List (List ℕ)) (name d : List ℕ) (n : ℕ) → number_of names name ≡ Some n → name ≡ get_or names n d
name_there names name d n is = (bytes_decides name (get_or names n d)).0 (position-Some (bytes_eq name) names n d is).1

pub number_one : (names : List (List ℕ)) (a b : List ℕ) (n : ℕ) → number_of names a ≡ Some n → number_of names b ≡ Some n → a ≡ b
number_one names a b n of_a of_b = name_there names a a n of_a ∙ sym (name_there names b a n of_b)

-- and so is a good
pub good_inside : (wanted : Wanted) (name : List ℕ) (good : ℕ) → good_of wanted name ≡ Some good → good < length wanted.goods
good_inside wanted name good is =
    option_and_then_some (λ number. position (λ other. eqb other number) wanted.goods) (number_of wanted.names name) good is
    (λ n named placed. (position-Some (λ other. eqb other n) wanted.goods good 0 placed).0)

pub good_one : (wanted : Wanted) (a b : List ℕ) (good : ℕ) → good_of wanted a ≡ Some good → good_of wanted b ≡ Some good → a ≡ b
good_one wanted a b good of_a of_b =
    option_and_then_some (λ number. position (λ other. eqb other number) wanted.goods) (number_of wanted.names a) good of_a
    (λ n named_a placed_a. option_and_then_some (λ number. position (λ other. eqb other number) wanted.goods) (number_of wanted.names b) good of_b
    (λ m named_b placed_b.
    let at_a = eqb-true (get_or wanted.goods good 0) n (position-Some (λ other. eqb other n) wanted.goods good 0 placed_a).1 in
    let at_b = eqb-true (get_or wanted.goods good 0) m (position-Some (λ other. eqb other m) wanted.goods good 0 placed_b).1 in
    let same : n ≡ m = sym at_a ∙ at_b in
    number_one wanted.names a b m (named_a ∙ ap (λ k. Some k) same) named_b))
