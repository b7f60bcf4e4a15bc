-- Where the option begins in words of any kind.
use Rattle.std.proofs.Common.{ℕ, ◌≡◌, ◌≤◌, ◌-◌, Bool, true, false, List, length, arith, refl}
use Rattle.std.specs.Prelude.{map, take, drop, if◌then◌else◌}
use Rattle.std.proofs.lemmas.List.{drop-map, length-map, take-map}
use Rattle.tqd_base.specs.World.{Name}
use Rattle.command_words.specs.Forms.{before_option, files_in, is_called, option_in}

abbrev place : ℕ → Bool → ℕ
place n called = if called then n - 2 else n

place_within : (n : ℕ) (called : Bool) → place n called ≤ n
place_within n true = omega arith
place_within n false = omega arith

-- the place is found from the words as they are kept
pub before_by : {X : Type 0} (bytes : X → Name) (words : List X) (called : Bool) → called ≡ is_called (map bytes (drop (length words - 2) words))
    → before_option (map bytes words) ≡ (if called then length words - 2 else length words)
unfolding before_option
before_by bytes words called is = rw (length-map words bytes, drop-map bytes (length words - 2) words, is) refl

pub before_within : (words : List Name) → before_option words ≤ length words
unfolding before_option
before_within words = place_within (length words) (is_called (drop (length words - 2) words))

-- and so the two parts
pub files_by : {X : Type 0} (bytes : X → Name) (words front : List X) (n : ℕ) → n ≡ before_option (map bytes words) → front ≡ take n words
    → map bytes front ≡ files_in (map bytes words)
unfolding files_in
files_by bytes words front n at is = rw (is, at, take-map bytes (before_option (map bytes words)) words) refl

pub option_by : {X : Type 0} (bytes : X → Name) (words back : List X) (n : ℕ) → n ≡ before_option (map bytes words) → back ≡ drop n words
    → map bytes back ≡ option_in (map bytes words)
unfolding option_in
option_by bytes words back n at is = rw (is, at, drop-map bytes (before_option (map bytes words)) words) refl

pub split_within : {X : Type 0} (bytes : X → Name) (words : List X) (n : ℕ) → n ≡ before_option (map bytes words) → n ≤ length words
split_within bytes words n at =
    let within = before_within (map bytes words) in omega (arith, at, within, length-map words bytes)
