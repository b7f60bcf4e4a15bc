-- The account of a word: what holds of it and of all its seats between any two steps, and how each kind of step changes a seat.
use Rattle.std.specs.Prelude.{◌≡◌, ℕ, ◌+◌, ◌-◌, ◌≤◌, ◌⊎◌, min, List, [], ◌∷◌}
use Rattle.std.specs.List.{All, sum_by}
use Rattle.best_word.specs.declared.account.Account.{Account}

-- the word where nothing is published, 2^64 - 1
abbrev pub unset : ℕ
unset = 18446744073709551615

abbrev pub least_put : List Account → ℕ
least_put [] = unset
least_put (seat ∷ seats) = min seat.put (least_put seats)

-- a seat that was joined into another, which counts for nothing
abbrev pub spent : Account
spent = record { put = unset; seen = unset; looks = 0; parts = 0 }

-- The word is the least put of all seats, and at most what each has seen. Each has at least one part, and the parts add up to those of the word
pub record WordAccount (parts : ℕ) (words : List ℕ) (seats : List Account) : Type 0 where
  pub word : words ≡ least_put seats ∷ []
  pub seen : All (λ seat. least_put seats ≤ seat.seen) seats
  pub some_part : All (λ seat. (1 ≤ seat.parts) ⊎ (seat ≡ spent)) seats
  pub parts_add_up : sum_by (λ seat. seat.parts) seats ≡ parts

-- the first seat of a word
abbrev pub opened : ℕ → Account
opened parts = record { put = unset; seen = unset; looks = 0; parts = parts }

-- after a load that found this word
abbrev pub looked : Account → ℕ → Account
looked seat found = record seat { seen = found; looks = seat.looks + 1 }

-- after a fetch_min of the cost that found this word
abbrev pub published : Account → ℕ → ℕ → Account
published seat cost found = record seat { put = min seat.put cost; seen = min seat.seen found; looks = seat.looks + 1 }

-- after so many parts were cut off
abbrev pub keeping : ℕ → Account → Account
keeping parts seat = record seat { parts = seat.parts - parts }

-- the seat that has the parts that were cut off
abbrev pub cut_off : ℕ → Account → Account
cut_off parts seat = record { put = unset; seen = seat.seen; looks = 0; parts = parts }

abbrev pub joined : Account → Account → Account
joined seat other = record { put = min seat.put other.put; seen = min seat.seen other.seen; looks = seat.looks + other.looks; parts = seat.parts + other.parts }
