-- What contracts see of a word and of a seat.
use Rattle.std.specs.Prelude.{ℕ}
use Rattle.atomic_table.specs.Seated.{TableId}

-- which word it is, and its parts
pub record WordSeen : Type 0 where
  pub word : TableId
  pub parts : ℕ

-- the word that it is a seat of, the least cost that it published, the least that it was answered, its looks at the word, and its parts
pub record SeatSeen : Type 0 where
  pub word : TableId
  pub put : ℕ
  pub seen : ℕ
  pub looks : ℕ
  pub parts : ℕ
