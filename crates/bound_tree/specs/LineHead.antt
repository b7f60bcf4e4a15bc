-- A line without its prices, and its prices.
use Rattle.std.specs.Prelude.{ℕ, ◌≡◌, ◌&&◌, not, Bool, ℤ, neg_ℤ, int_le, List, [], length, find, Option, None, Some}
use Rattle.std.specs.Option.{option_map}
use Rattle.tqd_base.specs.World.{Bytes}
use Rattle.tqd_base.specs.declared.limits.TheConstants.{DUAL_MAX}
use Rattle.bound_tree.specs.declared.line.LineHead.{LineHead}
use Rattle.bound_tree.specs.declared.line.LineHead.TheVariants.{Header as HeaderHead, Header2 as Header2Head, NoPlan as NoPlanHead, Plan as PlanHead, Buy as BuyHead, Split as SplitHead, Row as RowHead, Bound as BoundHead, Empty as EmptyHead, Winners as WinnersHead}
use Rattle.bound_tree.specs.declared.line.TreeLine.{TreeLine}
use Rattle.bound_tree.specs.declared.line.TreeLine.TheVariants.{Header, Header2, NoPlan, Plan, Buy, Split, Row, Bound, Empty, Winners}
use Rattle.bound_tree.specs.ReadLine.{read_line}

-- the same line with the number of its prices in their place
abbrev pub without_prices : TreeLine → LineHead
without_prices Header = HeaderHead
without_prices Header2 = Header2Head
without_prices NoPlan = NoPlanHead
without_prices (Plan cost count) = PlanHead cost count
without_prices (Buy supplier good units) = BuyHead supplier good units
without_prices (Split supplier segment) = SplitHead supplier segment
without_prices (Row slot prices) = RowHead slot (length prices)
without_prices (Bound prices) = BoundHead (length prices)
without_prices (Empty prices) = EmptyHead (length prices)
without_prices Winners = WinnersHead

-- the head of a line, where it is a line of a tree
abbrev pub head_of : Bytes → Option LineHead
head_of line = option_map without_prices (read_line line)

-- the prices of a row; other lines have none
abbrev pub row_prices : TreeLine → List ℤ
row_prices (Row slot prices) = prices
row_prices (Bound prices) = prices
row_prices (Empty prices) = prices
row_prices _ = []

abbrev pub prices_in : Option TreeLine → List ℤ
prices_in None = []
prices_in (Some line) = row_prices line

-- the prices that stand in a line
abbrev pub prices_of : Bytes → List ℤ
prices_of line = prices_in (read_line line)

-- the head of a row of so many prices
abbrev pub IsRowOf : ℕ → Option LineHead → Type 0
IsRowOf n (Some (RowHead slot count)) = count ≡ n
IsRowOf n (Some (BoundHead count)) = count ≡ n
IsRowOf n (Some (EmptyHead count)) = count ≡ n
IsRowOf n _ = ⊥

-- the price is beyond the limit of prices in rows
abbrev pub is_beyond : ℤ → Bool
is_beyond price = not (int_le (neg_ℤ DUAL_MAX) price && int_le price DUAL_MAX)

-- what reading prices into their places gives: the first price beyond the limit, or all of them
pub record ReadsPrices (prices places : List ℤ) (beyond : Option ℤ) : Type 0 where
  pub first : beyond ≡ find is_beyond prices
  pub all : beyond ≡ None → places ≡ prices
