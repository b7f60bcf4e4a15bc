-- Units at levels, and the level that balances them with a range of totals. A level is what is left of a price beside a
-- good's price, counted up from ZERO, so that it is no number below 0.
use Rattle.std.specs.Prelude.{ℕ, ◌≡◌, ◌-◌, ◌*◌, ◌<◌, ◌≤◌, ◌⊎◌, max, nat_lt, nat_le, Bool, ◌&&◌, if◌then◌else◌, List}
use Rattle.std.specs.List.{sum_by}
use Rattle.tqd_base.specs.Sum.{sum_to}
use Rattle.lagrangian.specs.declared.offer.TheConstants.{ZERO, TOP}
use Rattle.lagrangian.specs.declared.offer.Offer.{Offer}

-- so many units at a level, where that is under another one
unfoldable pub under : ℕ → ℕ → ℕ → ℕ
under top level cap = if nat_lt level top then cap else 0

-- so many units at a level, where that is another one or under it
unfoldable pub up_to : ℕ → ℕ → ℕ → ℕ
up_to top level cap = if nat_le level top then cap else 0

-- by how much so many units at a level are under another one, in all
unfoldable pub loss : ℕ → ℕ → ℕ → ℕ
loss top level cap = cap * (top - level)

-- whether the level of an offer is from one level up to another, which is left out
unfoldable pub is_between : ℕ → ℕ → Offer → Bool
is_between from to o = nat_le from o.level && nat_lt o.level to

-- the same over all offers of a list
unfoldable pub units_under : ℕ → List Offer → ℕ
units_under top offers = sum_by (λ o. under top o.level o.cap) offers

unfoldable pub units_up_to : ℕ → List Offer → ℕ
units_up_to top offers = sum_by (λ o. up_to top o.level o.cap) offers

unfoldable pub losses_of : ℕ → List Offer → ℕ
losses_of top offers = sum_by (λ o. loss top o.level o.cap) offers

-- the same over the first n goods, with the level and the cap of each
unfoldable pub goods_under : ℕ → (ℕ → ℕ) → (ℕ → ℕ) → ℕ → ℕ
goods_under n level cap top = sum_to n (λ k. under top (level k) (cap k))

unfoldable pub goods_up_to : ℕ → (ℕ → ℕ) → (ℕ → ℕ) → ℕ → ℕ
goods_up_to n level cap top = sum_to n (λ k. up_to top (level k) (cap k))

unfoldable pub goods_losses : ℕ → (ℕ → ℕ) → (ℕ → ℕ) → ℕ → ℕ
goods_losses n level cap top = sum_to n (λ k. loss top (level k) (cap k))

-- a list of offers states the first n goods: each sum over it is that over the goods, where none of a good adds nothing
abbrev pub AreOffersOf : ℕ → (ℕ → ℕ) → (ℕ → ℕ) → List Offer → Type 0
AreOffersOf n level cap offers = (f : ℕ → ℕ → ℕ) → ((l : ℕ) → f l 0 ≡ 0)
    → sum_by (λ o. f o.level o.cap) offers ≡ sum_to n (λ k. f (level k) (cap k))

-- how many units a balanced level calls for, from low to high: as few as may be where a unit costs something, as many
-- as may be where it pays, and else those under the level, or low
unfoldable pub filled : ℕ → ℕ → ℕ → ℕ → ℕ
filled below low high level = if nat_lt level ZERO then high else (if nat_lt ZERO level then low else max below low)

-- a level at which the units under it are not too many, and those up to it are enough. TOP is one where all are too few
pub record IsBalanced (below not_above low high level : ℕ) : Type 0 where
  pub within : level ≤ TOP
  pub from_low : low ≤ filled below low high level
  pub to_high : filled below low high level ≤ high
  pub all_below : below ≤ filled below low high level
  pub enough : (filled below low high level ≤ not_above) ⊎ ((below < low) × (level ≡ TOP))

-- the first level up to which so many units are reached
pub record IsReached (wanted below not_above level : ℕ) : Type 0 where
  pub within : level ≤ TOP
  pub too_few : below < wanted
  pub enough : wanted ≤ not_above
