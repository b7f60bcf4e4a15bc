-- The lists that the parts of a job are.
use Rattle.std.specs.Prelude.{ℕ, List}
use Rattle.tqd_instance.specs.declared.parts.PriceRow.{PriceRow}
use Rattle.tqd_instance.specs.declared.parts.StockRow.{StockRow}
use Rattle.tqd_instance.specs.declared.parts.TotalRow.{TotalRow}
use Rattle.tqd_instance.specs.declared.parts.ShareRow.{ShareRow}
use Rattle.tqd_instance.specs.declared.parts.FeeRow.{FeeRow}
use Rattle.tqd_instance.specs.declared.parts.OverRow.{OverRow}

pub record PartsData : Type 0 where
  pub suppliers : ℕ
  pub needs : List ℕ
  pub prices : List PriceRow
  pub stocks : List StockRow
  pub totals : List TotalRow
  pub shares : List ShareRow
  pub fees : List FeeRow
  pub overs : List OverRow
  pub least_winners : ℕ
  pub most_winners : ℕ
