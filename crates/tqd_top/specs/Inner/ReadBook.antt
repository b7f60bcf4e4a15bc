-- What holds of offers and terms that were read.
use Rattle.std.specs.Prelude.{◌≡◌, ◌<◌, length, All}
use Rattle.offer_reader.specs.Book.{BookData}
use Rattle.tqd_instance.specs.Job.{goods, suppliers}
use Rattle.tqd_top.specs.declared.reading.OffersRead.{OffersRead}
use Rattle.tqd_top.specs.declared.reading.JobRead.{JobRead}

-- the goods have names, and the parts of the job have their needs, one each
pub record IsReadBook (read : OffersRead) : Type 0 where
  pub named : All (λ n. n < length read.bill.names) read.needs.goods
  pub needs : read.book.parts.needs ≡ read.needs.units
  pub counted : length read.needs.units ≡ length read.needs.goods

-- a book of these offers with terms has the needs and the suppliers of the offers
pub record IsScenarioBook (read : OffersRead) (book : BookData) : Type 0 where
  pub needs : book.parts.needs ≡ read.needs.units
  pub suppliers : book.suppliers ≡ read.book.suppliers

-- the goods of a job that was read have names, and its suppliers are those of the parts
pub record IsReadJob (read : JobRead) : Type 0 where
  pub named : All (λ n. n < length read.bill.names) read.needs.goods
  pub goods : length read.needs.goods ≡ goods read.job
  pub suppliers : read.book.parts.suppliers ≡ suppliers read.job
