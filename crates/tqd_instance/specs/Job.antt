-- The words for the numbers of a job. Goods k and suppliers i count from 0; segment 0 of a supplier stands for 'nothing is bought'.
use Rattle.std.specs.Prelude.{ℕ, ◌-◌, length, slice_index, slice_index_or, Option}
use Rattle.tqd_instance.specs.declared.job.Job.{Job}
use Rattle.tqd_instance.specs.declared.supplier.Segment.{Segment}
use Rattle.tqd_instance.specs.declared.supplier.Supplier.{Supplier}
use Rattle.tqd_instance.specs.Offer.{no_segment, no_supplier, place_of}

unfoldable pub goods : Job → ℕ
goods job = length job.needs

unfoldable pub suppliers : Job → ℕ
suppliers job = length job.suppliers

-- the units of a good that have to be bought
unfoldable pub need : Job → ℕ → ℕ
need job k = slice_index job.needs k

-- the units of a good that may be bought at most
unfoldable pub most : Job → ℕ → ℕ
most job k = slice_index job.mosts k

unfoldable pub supplier_at : Job → ℕ → Supplier
supplier_at job i = slice_index_or job.suppliers i no_supplier

unfoldable pub segment_at : Job → ℕ → ℕ → Segment
segment_at job i j = slice_index_or (supplier_at job i).segments j no_segment

-- the units of a good that a supplier has
unfoldable pub stock : Job → ℕ → ℕ → ℕ
stock job i k = slice_index (supplier_at job i).stocks k

-- how many segments a supplier has, besides segment 0
unfoldable pub segments : Job → ℕ → ℕ
segments job i = length (supplier_at job i).segments - 1

-- the least total in a segment
unfoldable pub low : Job → ℕ → ℕ → ℕ
low job i j = (segment_at job i j).low

-- the greatest total in a segment
unfoldable pub high : Job → ℕ → ℕ → ℕ
high job i j = (segment_at job i j).high

-- the price of one unit of a good in a segment
unfoldable pub price : Job → ℕ → ℕ → ℕ → ℕ
price job i j k = slice_index (segment_at job i j).prices k

-- what is paid once where anything is bought from a supplier
unfoldable pub fee : Job → ℕ → ℕ
fee job i = (supplier_at job i).fee

-- the least and the greatest number of suppliers that may be bought from
unfoldable pub least_winners : Job → ℕ
least_winners job = job.least_winners

unfoldable pub most_winners : Job → ℕ
most_winners job = job.most_winners

-- the segment that a total selects: the one in which it lies, or none
unfoldable pub pick : Job → ℕ → ℕ → Option ℕ
pick job i total = place_of total (supplier_at job i).segments
