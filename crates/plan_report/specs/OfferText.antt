-- What is wrong with offers.
use Rattle.std.specs.Prelude.{codes}
use Rattle.tqd_base.specs.World.{Bytes}
use Rattle.offer_reader.specs.declared.fault.OfferFault.{OfferFault}
use Rattle.offer_reader.specs.declared.fault.OfferFault.TheVariants.{Rows, Name, From, Price, Twice, TooManySuppliers, TooManyIntervals}
use Rattle.plan_report.specs.RowText.{in_row, rows_cause}

abbrev pub offer_cause : OfferFault → Bytes
offer_cause (Rows fault) = rows_cause fault
offer_cause (Name at) = in_row at (codes "bad name")
offer_cause (From at) = in_row at (codes "bad from")
offer_cause (Price at) = in_row at (codes "bad price")
offer_cause (Twice at) = in_row at (codes "given twice")
offer_cause (TooManySuppliers at) = in_row at (codes "more than 64 suppliers")
offer_cause (TooManyIntervals at) = in_row at (codes "more than 16 intervals")
