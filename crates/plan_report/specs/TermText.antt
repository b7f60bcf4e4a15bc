-- What is wrong with terms.
use Rattle.std.specs.Prelude.{◌++◌, codes, decimal}
use Rattle.tqd_base.specs.World.{Bytes}
use Rattle.offer_reader.specs.declared.term_fault.TermFault.{TermFault}
use Rattle.offer_reader.specs.declared.term_fault.TermFault.TheVariants.{Rows, UnknownKind, OrderMultiple, Field, UnknownSupplier, UnknownPart, Twice}
use Rattle.plan_report.specs.RowText.{in_row, rows_cause}

-- fields are numbered from 1
abbrev pub term_cause : TermFault → Bytes
term_cause (Rows fault) = rows_cause fault
term_cause (UnknownKind at) = in_row at (codes "unknown kind")
term_cause (OrderMultiple at) = in_row at (codes "order multiples are not supported")
term_cause (Field at field) = in_row at (codes "bad field " ++ decimal field)
term_cause (UnknownSupplier at) = in_row at (codes "unknown supplier")
term_cause (UnknownPart at) = in_row at (codes "unknown part")
term_cause (Twice at) = in_row at (codes "given twice")
