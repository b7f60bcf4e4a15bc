-- A file that could not be opened could not be read.
use Rattle.tqd_top.proofs.Readings.{unread_file}
use Rattle.tqd_top.proofs.check.open_tree.Goals as goal

pub returns-in-Err-Failed : goal.returns-in-Err-Failed
returns-in-Err-Failed g c = unread_file _ _ _ _ (rw c.in-Err-Failed.field-0-is at c.in-Err-Failed.ensures)
