-- The file is opened, and then checked.
use Rattle.std.proofs.lemmas.Result.{err_from_is_err_and}
use Rattle.tqd_top.proofs.Checked.{file_checked, file_unopened, opened_reads}
use Rattle.tqd_top.proofs.check.check_file.Goals as goal

pub returns-in_err-slot : goal.returns-in_err-slot
returns-in_err-slot g c =
    let p = err_from_is_err_and c.from_residual.result c.from_residual.ensures.1 in
    rw (p.1, p.2) (file_unopened _ _ _ _ _ _ c.in_err-slot.ensures)

pub check_slot-requires : goal.check_slot-requires
check_slot-requires g c = opened_reads _ _ _ _ _ c.in_ok-slot.ensures

pub returns : goal.returns
returns g c = file_checked _ _ _ _ _ _ _ _ c.in_ok-slot.ensures c.check_slot.ensures
