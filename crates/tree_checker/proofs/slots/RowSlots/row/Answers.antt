use Rattle.std.proofs.Common.{ℤ, ◌≡◌, ◌<◌, List, length, get_or, Some, ap, sym, ◌∙◌, subst, arith}
use Rattle.std.proofs.lemmas.Bool.{ltb-true}
use Rattle.bound_tree.specs.Root.{root_of}
use Rattle.bound_tree.specs.Prices.{Fits, row_of}
use Rattle.tree_checker.specs.declared.slots.SlotRow.{SlotRow}
use Rattle.tree_checker.proofs.HeldRows.{none_past, row_given, row_missing, fits_root}
use Rattle.tree_checker.proofs.slots.RowSlots.row.Goals as goal

pub returns-then-slot : goal.returns-then-slot
returns-then-slot c = λ job slots are held. none_past job c.args.self.now.rows.items slots c.args.slot are.count (omega (arith, c.if-slot.true)) held

pub returns-then-row : goal.returns-then-row
returns-then-row c = λ job slots are held.
    let rows = c.args.self.now.rows.items in
    let row = c.in_ok-row.row.now in
    let look = c.in_ok-row.ensures.lookup in
    let all = c.deref.ensures.value in
    let below : c.args.slot < length rows = omega (arith, ltb-true _ _ (sym look.0), ap length all) in
    let is : get_or rows c.args.slot row ≡ row = sym (look.1 ∙ ap (λ (l : List SlotRow). get_or l c.args.slot row) all) in
    let prices = sym c.deref-then-row.ensures.value in (
      row_given job rows slots c.args.slot row below is held c.if-row.true ∙ ap (λ (ps : List ℤ). Some (row_of job ps)) prices,
      subst (λ (ps : List ℤ). Fits job (root_of job) (row_of job ps)) prices (fits_root job rows c.args.slot row below is are.each c.if-row.true),
    )

pub returns-else-row : goal.returns-else-row
returns-else-row c = λ job slots are held.
    let rows = c.args.self.now.rows.items in
    let row = c.in_ok-row.row.now in
    let look = c.in_ok-row.ensures.lookup in
    let all = c.deref.ensures.value in
    let below : c.args.slot < length rows = omega (arith, ltb-true _ _ (sym look.0), ap length all) in
    let is : get_or rows c.args.slot row ≡ row = sym (look.1 ∙ ap (λ (l : List SlotRow). get_or l c.args.slot row) all) in
    row_missing job rows slots c.args.slot row below is held c.if-row.false
