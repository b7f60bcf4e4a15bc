use Rattle.std.proofs.Common.{ℤ, List, ◌≡◌, sym, ◌∙◌, ap, subst, arith, length}
use Rattle.std.proofs.lemmas.List.{length-set}
use Rattle.std.proofs.lemmas.List.Elements.{All-set}
use Rattle.bound_tree.specs.LineHead.{prices_of}
use Rattle.bound_tree.specs.Root.{root_of}
use Rattle.bound_tree.specs.Prices.{Fits, row_of}
use Rattle.tree_checker.specs.Verdict.{prices_wanted}
use Rattle.tree_checker.specs.SlotRows.{IsSlotRow}
use Rattle.tree_checker.proofs.HeldRows.{held_more, read_fits}
use Rattle.tree_checker.proofs.slots.RowSlots.fill.Goals as goal

pub returns-clause-rows : goal.returns-clause-rows
returns-clause-rows c =
    let job = c.args._job.now in
    let old = c.args.self.now.rows.items in
    let rows = c.requires.rows in
    let row = c.read.new.self in
    let before = subst (IsSlotRow job) (sym c.index_mut.ensures.value) (rows.each c.args.slot c.index_mut.result.now (omega (arith, rows.count, c.requires.slot))) in
    let count : length row.prices.items ≡ prices_wanted job (root_of job) = c.read.ensures.room ∙ before.count in
    record {
      wanted = rows.wanted;
      count = length-set old c.args.slot row ∙ rows.count;
      each = All-set (IsSlotRow job) old c.args.slot row (record {
        count = count;
        fits = λ given.
            let prices = c.read.ensures.prices (c.read.ensures.failed given) in
            subst (λ (ps : List ℤ). Fits job (root_of job) (row_of job ps)) (sym prices)
            (read_fits job (prices_of c.args.line.now) (ap length (sym prices) ∙ count) (sym c.read.ensures.first ∙ c.read.ensures.failed given));
      }) rows.each;
    }

pub returns-clause-held : goal.returns-clause-held
returns-clause-held c = λ slots none held.
    held_more c.args._job.now c.args.self.now.rows.items slots c.args.slot c.read.new.self _ (c.read.ensures.given none) (c.read.ensures.prices none) held
