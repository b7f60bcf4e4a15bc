use Rattle.std.proofs.Common.{◌++◌, ◌∷◌, [], sym, subst}
use Rattle.std.specs.Prelude.{Err}
use Rattle.bound_tree.specs.declared.slots.Named.{Named}
use Rattle.bound_tree.specs.declared.line.TreeLine.TheVariants.{Row}
use Rattle.bound_tree.specs.LineText.{counts_text}
use Rattle.bound_tree.specs.TreeText.{all_prices, ended}
use Rattle.bound_tree.specs.OtherBox.{widened}
use Rattle.bound_tree.specs.SlotTable.{named_text}
use Rattle.bound_tree.specs.WriteTree.{WriteGives}
use Rattle.bound_tree.proofs.Writing.{at_err, still}
use Rattle.bound_tree.proofs.WritingShared.{two_halt, two_end}
use Rattle.bound_tree.proofs.share.put_named.Goals as goal

pub returns-in_err-put_row-in-Next : goal.returns-in_err-put_row-in-Next
returns-in_err-put_row-in-Next g c =
    let old = g.D.Desk.state c.args.desk.now in
    let new = g.D.Desk.state c.put_row.new.desk in
    let wide = widened c.args.job.now c.args.area.now c.args.row.now in
    let stop = c.in_err-put_row-in-Next.field-0.0 in
    at_err (WriteGives old new c.args.slot (named_text c.args.word wide c.args.named)) _ stop c.from_residual.ensures.1
    (subst (λ (n : Named). WriteGives old new c.args.slot (named_text c.args.word wide n) (Err stop)) (sym c.in-Next.is)
    (two_halt old new c.args.slot (ended (Row c.in-Next.n (all_prices wide))) (counts_text c.args.word (c.in-Next.n ∷ []) ++ 10 ∷ []) stop c.requires.writes c.in_err-put_row-in-Next.ensures))

pub put_counts-requires-in-Next : goal.put_counts-requires-in-Next
put_counts-requires-in-Next g c = still (g.D.Desk.state c.args.desk.now) (g.D.Desk.state c.put_row.new.desk) c.args.slot _ c.in_ok-put_row-in-Next.ensures c.requires.writes

pub returns-in_ok-put_row-in-Next : goal.returns-in_ok-put_row-in-Next
returns-in_ok-put_row-in-Next g c =
    let old = g.D.Desk.state c.args.desk.now in
    let mid = g.D.Desk.state c.put_row.new.desk in
    let new = g.D.Desk.state c.put_counts-in-Next.new.desk in
    let wide = widened c.args.job.now c.args.area.now c.args.row.now in
    subst (λ (n : Named). WriteGives old new c.args.slot (named_text c.args.word wide n) c.put_counts-in-Next.result) (sym c.in-Next.is)
    (two_end old mid new c.args.slot (ended (Row c.in-Next.n (all_prices wide))) (counts_text c.args.word (c.in-Next.n ∷ []) ++ 10 ∷ []) c.put_counts-in-Next.result c.requires.writes
    c.in_ok-put_row-in-Next.ensures c.put_counts-in-Next.ensures)
