use Rattle.std.proofs.Common.{refl, [], subst, ◌∙◌}
use Rattle.tqd_base.specs.World.{Bytes}
use Rattle.bound_tree.specs.declared.line.TreeLine.TheVariants.{Row}
use Rattle.bound_tree.specs.TreeText.{all_prices, ended}
use Rattle.bound_tree.specs.OtherBox.{widened}
use Rattle.bound_tree.specs.WriteTree.{WriteGives}
use Rattle.bound_tree.specs.declared.write.WriteStop.TheVariants.{Memory}
use Rattle.bound_tree.proofs.Writing.{begin, stops, at_err}
use Rattle.bound_tree.proofs.share.put_row.Goals as goal

pub returns-in_err-line : goal.returns-in_err-line
returns-in_err-line g c =
    let start = g.D.Desk.state c.args.desk.now in
    at_err (WriteGives start start c.args.slot (ended (Row c.args.n (all_prices (widened c.args.job.now c.args.area.now c.args.row.now))))) _ Memory c.from_residual.ensures.1
    (stops start start c.args.slot [] _ _ refl (begin start c.args.slot [] refl c.requires.writes))

pub returns : goal.returns
returns g c =
    subst (λ (t : Bytes). WriteGives (g.D.Desk.state c.args.desk.now) (g.D.Desk.state c.put_line.new.desk) c.args.slot t c.put_line.result) (c.deref.ensures.value ∙ c.in_ok-line.ensures) c.put_line.ensures
