use Rattle.std.proofs.Common.{◌≡◌, ℕ, ◌++◌, ◌∷◌, [], ap, sym, ◌∙◌, subst}
use Rattle.std.proofs.lemmas.Bool.{ne_eqb}
use Rattle.tqd_base.specs.World.{Bytes}
use Rattle.bound_tree.specs.LineText.{counts_text, line_text}
use Rattle.bound_tree.specs.declared.word.Word.TheVariants.{Buy as BuyWord}
use Rattle.bound_tree.specs.declared.line.TreeLine.TheVariants.{Buy}
use Rattle.bound_tree.specs.TreeText.{units_line, lines_text}
use Rattle.bound_tree.specs.WriteTree.{WriteGives}
use Rattle.bound_tree.proofs.TreeLines.{lines_none, one_piece}
use Rattle.bound_tree.proofs.Writing.{begin}
use Rattle.bound_tree.proofs.write.put_buy.Goals as goal

no_units : (i k n : ℕ) → n ≡ 0 → lines_text (units_line i k n) ≡ []
unfolding units_line
no_units i k n none = rw none lines_none

some_units : (i k n : ℕ) → (n ≡ 0 → ⊥) → counts_text BuyWord (i ∷ k ∷ n ∷ []) ++ 10 ∷ [] ≡ lines_text (units_line i k n)
unfolding units_line line_text
some_units i k n some = rw (ne_eqb n 0 some) (sym (one_piece (Buy i k n)))

pub returns-then-units-eq0 : goal.returns-then-units-eq0
returns-then-units-eq0 g c = (begin (g.D.Desk.state c.args.desk.now) c.args.slot _ (no_units c.args.i c.args.k c.args.units c.if-units-eq0.true) c.requires).puts

pub returns : goal.returns
returns g c =
    let same = ap (λ (n : ℕ). counts_text BuyWord (c.args.i ∷ c.args.k ∷ n ∷ []) ++ 10 ∷ []) c.from.ensures in
    subst (λ (t : Bytes). WriteGives (g.D.Desk.state c.args.desk.now) (g.D.Desk.state c.put_counts.new.desk) c.args.slot t c.put_counts.result)
    (same ∙ some_units c.args.i c.args.k c.args.units c.if-units-eq0.false) c.put_counts.ensures
