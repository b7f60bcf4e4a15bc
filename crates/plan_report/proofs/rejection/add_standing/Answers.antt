-- The pieces, one after another, are the text.
use Rattle.std.proofs.Common.{ℕ, ◌++◌, ◌∙◌, ap}
use Rattle.std.specs.Prelude.{decimal, codes}
use Rattle.plan_report.proofs.Texts.{grows_by_pairs_and}
use Rattle.plan_report.proofs.rejection.add_standing.Goals as goal

pub returns-in_ok-add_counted-in-Stock-2 : goal.returns-in_ok-add_counted-in-Stock-2
returns-in_ok-add_counted-in-Stock-2 c =
    let first = c.in_ok-add_counted-in-Stock.ensures ∙ ap (λ (n : ℕ). c.args.text.now.items ++ (codes "supplier " ++ decimal n)) c.from-in-Stock.ensures in
    let second = c.in_ok-add_counted-in-Stock-2.ensures ∙ ap (λ (n : ℕ). c.add_counted-in-Stock.new.text.items ++ (codes " good " ++ decimal n)) c.from-in-Stock-2.ensures in
    rw c.in-Stock.is (grows_by_pairs_and c.args.text.now.items (codes "supplier ") (decimal c.in-Stock.supplier) (codes " good ") (decimal c.in-Stock.good) (codes " above stock")
    c.add_counted-in-Stock.new.text.items c.add_counted-in-Stock-2.new.text.items _ c.add_word-in-Stock.result first second c.add_word-in-Stock.ensures)

pub returns-in_ok-add_counted-in-Gap-2 : goal.returns-in_ok-add_counted-in-Gap-2
returns-in_ok-add_counted-in-Gap-2 c =
    let first = c.in_ok-add_counted-in-Gap.ensures ∙ ap (λ (n : ℕ). c.args.text.now.items ++ (codes "supplier " ++ decimal n)) c.from-in-Gap.ensures in
    let second = c.in_ok-add_counted-in-Gap-2.ensures ∙ ap (λ (n : ℕ). c.add_counted-in-Gap.new.text.items ++ (codes " total " ++ decimal n)) c.from-in-Gap-2.ensures in
    rw c.in-Gap.is (grows_by_pairs_and c.args.text.now.items (codes "supplier ") (decimal c.in-Gap.supplier) (codes " total ") (decimal c.in-Gap.total) (codes " in no segment")
    c.add_counted-in-Gap.new.text.items c.add_counted-in-Gap-2.new.text.items _ c.add_word-in-Gap.result first second c.add_word-in-Gap.ensures)
