-- The pieces, one after another, are the text.
use Rattle.std.proofs.Common.{◌++◌, ◌∙◌, ap, refl, rules, ℤ}
use Rattle.std.specs.Prelude.{decimal, codes}
use Rattle.std.specs.Fmt.{signed_decimal}
use Rattle.std.proofs.lemmas.Int.{to_z-of_z}
use mir.Syntax.{w128}
use mir.Val.{SFits}
use Rattle.plan_report.proofs.Texts.{grows_by_pairs, grows_twice}
use Rattle.plan_report.proofs.rejection.add_reason.Goals as goal

pub returns-in_ok-add_signed-in-BoundShort : goal.returns-in_ok-add_signed-in-BoundShort
returns-in_ok-add_signed-in-BoundShort c =
    let fits : SFits w128 c.in-BoundShort.value = search rules in
    let first = c.in_ok-add_signed-in-BoundShort.ensures ∙ ap (λ (z : ℤ). c.args.text.now.items ++ (codes "value " ++ signed_decimal z)) (to_z-of_z w128 c.in-BoundShort.value fits) in
    rw c.in-BoundShort.is (grows_by_pairs c.args.text.now.items (codes "value ") (signed_decimal c.in-BoundShort.value) (codes " below cost ") (decimal c.in-BoundShort.cost) _ _ c.add_counted-in-BoundShort.result
    first c.add_counted-in-BoundShort.ensures)

pub returns-in_ok-add_signed-in-EmptyFails : goal.returns-in_ok-add_signed-in-EmptyFails
returns-in_ok-add_signed-in-EmptyFails c =
    let fits : SFits w128 c.in-EmptyFails.value = search rules in
    let first = c.in_ok-add_signed-in-EmptyFails.ensures ∙ ap (λ (z : ℤ). c.args.text.now.items ++ (codes "free value " ++ signed_decimal z)) (to_z-of_z w128 c.in-EmptyFails.value fits) in
    rw c.in-EmptyFails.is (grows_twice c.args.text.now.items (codes "free value " ++ signed_decimal c.in-EmptyFails.value) (codes " is not above 0") _ _ _ c.add_word-in-EmptyFails.result
    first refl c.add_word-in-EmptyFails.ensures)
