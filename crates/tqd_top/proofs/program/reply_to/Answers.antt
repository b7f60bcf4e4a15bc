-- The numbers of a `make` and the words of a `scenarios` are in their ranges, and costs are listed for any number of
-- workers.
use Rattle.std.proofs.Common.{ℕ, ◌≡◌, Option, Some, List, map, sym, ◌∙◌, ap, arith}
use Rattle.std.proofs.lemmas.List.{length-map}
use Rattle.std.specs.Prelude.{string_bytes}
use Rattle.tqd_base.specs.World.{Name}
use Rattle.command_words.specs.Forms.{file_of}
use Rattle.command_words.specs.Words.{Asked, FilesNamed, ToCompare, ToMake, ToTabulate, asked, command_of, files_named}
use Rattle.command_words.proofs.Ranges.{IsRanged, ranged}
use Rattle.tqd_top.proofs.ReplyLemmas.{plain_as}
use Rattle.tqd_top.proofs.program.reply_to.Goals as goal

made : (words : List Name) (command : Asked) (seed goods suppliers : ℕ) → Some command ≡ command_of words → command ≡ ToMake seed goods suppliers → IsRanged (ToMake seed goods suppliers)
made words command seed goods suppliers e same = ranged words (ToMake seed goods suppliers) (sym e ∙ ap (λ (c : Asked). Some c) same)

pub make-requires-clause-some_goods : goal.make-requires-clause-some_goods
make-requires-clause-some_goods g c = (made _ _ c.in-Make.seed c.in-Make.goods c.in-Make.suppliers c.in-Some.ensures (ap asked c.in-Make.is)).0.above

pub make-requires-clause-few_goods : goal.make-requires-clause-few_goods
make-requires-clause-few_goods g c = (made _ _ c.in-Make.seed c.in-Make.goods c.in-Make.suppliers c.in-Some.ensures (ap asked c.in-Make.is)).0.below

pub make-requires-clause-some_suppliers : goal.make-requires-clause-some_suppliers
make-requires-clause-some_suppliers g c = (made _ _ c.in-Make.seed c.in-Make.goods c.in-Make.suppliers c.in-Some.ensures (ap asked c.in-Make.is)).1.above

pub make-requires-clause-few_suppliers : goal.make-requires-clause-few_suppliers
make-requires-clause-few_suppliers g c = (made _ _ c.in-Make.seed c.in-Make.goods c.in-Make.suppliers c.in-Some.ensures (ap asked c.in-Make.is)).1.below

-- the words are this `scenarios`
compares : (words : List Name) (command : Asked) (files : FilesNamed) (terms : List (Option Name)) (workers : ℕ) → Some command ≡ command_of words → command ≡ ToCompare files terms workers
    → command_of words ≡ Some (ToCompare files terms workers)
compares words command files terms workers e same = sym e ∙ ap (λ (c : Asked). Some c) same

pub compare-requires : goal.compare-requires
compare-requires g c =
    let w = c.in-Scenarios in
    let terms = map (λ word. file_of (string_bytes word)) w.terms.now in
    omega (
      arith,
      (ranged _ _ (compares _ _ (files_named w.files) terms _ c.in-Some.ensures (ap asked w.is))).0.below,
      length-map w.terms.now (λ word. file_of (string_bytes word)),
    )

pub returns-in-Scenarios : goal.returns-in-Scenarios
returns-in-Scenarios g c =
    let w = c.in-Scenarios in
    plain_as _ _ _ _ _ _ c.or_no_reply-in-Scenarios.ensures
    (c.compare.ensures _ _ (compares _ _ (files_named w.files) (map (λ word. file_of (string_bytes word)) w.terms.now) _ c.in-Some.ensures (ap asked w.is)))

-- the words are this `winners`
tabulates : (words : List Name) (command : Asked) (files : FilesNamed) (workers : ℕ) → Some command ≡ command_of words → command ≡ ToTabulate files workers
    → command_of words ≡ Some (ToTabulate files workers)
tabulates words command files workers e same = sym e ∙ ap (λ (c : Asked). Some c) same

pub returns-in-Winners : goal.returns-in-Winners
returns-in-Winners g c = plain_as _ _ _ _ _ _ c.or_no_reply-in-Winners.ensures
    (c.winners.ensures _ _ (tabulates _ _ (files_named c.in-Winners.files) _ c.in-Some.ensures (ap asked c.in-Winners.is)))
