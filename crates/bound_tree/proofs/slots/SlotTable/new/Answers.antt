use Rattle.std.proofs.Common.{◌≡◌, replicate, ap, sym, ◌∙◌, Option, None, List, length, map, subst}
use Rattle.std.proofs.lemmas.List.{length-replicate}
use Rattle.std.specs.List.{All}
use Rattle.bound_tree.specs.declared.slots.KeptRow.{KeptRow}
use Rattle.bound_tree.specs.Prices.{Prices}
use Rattle.bound_tree.specs.SlotTree.{no_rows}
use Rattle.bound_tree.specs.Shared.{none_given}
use Rattle.bound_tree.specs.SlotTable.{kept_row, given_of, KeptFits}
use Rattle.bound_tree.proofs.SlotTables.{none_are, none_fit}
use Rattle.bound_tree.proofs.slots.SlotTable.new.Goals as goal

pub returns-clause-none : goal.returns-clause-none
unfolding given_of none_given no_rows
returns-clause-none c = λ job.
    let items : c.in_ok-from_array.field-0.items ≡ replicate {A = Option KeptRow} 64 None = c.in_ok-from_array.ensures.items in
    ap (λ (slots : List (Option Prices)). record { slots = slots; count = 0 }) (ap (λ (xs : List (Option KeptRow)). map (kept_row job) xs) items ∙ none_are job 64)

pub returns-clause-slots : goal.returns-clause-slots
returns-clause-slots c = λ job.
    let items : c.in_ok-from_array.field-0.items ≡ replicate {A = Option KeptRow} 64 None = c.in_ok-from_array.ensures.items in
    record {
      slots = ap (λ (xs : List (Option KeptRow)). length xs) items ∙ length-replicate {A = Option KeptRow} 64 None;
      fits = subst (All (KeptFits job)) (sym items) (none_fit job 64);
    }
