use Rattle.std.proofs.Common.{List, [], ◌∷◌, ◌++◌, ◌≡◌, ap, ◌∙◌}
use Rattle.interval_box.specs.declared.boxes.IntervalBox.{IntervalBox}
use Rattle.search_book.specs.declared.node.Node.{Node}
use Rattle.search_book.specs.declared.node.Phase.TheVariants.{Open}
use Rattle.search_book.proofs.Keeps.{kept_opened}
use Rattle.search_book.proofs.Takes.{opening_takes}
use Rattle.search_book.proofs.book.Book.open.Goals as goal

abbrev opened : IntervalBox → List Node
opened area = record { area = area; phase = Open } ∷ []

-- the nodes are the one that was pushed
nodes_are : (c : goal.In_ok-push) → c.push.new.self.items ≡ opened c.root.result
nodes_are c =
    c.in_ok-push.ensures.items
    ∙ (ap (λ (xs : List Node). xs ++ opened c.in_ok-hold.field-0) c.new-nodes.ensures.items ∙ ap opened c.in_ok-hold.ensures)

pub invariant_of-result : goal.invariant_of-result
invariant_of-result c = kept_opened c.args.job.now c.root.result c.push.new.self.items c.root.ensures.whole (nodes_are c)

pub returns-clause-takes : goal.returns-clause-takes
returns-clause-takes c = opening_takes c.push.new.self.items c.root.result (nodes_are c)
