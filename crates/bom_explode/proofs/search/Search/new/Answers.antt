use Rattle.std.proofs.Common.{◌≡◌, replicate, rules, ◌∙◌}
use Rattle.bom_explode.specs.declared.search.TheConstants.{UNFOUND}
use Rattle.bom_explode.specs.Structure.{structure_of}
use Rattle.bom_explode.specs.Ways.{along}
use Rattle.bom_explode.proofs.Structures.{IsStructure-along}
use Rattle.bom_explode.proofs.Searching.{IsSearch-start}
use Rattle.bom_explode.proofs.search.Search.new.Goals as goal

pub returns-clause-idle : goal.returns-clause-idle
returns-clause-idle c =
    let s = along c.args.way (structure_of c.args.bill.now) in
    let marks : c.in_ok-vec.field-0.items ≡ replicate c.names-count.result UNFOUND = search rules in
    record {
      searches = rw (c.in_ok-from_slice.ensures.items ∙ c.deref.ensures.value, c.in_ok-with_capacity.ensures.items, c.in_ok-with_capacity-2.ensures.items)
          (IsSearch-start s c.args.chains.now.first.items c.args.chains.now.next.items c.in_ok-vec.field-0.items
          (IsStructure-along c.args.way (structure_of c.args.bill.now) c.names-count.ensures.kept) c.requires (rw (← c.names-count.ensures.value) marks));
      no_path = c.in_ok-with_capacity.ensures.items;
    }
