-- The name is that of a supplier, or of none.
use Rattle.std.proofs.Common.{◌≡◌, List, Option, Some, sym, ◌∙◌, ap, ℕ}
use Rattle.tqd_base.specs.World.{Name}
use Rattle.bom_reader.specs.Names.{number_of}
use Rattle.tqd_top.proofs.Cuts.{cut_told}
use Rattle.tqd_top.proofs.cut.cut_by_name.Goals as goal

-- the number of the name
numbered : (list names : List Name) (name : Name) (o : Option ℕ) (i : ℕ) → list ≡ names → o ≡ number_of list name → o ≡ Some i → number_of names name ≡ Some i
numbered list names name o i same number is = ap (λ (l : List Name). number_of l name) (sym same) ∙ sym number ∙ is

pub returns-in-Some : goal.returns-in-Some
returns-in-Some c =
    cut_told c.args.read.now c.args.supplier.now c.in-Some.i _ (numbered _ _ _ c.number.result c.in-Some.i c.suppliers.ensures.value c.number.ensures c.in-Some.is) c.cut_of.ensures
