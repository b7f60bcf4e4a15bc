use Rattle.std.proofs.Common.{◌≡◌, ℕ, ◌<◌, ◌≤◌, length, Some, get_or, refl, sym, ap, arith}
use Rattle.std.specs.List.{slice_get}
use Rattle.std.proofs.lemmas.List.Elements.{All-get_or}
use Rattle.std.proofs.lemmas.Option.{get_or_from_slice_get}
use Rattle.tqd_base.specs.declared.limits.TheConstants.{QTY_MAX}
use Rattle.bom_reader.specs.Bill.{BillData, IsBill, IsLine}
use Rattle.bom_reader.specs.declared.line.Line.{Line}
use Rattle.bom_explode.specs.declared.structure.Way.{Way}
use Rattle.bom_explode.specs.declared.structure.Way.TheVariants.{Down, Up}
use Rattle.bom_explode.specs.Structure.{Structure, IsStructure, line_at, structure_of}
use Rattle.bom_explode.specs.Ways.{along}

pub names-structure_of : (bill : BillData) → (structure_of bill).names ≡ length bill.names
unfolding structure_of
names-structure_of bill = refl

pub lines-structure_of : (bill : BillData) → (structure_of bill).lines ≡ length bill.lines
unfolding structure_of
lines-structure_of bill = refl

pub ordered-structure_of : (bill : BillData) (n : ℕ) → (structure_of bill).ordered n ≡ get_or bill.ordered n 0
unfolding structure_of
ordered-structure_of bill n = refl

line_read : (bill : BillData) (l : ℕ) (line : Line) → slice_get bill.lines l ≡ Some line → line_at bill l ≡ line
line_read bill l line h = get_or_from_slice_get bill.lines l line (record { assembly = 0; part = 0; quantity = 0 }) h

pub assembly-structure_of : (bill : BillData) (l : ℕ) (line : Line) → slice_get bill.lines l ≡ Some line → line.assembly ≡ (structure_of bill).assembly l
unfolding structure_of
assembly-structure_of bill l line h = sym (ap (λ (x : Line). x.assembly) (line_read bill l line h))

pub part-structure_of : (bill : BillData) (l : ℕ) (line : Line) → slice_get bill.lines l ≡ Some line → line.part ≡ (structure_of bill).part l
unfolding structure_of
part-structure_of bill l line h = sym (ap (λ (x : Line). x.part) (line_read bill l line h))

pub quantity-structure_of : (bill : BillData) (l : ℕ) (line : Line) → slice_get bill.lines l ≡ Some line → line.quantity ≡ (structure_of bill).quantity l
unfolding structure_of
quantity-structure_of bill l line h = sym (ap (λ (x : Line). x.quantity) (line_read bill l line h))

pub IsStructure-of : (bill : BillData) → IsBill bill → IsStructure (structure_of bill)
unfolding structure_of
IsStructure-of bill b =
    let line : (l : ℕ) → l < length bill.lines → IsLine (length bill.names) (line_at bill l) = λ l h.
    All-get_or (IsLine (length bill.names)) bill.lines l (record { assembly = 0; part = 0; quantity = 0 }) h b.each_line in
    record {
      few_names = b.orders.few_names;
      few_lines = b.few_lines;
      assemblies = λ l h. (line l h).assembly;
      parts = λ l h. (line l h).part;
      some = λ l h. (line l h).some;
      most = λ l h. (line l h).within;
      orders = λ n h. All-get_or (λ units. units ≤ QTY_MAX) bill.ordered n 0 (omega (arith, b.orders.one_each)) b.orders.within;
    }

-- a structure is one whichever way it is read
pub IsStructure-along : (way : Way) (s : Structure) → IsStructure s → IsStructure (along way s)
IsStructure-along Down s h = record {
  few_names = h.few_names;
  few_lines = h.few_lines;
  assemblies = h.assemblies;
  parts = h.parts;
  some = h.some;
  most = h.most;
  orders = h.orders;
}
IsStructure-along Up s h = record {
  few_names = h.few_names;
  few_lines = h.few_lines;
  assemblies = h.parts;
  parts = h.assemblies;
  some = h.some;
  most = h.most;
  orders = h.orders;
}
