-- A bill of materials as numbers.
use Rattle.std.specs.Prelude.{ℕ, ◌<◌, ◌≤◌, length, slice_index, slice_index_or}
use Rattle.tqd_base.specs.declared.limits.TheConstants.{QTY_MAX, NAMES_MAX, LINES_MAX}
use Rattle.bom_reader.specs.Bill.{BillData}
use Rattle.bom_reader.specs.declared.line.Line.{Line}

-- names and lines are numbered from 0. Of name n, `ordered n` units are ordered. By line l, each unit of the name
-- `assembly l` takes `quantity l` units of the name `part l`
pub record Structure : Type 0 where
  pub names : ℕ
  pub lines : ℕ
  pub ordered : ℕ → ℕ
  pub assembly : ℕ → ℕ
  pub part : ℕ → ℕ
  pub quantity : ℕ → ℕ

abbrev pub line_at : BillData → ℕ → Line
line_at bill l = slice_index_or bill.lines l (record { assembly = 0; part = 0; quantity = 0 })

-- the bill that was read
unfoldable pub structure_of : BillData → Structure
structure_of bill = record {
  names = length bill.names;
  lines = length bill.lines;
  ordered = λ n. slice_index bill.ordered n;
  assembly = λ l. (line_at bill l).assembly;
  part = λ l. (line_at bill l).part;
  quantity = λ l. (line_at bill l).quantity;
}

-- the ends of each line are names, and all quantities are in their ranges
pub record IsStructure (s : Structure) : Type 0 where
  pub few_names : s.names ≤ NAMES_MAX
  pub few_lines : s.lines ≤ LINES_MAX
  pub assemblies : (l : ℕ) → l < s.lines → s.assembly l < s.names
  pub parts : (l : ℕ) → l < s.lines → s.part l < s.names
  pub some : (l : ℕ) → l < s.lines → 1 ≤ s.quantity l
  pub most : (l : ℕ) → l < s.lines → s.quantity l ≤ QTY_MAX
  pub orders : (n : ℕ) → n < s.names → s.ordered n ≤ QTY_MAX
