-- A structure read from assemblies down to parts, or from parts up to assemblies.
use Rattle.std.specs.Prelude.{ℕ}
use Rattle.bom_explode.specs.declared.structure.Way.{Way}
use Rattle.bom_explode.specs.declared.structure.Way.TheVariants.{Down, Up}
use Rattle.bom_explode.specs.Structure.{Structure}

-- the name where a line starts, and the name where it finishes
abbrev pub start_of : Way → Structure → ℕ → ℕ
start_of Down s = s.assembly
start_of Up s = s.part

abbrev pub finish_of : Way → Structure → ℕ → ℕ
finish_of Down s = s.part
finish_of Up s = s.assembly

-- the same lines, each from the name where it starts, as its assembly, to the name where it finishes, as its part
abbrev pub along : Way → Structure → Structure
along way s = record s { assembly = start_of way s; part = finish_of way s }
