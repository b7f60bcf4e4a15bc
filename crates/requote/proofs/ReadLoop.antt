-- How far the reading has come.
use Rattle.std.proofs.Common.{ℕ, Option, None, Some}
use Rattle.requote.specs.declared.graft.DueNode.{DueNode}

-- 1 where a node is Taken
abbrev pub if_taken : Option DueNode → ℕ
if_taken None = 0
if_taken (Some node) = 1
