use Rattle.std.proofs.Common.{◌≡◌, ◌<◌, length, None, refl, sym}
use Rattle.std.proofs.lemmas.Bool.{lt-leb}
use Rattle.tqd_base.specs.World.{Bytes}
use Rattle.tqd_base.specs.declared.limits.TheConstants.{LINE_MAX}
use Rattle.bound_tree.specs.LineHead.{head_of}
use Rattle.bound_tree.specs.ReadLine.{read_line}
use Rattle.tree_checker.proofs.buffer.LineBuffer.head.Goals as goal

none_said : (line : Bytes) → LINE_MAX < length line → head_of line ≡ None
unfolding read_line
none_said line long = rw (lt-leb (length line) LINE_MAX long) refl

pub returns-then-self-clause-value : goal.returns-then-self-clause-value
returns-then-self-clause-value c = λ line keeps. sym (none_said line (keeps.long c.if-self.true))
