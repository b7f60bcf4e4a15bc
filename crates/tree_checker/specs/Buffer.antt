-- What a run keeps of the line that is not ended yet.
use Rattle.std.specs.Prelude.{◌≡◌, ◌<◌, true, false, length}
use Rattle.tqd_base.specs.World.{Bytes}
use Rattle.tqd_base.specs.declared.limits.TheConstants.{LINE_MAX}
use Rattle.tree_checker.specs.declared.buffer.LineBuffer.{LineBuffer}

-- the buffer keeps a line: its bytes, or, where it is too long for a line of a tree, that alone
pub record Keeps (buffer : LineBuffer) (line : Bytes) : Type 0 where
  pub whole : buffer.is_long ≡ false → buffer.bytes.items ≡ line
  pub long : buffer.is_long ≡ true → LINE_MAX < length line
