-- Whether two texts are the same, as a test.
use Rattle.std.specs.Prelude.{Bool, nat_eq}
use Rattle.std.specs.Cmp.Lexicographic.{pointwise}
use Rattle.tqd_base.specs.World.{Bytes}

unfoldable pub same : Bytes → Bytes → Bool
same a b = pointwise nat_eq a b
