use Rattle.std.proofs.Common.{arith}
use Rattle.std.proofs.lemmas.Int.{ints, clamps}
use Rattle.price_climb.proofs.Columns.{keeps_more}
use Rattle.price_climb.proofs.column.Column.add.Goals as goal

pub returns : goal.returns
returns c = λ low n f k next is.
    keeps_more low n c.args.j c.from.result f c.args.self.now _ _ k c.requires next c.from.ensures (omega (arith, ints, is)) (omega (arith, ints, clamps))
