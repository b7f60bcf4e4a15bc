use Rattle.std.proofs.Common.{pos, arith}
use Rattle.std.proofs.lemmas.Int.{ints}
use Rattle.std.proofs.lemmas.List.{length-replicate}
use lib.ListN.{replicate}
use Rattle.price_climb.proofs.Columns.{keeps_one}
use Rattle.price_climb.proofs.column.Column.first.Goals as goal

pub returns : goal.returns
returns c = λ f is. keeps_one f c.args.j c.from.result (replicate 17 (pos 0)) _ _ (length-replicate 17 (pos 0)) c.requires c.from.ensures (omega (arith, ints, is)) (omega (arith, ints))
