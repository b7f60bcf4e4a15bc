use Rattle.std.proofs.Common.{◌≡◌, ◌++◌, map, take}
use Rattle.std.specs.Fmt.{signed_decimal}
use Rattle.bound_tree.specs.LineText.{fields_text}
use Rattle.bound_tree.proofs.text.add_prices.Given as goal

abbrev pub invariant-loop-price : goal.invariant-loop-price
invariant-loop-price l = l.text.items ≡ l.initial.text.items ++ fields_text (map signed_decimal (take l.price-index l.prices))
