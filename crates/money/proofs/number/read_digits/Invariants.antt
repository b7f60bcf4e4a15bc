use Rattle.money.proofs.Digits.{ReadUpTo}
use Rattle.money.proofs.number.read_digits.Given as goal

abbrev pub invariant-loop-byte : goal.invariant-loop-byte
invariant-loop-byte l = ReadUpTo l.text l.byte-index l.value
