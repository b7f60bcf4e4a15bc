use Rattle.requote.proofs.BuyLines.{IsBuying}
use Rattle.requote.proofs.head.read_buys.Given as goal

abbrev pub invariant-loop : goal.invariant-loop
invariant-loop l = IsBuying l.job l.count l.initial.lines l.counter l.next l.plan l.lines
