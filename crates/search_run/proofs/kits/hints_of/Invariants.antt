use Rattle.std.proofs.Common.{◌≡◌, ◌+◌, ◌<◌}
use Rattle.search_run.proofs.kits.hints_of.Given as goal

abbrev pub invariant-loop : goal.invariant-loop
invariant-loop l = record {
  word : l.first.word ≡ l.word.word;
  parts : l.workers < l.first.parts + l.counter;
}
