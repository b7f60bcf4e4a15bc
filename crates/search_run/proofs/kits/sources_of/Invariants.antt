use Rattle.std.proofs.Common.{◌≡◌, vec_len}
use Rattle.search_run.proofs.kits.sources_of.Given as goal

abbrev pub invariant-loop : goal.invariant-loop
invariant-loop l = vec_len l.sources ≡ l.counter
