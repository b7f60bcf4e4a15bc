-- The words so far state the jobs.
use Rattle.std.specs.Prelude.{map, string_bytes}
use Rattle.command_words.specs.Forms.{file_of}
use Rattle.tqd_top.proofs.ScenarioWay.{IsUnderWay}
use Rattle.tqd_top.proofs.compare.read_jobs.Given as goal

abbrev pub invariant-loop-word : goal.invariant-loop-word
invariant-loop-word g l =
    IsUnderWay g.D.Desk.absent_is_empty (g.D.Desk.state l.initial.desk) (g.D.Desk.state l.desk) l.kept (map (λ word. file_of (string_bytes word)) l.terms) l.jobs l.word-index
