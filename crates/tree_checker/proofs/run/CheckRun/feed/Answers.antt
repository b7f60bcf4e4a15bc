use Rattle.std.proofs.Common.{◌≡◌, ◌-◌, ◌++◌, length, take, drop, sym, ◌∙◌, subst, arith, length-drop}
use Rattle.std.proofs.lemmas.List.{take_all}
use Rattle.tqd_base.specs.World.{Bytes}
use Rattle.tqd_instance.specs.declared.job.Job.{Job}
use Rattle.tree_checker.specs.declared.rejection.Feed.TheVariants.{More, Rejected}
use Rattle.tree_checker.specs.Verdict.{Progress, after_bytes}
use Rattle.tree_checker.specs.Run.{job_of, IsAt, AnswersPiece}
use Rattle.tree_checker.proofs.Bytewise.{bytes_more}
use Rattle.tree_checker.proofs.Runs.{run_stands, run_ended, run_goes_on}
use Rattle.tree_checker.proofs.run.CheckRun.feed.Goals as goal

pub loop-at-preserved : goal.loop-at-preserved
loop-at-preserved c =
    let old = c.args.self.now in
    let mid = c.loop-at.self in
    let new = c.feed_line-at.new.self in
    let piece = c.args.piece.now in
    let held = c.loop-at.invariant in
    let fed = c.feed_line-at.ensures in
    let rest : take (length piece - c.loop-at.at) (drop c.loop-at.at piece) ≡ drop c.loop-at.at piece =
    take_all (length piece - c.loop-at.at) (drop c.loop-at.at piece) (omega (arith, length-drop c.loop-at.at piece)) in
    record {
      within = omega (arith, fed.within, length-drop c.loop-at.at piece, held.within);
      job = fed.job ∙ held.job;
      taken = omega (arith, fed.taken, held.taken);
      stands = λ p k.
          let before = after_bytes (job_of old) p (take c.loop-at.at piece) in
          subst (λ (q : Progress). IsAt new q) (bytes_more (job_of old) p piece c.loop-at.at c.feed_line-at.result)
          (subst (λ (b : Bytes). IsAt new (after_bytes (job_of old) before (take c.feed_line-at.result b))) rest
          (subst (λ (j : Job). IsAt new (after_bytes j before (take c.feed_line-at.result (take (length piece - c.loop-at.at) (drop c.loop-at.at piece))))) held.job
          (fed.at before (held.stands p k))));
    }

pub returns-in-Ended-clause-stands : goal.returns-in-Ended-clause-stands
returns-in-Ended-clause-stands c = λ fed stands.
    let held = c.loop-at.invariant in
    run_stands c.args.self.now c.loop-at.self fed c.args.piece.now c.loop-at.at c.loop-at-test.false held.within held.job held.taken held.stands stands

pub returns-in-Ended-clause-answer : goal.returns-in-Ended-clause-answer
returns-in-Ended-clause-answer c = λ fed stands.
    let held = c.loop-at.invariant in
    let after = run_stands c.args.self.now c.loop-at.self fed c.args.piece.now c.loop-at.at c.loop-at-test.false held.within held.job held.taken held.stands stands in
    subst (λ (j : Job). AnswersPiece j (fed ++ c.args.piece.now) (Rejected c.in-Ended.rejection)) held.job
    (run_ended c.loop-at.self (fed ++ c.args.piece.now) c.in-Ended.rejection (sym c.due.ensures ∙ c.in-Ended.is) after)

pub returns-in_default-clause-stands : goal.returns-in_default-clause-stands
returns-in_default-clause-stands c = λ fed stands.
    let held = c.loop-at.invariant in
    run_stands c.args.self.now c.loop-at.self fed c.args.piece.now c.loop-at.at c.loop-at-test.false held.within held.job held.taken held.stands stands

pub returns-in_default-clause-answer : goal.returns-in_default-clause-answer
returns-in_default-clause-answer c = λ fed stands.
    let held = c.loop-at.invariant in
    let after = run_stands c.args.self.now c.loop-at.self fed c.args.piece.now c.loop-at.at c.loop-at-test.false held.within held.job held.taken held.stands stands in
    subst (λ (j : Job). AnswersPiece j (fed ++ c.args.piece.now) More) held.job
    (run_goes_on c.loop-at.self (fed ++ c.args.piece.now) (λ r is. c.in_default.not-Ended r (c.due.ensures ∙ is)) after)
