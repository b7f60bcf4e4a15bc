use Rattle.std.proofs.Common.{ℕ, ◌≡◌, ◌+◌, ◌≤◌, [], ◌++◌, length, take, refl, sym, ◌∙◌, ap, subst, arith}
use Rattle.std.proofs.lemmas.List.{length-take-le}
use Rattle.tqd_instance.specs.declared.job.Job.{Job}
use Rattle.tqd_base.specs.declared.limits.TheConstants.{TREE_MAX}
use Rattle.tqd_base.specs.Calls.{Takes}
use Rattle.tqd_base.proofs.Taken.{Taken, taken_none, taken_more, reads_after}
use Rattle.tree_checker.specs.declared.rejection.Feed.TheVariants.{More, Rejected}
use Rattle.tree_checker.specs.CheckStops.{check_stop_of}
use Rattle.tree_checker.specs.CheckFrom.{CheckFromGives}
use Rattle.tree_checker.specs.Verdict.{verdict}
use Rattle.tree_checker.specs.Run.{Stands, taken_by, job_of, AnswersPiece}
use Rattle.tree_checker.proofs.Feeding.{gives_stop, gives_verdict, gives_rejected, gives_size, at_stop, fed_within, fed_length, goes_on}
use Rattle.tree_checker.proofs.checking.feed_all.Goals as goal

pub loop-run-init : goal.loop-run-init
unfolding Stands taken_by
loop-run-init g c = record {
  fed = record { fed = []; stands = c.requires.fresh; taken = taken_none (g.D.Desk.state c.args.desk.now) c.args.slot };
  job = refl;
  within = omega (arith, c.requires.fresh.0);
}

pub take-requires-clause-reads : goal.take-requires-clause-reads
take-requires-clause-reads g c =
    let held = c.loop-run.invariant.fed in
    reads_after (g.D.Desk.state c.args.desk.now) (g.D.Desk.state c.loop-run.desk) c.args.slot held.fed c.requires.reads held.taken

pub returns-in_err-taken : goal.returns-in_err-taken
returns-in_err-taken g c =
    let old = g.D.Desk.state c.args.desk.now in
    let new = g.D.Desk.state c.take.new.self in
    let held = c.loop-run.invariant.fed in
    at_stop (CheckFromGives (job_of c.args.run) old new c.args.slot) c.from_residual.result (check_stop_of c.in_err-taken.field-0.0) c.from_residual.ensures.1
    (gives_stop (job_of c.args.run) old (g.D.Desk.state c.loop-run.desk) new c.args.slot held.fed c.take.new.buffer c.in_err-taken.field-0.0 c.requires.reads held.taken c.in_err-taken.ensures)

pub returns-then-taken-eq0 : goal.returns-then-taken-eq0
returns-then-taken-eq0 g c =
    let old = g.D.Desk.state c.args.desk.now in
    let mid = g.D.Desk.state c.loop-run.desk in
    let new = g.D.Desk.state c.take.new.self in
    let held = c.loop-run.invariant.fed in
    gives_verdict (job_of c.args.run) old mid new c.args.slot held.fed c.take.new.buffer c.finish.result c.requires.reads held.taken
    (subst (Takes mid new c.args.slot c.take.new.buffer) c.if-taken-eq0.true c.in_ok-taken.ensures)
    (fed_within c.loop-run.run held.fed held.stands c.loop-run.invariant.within)
    (c.finish.ensures held.fed held.stands ∙ ap (λ (j : Job). verdict j held.fed) c.loop-run.invariant.job)

pub returns-in-Rejected : goal.returns-in-Rejected
returns-in-Rejected g c =
    let old = g.D.Desk.state c.args.desk.now in
    let mid = g.D.Desk.state c.loop-run.desk in
    let new = g.D.Desk.state c.take.new.self in
    let held = c.loop-run.invariant.fed in
    let buffer = c.take.new.buffer in
    let n = c.in_ok-taken.taken in
    let m = c.min-fed.result in
    let le : m ≤ n = omega (arith, c.min-fed.ensures) in
    let within : length (held.fed ++ take m buffer) ≤ TREE_MAX = omega (arith, fed_length held.fed buffer m (omega (arith, c.in_ok-taken.ensures.fits)), c.min-fed.ensures, c.taken-room.ensures.of_fed held.fed held.stands, c.loop-run.invariant.within) in
    gives_rejected (job_of c.args.run) old mid new c.args.slot m n held.fed buffer c.in-Rejected.rejection c.requires.reads held.taken c.in_ok-taken.ensures le within
    (subst (λ (j : Job). AnswersPiece j (held.fed ++ take m buffer) (Rejected c.in-Rejected.rejection)) c.loop-run.invariant.job (c.in-Rejected.ensures.answer held.fed held.stands))

pub returns-then-fed-taken : goal.returns-then-fed-taken
returns-then-fed-taken g c =
    let old = g.D.Desk.state c.args.desk.now in
    let mid = g.D.Desk.state c.loop-run.desk in
    let new = g.D.Desk.state c.take.new.self in
    let held = c.loop-run.invariant.fed in
    let buffer = c.take.new.buffer in
    let n = c.in_ok-taken.taken in
    let m = c.min-fed.result in
    let limit : length held.fed + m ≡ TREE_MAX = omega (arith, c.min-fed.ensures, c.if-fed-taken.true, c.taken-room.ensures.of_fed held.fed held.stands, fed_within c.loop-run.run held.fed held.stands c.loop-run.invariant.within) in
    let answer = goes_on (job_of c.loop-run.run) (held.fed ++ take m buffer) c.feed.result c.in_default.not-Rejected (c.feed.ensures.answer held.fed held.stands) in
    gives_size (job_of c.args.run) old mid new c.args.slot m n held.fed buffer c.requires.reads held.taken c.in_ok-taken.ensures c.if-fed-taken.true limit
    (subst (λ (j : Job). AnswersPiece j (held.fed ++ take m buffer) More) c.loop-run.invariant.job answer)

pub loop-run-preserved : goal.loop-run-preserved
loop-run-preserved g c =
    let old = g.D.Desk.state c.args.desk.now in
    let mid = g.D.Desk.state c.loop-run.desk in
    let new = g.D.Desk.state c.take.new.self in
    let held = c.loop-run.invariant.fed in
    let buffer = c.take.new.buffer in
    let n = c.in_ok-taken.taken in
    let m = c.min-fed.result in
    let same : m ≡ n = omega (arith, c.min-fed.ensures, c.if-fed-taken.false) in
    let fits : m ≤ length buffer = omega (arith, c.in_ok-taken.ensures.fits) in
    record {
      fed = record {
        fed = held.fed ++ take m buffer;
        stands = c.feed.ensures.stands held.fed held.stands;
        taken = subst (λ (k : ℕ). Taken old new c.args.slot (held.fed ++ take k buffer)) (sym same) (taken_more old mid new c.args.slot n held.fed buffer held.taken c.in_ok-taken.ensures);
      };
      job = c.feed.ensures.job ∙ c.loop-run.invariant.job;
      within = omega (arith, c.feed.ensures.taken, length-take-le m buffer fits, c.min-fed.ensures, c.taken-room.ensures.value, c.loop-run.invariant.within);
    }
