-- What a run keeps tells what reading has come to.
use Rattle.std.proofs.Common.{ℕ, ◌≡◌, ◌+◌, ◌<◌, ◌≤◌, true, List, [], ◌∷◌, ◌++◌, length, take, length-append, Option, Some, None, Ok, Err, refl, ap, sym, ◌∙◌, subst, arith}
use Rattle.std.proofs.lemmas.List.{take_all}
use Rattle.std.proofs.lemmas.List.Sums.{fold-append}
use Rattle.tqd_base.specs.World.{Bytes}
use Rattle.tqd_instance.specs.declared.job.Job.{Job}
use Rattle.tqd_instance.specs.declared.plan.Plan.{Plan}
use Rattle.interval_box.specs.declared.boxes.IntervalBox.{IntervalBox}
use Rattle.tree_checker.specs.declared.rejection.Why.TheVariants.{Trailing}
use Rattle.tree_checker.specs.declared.rejection.Rejection.{Rejection}
use Rattle.tree_checker.specs.declared.rejection.Feed.{Feed}
use Rattle.tree_checker.specs.declared.rejection.Feed.TheVariants.{More, Rejected as FeedRejected}
use Rattle.tree_checker.specs.declared.buffer.LineBuffer.{LineBuffer}
use Rattle.tree_checker.specs.declared.due.Due.{Due}
use Rattle.tree_checker.specs.declared.due.Due.TheVariants.{Node, Ended}
use Rattle.tree_checker.specs.Buffer.{Keeps}
use Rattle.tree_checker.specs.Verdict.{RowStore, Phase, at_header, at_plan, at_buys, at_nodes, Step, Progress, reading, stopped, at_first, is_whole, line_ended, after_byte, after_bytes, verdict_at, verdict_of}
use Rattle.tree_checker.specs.Judged.{IsDue, IsKept, is_whole_at, has_none, verdict_by}
use Rattle.tree_checker.specs.declared.slots.RowSlots.{RowSlots}
use Rattle.tree_checker.specs.declared.run.CheckRun.{CheckRun}
use Rattle.tree_checker.specs.Run.{job_of, taken_by, KeepsProgress, IsAt, Stands, AnswersPiece}
use Rattle.tree_checker.proofs.Bytewise.{stopped_stays, whole_trails}
use Rattle.tree_checker.proofs.Dues.{not_ended, same_whole}
use Rattle.tree_checker.proofs.Pieces.{rejected_stops, stops_rejected}

rejection_in : Rejection → Due → Rejection
rejection_in other (Ended rejection) = rejection
rejection_in other _ = other

same_ended : (a b : Rejection) → Ended a ≡ Ended b → a ≡ b
unfolding rejection_in
same_ended a b e = ap (rejection_in a) e

-- a run that was ended stands at its rejection
pub ended_at : (job : Job) (lines : ℕ) (buffer : LineBuffer) (due : Due) (plan : Plan) (boxes : List IntervalBox) (kept : RowSlots) (p : Progress) (rejection : Rejection)
    → due ≡ Ended rejection → KeepsProgress job lines buffer due plan boxes kept p → p ≡ stopped rejection
ended_at job lines buffer due plan boxes kept (reading ended line phase) rejection is k = absurd (not_ended job due plan boxes kept phase rejection is k.2)
ended_at job lines buffer due plan boxes kept (stopped other) rejection is k = ap stopped (same_ended other rejection (sym k ∙ is))

pub ended_stays : (job : Job) (lines : ℕ) (buffer : LineBuffer) (due : Due) (plan : Plan) (boxes : List IntervalBox) (kept : RowSlots) (p : Progress) (rejection : Rejection) (bytes : Bytes)
    → due ≡ Ended rejection → KeepsProgress job lines buffer due plan boxes kept p → after_bytes job p bytes ≡ stopped rejection
ended_stays job lines buffer due plan boxes kept p rejection bytes is k =
    ap (λ (q : Progress). after_bytes job q bytes) (ended_at job lines buffer due plan boxes kept p rejection is k) ∙ stopped_stays job rejection bytes

whole_test : (due : Due) (boxes : List IntervalBox) (rejection : Rejection) → due ≡ Ended rejection → is_whole_at due boxes ≡ true → ⊥
whole_test due boxes rejection is whole = let no = rw is at whole in cc

trails_after : (job : Job) (lines : ℕ) (line : Bytes) (phase : Phase) (bytes : Bytes) → 0 < length bytes → is_whole phase ≡ true
    → after_bytes job (reading lines line phase) bytes ≡ stopped (record { line = lines + 1; why = Trailing })
trails_after job lines line phase [] some whole = absurd (omega arith)
trails_after job lines line phase (byte ∷ bytes) some whole = whole_trails job lines line phase byte bytes whole

-- bytes after a whole tree end the run
pub whole_ends : (job : Job) (lines : ℕ) (buffer : LineBuffer) (due : Due) (plan : Plan) (boxes : List IntervalBox) (kept : RowSlots) (p : Progress) (bytes : Bytes)
    → is_whole_at due boxes ≡ true → KeepsProgress job lines buffer due plan boxes kept p → 0 < length bytes
    → after_bytes job p bytes ≡ stopped (record { line = lines + 1; why = Trailing })
whole_ends job lines buffer due plan boxes kept (reading ended line phase) bytes whole k some =
    trails_after job ended line phase bytes some (same_whole job due plan boxes kept phase k.2 ∙ whole)
    ∙ ap (λ (n : ℕ). stopped (record { line = n + 1; why = Trailing })) (sym k.0)
whole_ends job lines buffer due plan boxes kept (stopped rejection) bytes whole k some = absurd (whole_test due boxes rejection k whole)

-- a run between lines keeps what the line leads to
pub line_kept : (job : Job) (lines now : ℕ) (buffer : LineBuffer) (due : Due) (plan : Plan) (boxes : List IntervalBox) (kept : RowSlots) (step : Step)
    → now ≡ lines → Keeps buffer [] → IsKept job due plan boxes kept step → KeepsProgress job now buffer due plan boxes kept (line_ended lines step)
line_kept job lines now buffer due plan boxes kept (Ok phase) same keeps leads = (same, keeps, leads)
line_kept job lines now buffer due plan boxes kept (Err rejection) same keeps leads = leads

by_node : (store : RowStore) (due : Due) (best : Option ℕ) (boxes areas : List IntervalBox) (lines : ℕ) → due ≡ Node best → boxes ≡ areas
    → verdict_by due (has_none boxes) (lines + 1) ≡ verdict_at lines (at_nodes store best areas)
by_node store due None boxes [] lines is same = rw (is, same) refl
by_node store due (Some cost) boxes [] lines is same = rw (is, same) refl
by_node store due None boxes (area ∷ below) lines is same = rw (is, same) refl
by_node store due (Some cost) boxes (area ∷ below) lines is same = rw (is, same) refl

by_phase : (job : Job) (due : Due) (plan : Plan) (boxes : List IntervalBox) (kept : RowSlots) (phase : Phase) (lines : ℕ) → IsDue job due plan boxes kept phase
    → verdict_by due (has_none boxes) (lines + 1) ≡ verdict_at lines phase
by_phase job due plan boxes kept at_header lines h = rw h.0 refl
by_phase job due plan boxes kept (at_plan store) lines h = rw h.0 refl
by_phase job due plan boxes kept (at_buys store p) lines h = rw h.0 refl
by_phase job due plan boxes kept (at_nodes store best areas) lines h = by_node store due best boxes areas lines h.0 (h.1)

-- the verdict of a run is that of what it stands at
pub verdict_kept : (job : Job) (lines : ℕ) (buffer : LineBuffer) (due : Due) (plan : Plan) (boxes : List IntervalBox) (kept : RowSlots) (p : Progress)
    → KeepsProgress job lines buffer due plan boxes kept p → verdict_by due (has_none boxes) (lines + 1) ≡ verdict_of p
verdict_kept job lines buffer due plan boxes kept (reading ended line phase) k =
    ap (λ (n : ℕ). verdict_by due (has_none boxes) (n + 1)) k.0 ∙ by_phase job due plan boxes kept phase ended k.2
verdict_kept job lines buffer due plan boxes kept (stopped rejection) k = rw k refl

feed_or : Rejection → Feed → Rejection
feed_or other (FeedRejected rejection) = rejection
feed_or other More = other

progress_or : Rejection → Progress → Rejection
progress_or other (stopped rejection) = rejection
progress_or other _ = other

same_stopped : (a b : Rejection) → stopped a ≡ stopped b → a ≡ b
unfolding progress_or
same_stopped a b e = ap (progress_or a) e

same_feed : (a b : Rejection) → FeedRejected a ≡ FeedRejected b → a ≡ b
unfolding feed_or
same_feed a b e = ap (feed_or a) e

-- a run that was ended rejects the piece, and only it does
pub piece_ended : (job : Job) (lines : ℕ) (buffer : LineBuffer) (due : Due) (plan : Plan) (boxes : List IntervalBox) (kept : RowSlots) (fed : Bytes) (rejection : Rejection)
    → due ≡ Ended rejection → KeepsProgress job lines buffer due plan boxes kept (after_bytes job at_first fed) → AnswersPiece job fed (FeedRejected rejection)
piece_ended job lines buffer due plan boxes kept fed rejection is k =
    let at = ended_at job lines buffer due plan boxes kept (after_bytes job at_first fed) rejection is k in
    λ other. (
      λ e. stops_rejected job fed other (at ∙ ap stopped (same_feed rejection other e)),
      λ r. ap FeedRejected (same_stopped rejection other (sym at ∙ rejected_stops job fed other r)),
    )

pub piece_goes_on : (job : Job) (lines : ℕ) (buffer : LineBuffer) (due : Due) (plan : Plan) (boxes : List IntervalBox) (kept : RowSlots) (fed : Bytes)
    → ((rejection : Rejection) → due ≡ Ended rejection → ⊥) → KeepsProgress job lines buffer due plan boxes kept (after_bytes job at_first fed) → AnswersPiece job fed More
piece_goes_on job lines buffer due plan boxes kept fed other k =
    λ rejection. (
      λ e. absurd (cc),
      λ r. absurd (other rejection (subst (KeepsProgress job lines buffer due plan boxes kept) (rejected_stops job fed rejection r) k)),
    )

-- a run that was fed a piece stands for the longer list
pub run_stands : (old new : CheckRun) (fed piece : Bytes) (at : ℕ) → length piece ≤ at → at ≤ length piece → job_of new ≡ job_of old
    → taken_by new ≡ taken_by old + at → ((p : Progress) → IsAt old p → IsAt new (after_bytes (job_of old) p (take at piece))) → Stands old fed → Stands new (fed ++ piece)
unfolding Stands job_of taken_by
run_stands old new fed piece at least most same taken keeps stands =
    let all : take at piece ≡ piece = take_all at piece least in
    let after = keeps (after_bytes old.judge.job.now at_first fed) stands.1 in
    let joined = ap (after_bytes old.judge.job.now (after_bytes old.judge.job.now at_first fed)) all ∙ sym (fold-append (after_byte old.judge.job.now) at_first fed piece) in (
      omega (arith, taken, stands.0, length-append fed piece),
      subst (λ (j : Job). IsAt new (after_bytes j at_first (fed ++ piece))) (sym same) (subst (IsAt new) joined after),
    )

pub run_ended : (run : CheckRun) (fed : Bytes) (rejection : Rejection) → run.judge.due ≡ Ended rejection → Stands run fed → AnswersPiece (job_of run) fed (FeedRejected rejection)
unfolding Stands job_of
run_ended run fed rejection is stands = piece_ended run.judge.job.now run.lines run.line run.judge.due run.judge.plan run.judge.boxes run.judge.slots fed rejection is stands.1

pub run_goes_on : (run : CheckRun) (fed : Bytes) → ((rejection : Rejection) → run.judge.due ≡ Ended rejection → ⊥) → Stands run fed → AnswersPiece (job_of run) fed More
unfolding Stands job_of
run_goes_on run fed other stands = piece_goes_on run.judge.job.now run.lines run.line run.judge.due run.judge.plan run.judge.boxes run.judge.slots fed other stands.1
