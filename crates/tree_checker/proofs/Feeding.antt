-- What a run was fed is what a slot gave up.
use Rattle.std.proofs.Common.{ℕ, ◌≡◌, ◌+◌, ◌-◌, ◌<◌, ◌≤◌, [], ◌++◌, length, take, drop, Option, Some, None, Result, Ok, Err, refl, ap, sym, ◌∙◌, subst, arith, length-append, append_assoc, append-nil, take-add}
use Rattle.std.specs.Prelude.{IfSome, IsSome, IsErrAnd, option_and_then, unwrap_or}
use Rattle.std.specs.Option.{option_map}
use Rattle.std.proofs.lemmas.List.{length-take-le}
use Rattle.std.proofs.Math.Seq.{take-append_seam, take-append-add}
use Rattle.tqd_base.specs.declared.desk.DeskStop.{DeskStop}
use Rattle.tqd_base.specs.declared.desk.DeskStop.TheVariants.{Failed, Memory as NoMemory}
use Rattle.tqd_base.specs.declared.limits.TheConstants.{TREE_MAX}
use Rattle.tqd_base.specs.World.{World, State, Name, Bytes, Slot, Reads, Rose, set_slot, left_at, left_of, name_at, name_of, shortened, Reading, Writing}
use Rattle.tqd_base.specs.Calls.{Takes, TakeGives, Moves}
use Rattle.tqd_base.proofs.Taken.{Taken, taken_more, slots_after, drains, never_fall_trans}
use Rattle.tqd_instance.specs.declared.job.Job.{Job}
use Rattle.tree_checker.specs.declared.run.CheckRun.{CheckRun}
use Rattle.tree_checker.specs.declared.rejection.Rejection.{Rejection}
use Rattle.tree_checker.specs.declared.rejection.Verdict.{Verdict}
use Rattle.tree_checker.specs.declared.rejection.Verdict.TheVariants.{Rejected}
use Rattle.tree_checker.specs.declared.rejection.Feed.{Feed}
use Rattle.tree_checker.specs.declared.rejection.Feed.TheVariants.{More, Rejected as FeedRejected}
use Rattle.tree_checker.specs.declared.checking.CheckStop.{CheckStop}
use Rattle.tree_checker.specs.declared.checking.CheckStop.TheVariants.{Size}
use Rattle.tree_checker.specs.CheckStops.{check_stop_of}
use Rattle.tree_checker.specs.CheckFrom.{IsTooLong, IsVerdictOf, CheckFromGives}
use Rattle.tree_checker.specs.Verdict.{verdict, IsRejectedFor}
use Rattle.tree_checker.specs.Run.{Stands, taken_by, AnswersPiece}
use Rattle.tree_checker.proofs.Pieces.{rejection_stays}

-- the bytes that a run was fed, which the slot gave up
pub record IsFedFrom (old now : State) (slot : ℕ) (run : CheckRun) : Type 0 where
  pub fed : Bytes
  pub stands : Stands run fed
  pub taken : Taken old now slot fed

name_shortened : (n : ℕ) (s : Option Slot) → unwrap_or (option_map name_of (option_map (shortened n) s)) [] ≡ unwrap_or (option_map name_of s) []
unfolding name_of shortened
name_shortened n None = refl
name_shortened n (Some (Reading name left)) = refl
name_shortened n (Some (Writing name)) = refl

-- taking bytes changes no name and no file
name_after : (old new : State) (slot : ℕ) (bytes : Bytes) → Taken old new slot bytes → name_at new.world slot ≡ name_at old.world slot
unfolding name_at
name_after old new slot bytes t = ap (λ (s : Option Slot). unwrap_or (option_map name_of s) []) (slots_after old new slot bytes t) ∙ name_shortened (length bytes) (old.world.slots slot)

files_after : (old new : State) (slot : ℕ) (bytes : Bytes) → Taken old new slot bytes → new.world.files ≡ old.world.files
unfolding set_slot
files_after old new slot bytes t = ap (λ (w : World). w.files) t.world

rose_later : (a b c : ℕ) → a ≤ b → Rose b c → Rose a c
unfolding Rose
rose_later a b c le rose = omega arith

pub gives_stop : (job : Job) (old mid new : State) (slot : ℕ) (bytes buffer : Bytes) (stop : DeskStop) → Reads (old.world.slots slot) → Taken old mid slot bytes
    → TakeGives mid new slot buffer (Err stop) → CheckFromGives job old new slot (Err (check_stop_of stop))
gives_stop job old mid new slot bytes buffer Failed r t f =
    let d = drains old mid slot bytes r t in
    record {
      drains = record {
        reads = subst (λ (w : World). Reads (w.slots slot)) (sym f.world) d.reads;
        others = ap (λ (w : World). set_slot w slot None) f.world ∙ d.others;
        never_fall = never_fall_trans old.faults mid.faults new.faults t.never_fall f.never_fall;
      };
      same_name = ap (λ (w : World). name_at w slot) f.world ∙ name_after old mid slot bytes t;
      answer = (
        (λ told. f.named (subst IsSome (sym (files_after old mid slot bytes t)) told) ∙ ap (λ (n : Name). Some n) (name_after old mid slot bytes t)),
        rose_later old.faults.reading mid.faults.reading new.faults.reading t.never_fall.reading f.rose,
      );
    }
gives_stop job old mid new slot bytes buffer NoMemory r t f = absurd f

-- where nothing is left, what was taken is all
whole : (s : Option Slot) (bytes buffer : Bytes)
    → IfSome (option_and_then left_of s) (λ all. all ≡ bytes ++ drop (length bytes) all)
    → IfSome (option_and_then left_of (option_map (shortened (length bytes)) s)) (λ left. Moves left buffer 0)
    → IfSome (option_and_then left_of s) (λ all. bytes ≡ all)
unfolding shortened left_of
whole None bytes buffer first moves = tt
whole (Some (Writing name)) bytes buffer first moves = tt
whole (Some (Reading name None)) bytes buffer first moves = tt
whole (Some (Reading name (Some all))) bytes buffer first moves = sym (first ∙ ap (λ (rest : Bytes). bytes ++ rest) (moves.ended refl) ∙ append-nil bytes)

not_long : (job : Job) (left : Option Bytes) (bytes : Bytes) → length bytes ≤ TREE_MAX → IfSome left (λ all. bytes ≡ all) → IfSome left (λ all. IsTooLong job all → ⊥)
not_long job None bytes within same = tt
not_long job (Some all) bytes within same = λ long. omega (arith, long.beyond, ap length same)

pub gives_verdict : (job : Job) (old mid new : State) (slot : ℕ) (bytes buffer : Bytes) (answer : Verdict) → Reads (old.world.slots slot) → Taken old mid slot bytes
    → Takes mid new slot buffer 0 → length bytes ≤ TREE_MAX → answer ≡ verdict job bytes → CheckFromGives job old new slot (Ok answer)
unfolding left_at
gives_verdict job old mid new slot bytes buffer answer r t m within is =
    let after = taken_more old mid new slot 0 bytes buffer t m in
    let there = slots_after old mid slot bytes t in
    let all = whole (old.world.slots slot) bytes buffer t.first (subst (λ (s : Option Slot). IfSome (option_and_then left_of s) (λ left. Moves left buffer 0)) there m.moves) in
    record {
      drains = drains old new slot (bytes ++ take 0 buffer) r after;
      same_name = name_after old new slot (bytes ++ take 0 buffer) after;
      answer = (
        after.kept,
        record {
          text = bytes;
          is_verdict = is;
          all = all;
          within = not_long job (option_and_then left_of (old.world.slots slot)) bytes within all;
        },
      );
    }

-- what was fed begins what was taken, and that begins all that was left
fed_first : (bytes buffer : Bytes) (m n : ℕ) → m ≤ n → bytes ++ take n buffer ≡ (bytes ++ take m buffer) ++ take (n - m) (drop m buffer)
fed_first bytes buffer m n le =
    let count : n ≡ m + (n - m) = omega arith in
    ap (λ (k : ℕ). bytes ++ take k buffer) count ∙ ap (λ (b : Bytes). bytes ++ b) (take-add m (n - m) buffer)
    ∙ sym (append_assoc bytes (take m buffer) (take (n - m) (drop m buffer)))

begins : (bytes buffer all : Bytes) (m n : ℕ) → m ≤ n → all ≡ (bytes ++ take n buffer) ++ drop (length (bytes ++ take n buffer)) all
    → all ≡ (bytes ++ take m buffer) ++ (take (n - m) (drop m buffer) ++ drop (length (bytes ++ take n buffer)) all)
begins bytes buffer all m n le first =
    let rest = drop (length (bytes ++ take n buffer)) all in
    first ∙ ap (λ (b : Bytes). b ++ rest) (fed_first bytes buffer m n le) ∙ append_assoc (bytes ++ take m buffer) (take (n - m) (drop m buffer)) rest

no_more : (rejection : Rejection) → More ≡ FeedRejected rejection → ⊥
no_more rejection e = cc

-- the first bytes of a longer text, as many as a limit
cut_longer : (fed more : Bytes) (limit : ℕ) → length fed ≤ limit → take limit (fed ++ more) ≡ fed ++ take (limit - length fed) more
cut_longer fed more limit le =
    let count : limit ≡ length fed + (limit - length fed) = omega arith in
    ap (λ (k : ℕ). take k (fed ++ more)) count ∙ take-append-add fed more (limit - length fed)

rejected_all : (job : Job) (left : Option Bytes) (bytes buffer : Bytes) (m n : ℕ) (rejection : Rejection) → m ≤ n → length (bytes ++ take m buffer) ≤ TREE_MAX
    → IfSome left (λ all. all ≡ (bytes ++ take n buffer) ++ drop (length (bytes ++ take n buffer)) all)
    → IsRejectedFor job (bytes ++ take m buffer) rejection → IsVerdictOf job left (Rejected rejection)
rejected_all job None bytes buffer m n rejection le within first rejected =
    record { text = bytes ++ take m buffer; is_verdict = sym rejected.rejected; all = tt; within = tt }
rejected_all job (Some all) bytes buffer m n rejection le within first rejected =
    let more = take (n - m) (drop m buffer) ++ drop (length (bytes ++ take n buffer)) all in
    let is = begins bytes buffer all m n le first in
    record {
      text = all;
      is_verdict = sym (subst (λ (t : Bytes). IsRejectedFor job t rejection) (sym is) (rejection_stays job (bytes ++ take m buffer) more rejection rejected)).rejected;
      all = refl;
      within = λ long. long.goes_on (
        rejection,
        subst (λ (t : Bytes). IsRejectedFor job t rejection)
            (sym (ap (take TREE_MAX) is ∙ cut_longer (bytes ++ take m buffer) more TREE_MAX within))
            (rejection_stays job (bytes ++ take m buffer) (take (TREE_MAX - length (bytes ++ take m buffer)) more) rejection rejected),
      );
    }

pub gives_rejected : (job : Job) (old mid new : State) (slot m n : ℕ) (bytes buffer : Bytes) (rejection : Rejection) → Reads (old.world.slots slot) → Taken old mid slot bytes
    → Takes mid new slot buffer n → m ≤ n → length (bytes ++ take m buffer) ≤ TREE_MAX → AnswersPiece job (bytes ++ take m buffer) (FeedRejected rejection)
    → CheckFromGives job old new slot (Ok (Rejected rejection))
gives_rejected job old mid new slot m n bytes buffer rejection r t takes le within answer =
    let after = taken_more old mid new slot n bytes buffer t takes in
    record {
      drains = drains old new slot (bytes ++ take n buffer) r after;
      same_name = name_after old new slot (bytes ++ take n buffer) after;
      answer = (after.kept, rejected_all job (left_at old.world slot) bytes buffer m n rejection le within after.first ((answer rejection).0 refl));
    }

long_all : (job : Job) (left : Option Bytes) (bytes buffer : Bytes) (m n : ℕ) → m < n → n ≤ length buffer → length bytes + m ≡ TREE_MAX
    → IfSome left (λ all. all ≡ (bytes ++ take n buffer) ++ drop (length (bytes ++ take n buffer)) all)
    → AnswersPiece job (bytes ++ take m buffer) More → IfSome left (IsTooLong job)
long_all job None bytes buffer m n less fits limit first answer = tt
long_all job (Some all) bytes buffer m n less fits limit first answer =
    let more = take (n - m) (drop m buffer) ++ drop (length (bytes ++ take n buffer)) all in
    let is = begins bytes buffer all m n (omega arith) first in
    let count : length (bytes ++ take m buffer) ≡ TREE_MAX = omega (arith, length-append bytes (take m buffer), length-take-le m buffer (omega arith)) in
    let cut : take TREE_MAX all ≡ bytes ++ take m buffer =
    ap (take TREE_MAX) is ∙ ap (λ (k : ℕ). take k ((bytes ++ take m buffer) ++ more)) (sym count) ∙ take-append_seam (bytes ++ take m buffer) more in
    record {
      beyond = omega (arith, ap length first, length-append (bytes ++ take n buffer) (drop (length (bytes ++ take n buffer)) all), length-append bytes (take n buffer), length-take-le n buffer fits);
      goes_on = λ stops. no_more stops.0 ((answer stops.0).1 (subst (λ (t : Bytes). IsRejectedFor job t stops.0) cut stops.1));
    }

pub gives_size : (job : Job) (old mid new : State) (slot m n : ℕ) (bytes buffer : Bytes) → Reads (old.world.slots slot) → Taken old mid slot bytes
    → Takes mid new slot buffer n → m < n → length bytes + m ≡ TREE_MAX → AnswersPiece job (bytes ++ take m buffer) More
    → CheckFromGives job old new slot (Err Size)
gives_size job old mid new slot m n bytes buffer r t takes less limit answer =
    let after = taken_more old mid new slot n bytes buffer t takes in
    record {
      drains = drains old new slot (bytes ++ take n buffer) r after;
      same_name = name_after old new slot (bytes ++ take n buffer) after;
      answer = (after.kept, long_all job (left_at old.world slot) bytes buffer m n less takes.fits limit after.first answer);
    }

-- what holds of a stop holds of a result that is that stop
pub at_stop : (P : Result Verdict CheckStop → Type 0) (r : Result Verdict CheckStop) (e : CheckStop) → IsErrAnd r (λ x. x ≡ e) → P (Err e) → P r
at_stop P (Ok v) e h p = absurd h
at_stop P (Err x) e h p = subst (λ (y : CheckStop). P (Err y)) (sym h) p

pub fed_within : (run : CheckRun) (fed : Bytes) → Stands run fed → taken_by run ≤ TREE_MAX → length fed ≤ TREE_MAX
unfolding Stands taken_by
fed_within run fed stands within = omega (arith, stands.0)

pub fed_length : (fed buffer : Bytes) (m : ℕ) → m ≤ length buffer → length (fed ++ take m buffer) ≡ length fed + m
fed_length fed buffer m fits = omega (arith, length-append fed (take m buffer), length-take-le m buffer fits)

-- a piece that is not rejected goes on
pub goes_on : (job : Job) (fed : Bytes) (answer : Feed) → ((rejection : Rejection) → answer ≡ FeedRejected rejection → ⊥) → AnswersPiece job fed answer → AnswersPiece job fed More
goes_on job fed answer other answers = λ rejection. (λ e. absurd (no_more rejection e), λ rejected. absurd (other rejection ((answers rejection).1 rejected)))
