-- The next line of a text that comes to a whole tree.
use Rattle.std.proofs.Common.{ℕ, ◌≡◌, ◌+◌, ◌==◌, ◌<◌, Bool, true, false, [], ◌∷◌, ◌++◌, length, Option, Some, None, Ok, Err, refl, ap, sym, ◌∙◌, subst, arith, append_assoc, length-append}
use Rattle.std.proofs.lemmas.Bool.{eqb-true}
use Rattle.tqd_base.specs.World.{Bytes}
use Rattle.tqd_instance.specs.declared.job.Job.{Job}
use Rattle.bound_tree.specs.declared.line.TreeLine.{TreeLine}
use Rattle.bound_tree.specs.LineText.{line_text}
use Rattle.bound_tree.specs.ReadLine.{read_line}
use Rattle.bound_tree.specs.TreeText.{ended}
use Rattle.bound_tree.proofs.LineLaws.{read_as_text}
use Rattle.tree_checker.specs.declared.rejection.Rejection.{Rejection}
use Rattle.tree_checker.specs.Verdict.{in_leaves, in_slots, Phase, at_header, at_plan, at_buys, at_nodes, Step, reading, stopped, is_whole, line_ended, after_line, after_byte}
use Rattle.tree_checker.proofs.Bytewise.{stopped_stays}
use Rattle.verdict_laws.proofs.Ends.{IsWholeAt}

-- a line, and what is left after it
pub record HasNext (job : Job) (n : ℕ) (phase : Phase) (text : Bytes) (best : Option ℕ) : Type 0 where
  pub line : TreeLine
  pub next : Phase
  pub rest : Bytes
  pub text_is : text ≡ ended line ++ rest
  pub step : after_line job (n + 1) phase (Some line) ≡ Ok next
  pub whole : IsWholeAt job (reading (n + 1) [] next) rest best

-- without a line nothing goes on
no_line : (job : Job) (n : ℕ) (phase next : Phase) → after_line job n phase None ≡ Ok next → ⊥
unfolding after_line
no_line job n at_header next e = cc
no_line job n (at_plan store) next e = cc
no_line job n (at_buys store plan) next e = cc
no_line job n (at_nodes store best []) next e = cc
no_line job n (at_nodes in_leaves best (area ∷ due)) next e = cc
no_line job n (at_nodes (in_slots slots) best (area ∷ due)) next e = cc

line_stops : (job : Job) (rejection : Rejection) (rest : Bytes) (best : Option ℕ) → IsWholeAt job (stopped rejection) rest best → ⊥
line_stops job rejection rest best whole = let stays = stopped_stays job rejection rest in let read = whole.read in cc

-- what a line that was read leads to
led : (job : Job) (n : ℕ) (phase : Phase) (front rest : Bytes) (best : Option ℕ) (read : Option TreeLine) (step : Step) → read_line front ≡ read → after_line job (n + 1) phase read ≡ step
    → IsWholeAt job (line_ended (n + 1) step) rest best → HasNext job n phase (front ++ 10 ∷ rest) best
led job n phase front rest best read (Err rejection) is goes whole = absurd (line_stops job rejection rest best whole)
led job n phase front rest best None (Ok next) is goes whole = absurd (no_line job (n + 1) phase next goes)
led job n phase front rest best (Some line) (Ok next) is goes whole = record {
  line = line;
  next = next;
  rest = rest;
  text_is = ap (λ (t : Bytes). t ++ 10 ∷ rest) ((read_as_text front line).0 is).1 ∙ sym (append_assoc (line_text line) (10 ∷ []) rest);
  step = goes;
  whole = whole;
}

byte_next : (job : Job) (n : ℕ) (phase : Phase) (line : Bytes) (x : ℕ) (xs : Bytes) (best : Option ℕ) (feed : Bool) → is_whole phase ≡ false → (x == 10) ≡ feed
    → IsWholeAt job (reading n line phase) (x ∷ xs) best
    → (IsWholeAt job (reading n (line ++ x ∷ []) phase) xs best → HasNext job n phase ((line ++ x ∷ []) ++ xs) best) → HasNext job n phase (line ++ x ∷ xs) best
unfolding after_byte
byte_next job n phase line x xs best true open_still is whole more =
    let ten : x ≡ 10 = eqb-true x 10 is in
    let after : IsWholeAt job (line_ended (n + 1) (after_line job (n + 1) phase (read_line line))) xs best = record { lines = whole.lines; line = whole.line; store = whole.store; read = rw (open_still, is) at whole.read } in
    subst (λ (b : ℕ). HasNext job n phase (line ++ b ∷ xs) best) (sym ten) (led job n phase line xs best (read_line line) (after_line job (n + 1) phase (read_line line)) refl refl after)
byte_next job n phase line x xs best false open_still is whole more =
    let after : IsWholeAt job (reading n (line ++ x ∷ []) phase) xs best = record { lines = whole.lines; line = whole.line; store = whole.store; read = rw (open_still, is) at whole.read } in
    subst (λ (t : Bytes). HasNext job n phase t best) (append_assoc line (x ∷ []) xs) (more after)

never_whole : (job : Job) (n : ℕ) (phase : Phase) (line : Bytes) (best : Option ℕ) → is_whole phase ≡ false → IsWholeAt job (reading n line phase) [] best → ⊥
never_whole job n phase line best open_still whole =
    let read = whole.read in
    let same : phase ≡ at_nodes whole.store best [] = cc in
    let not_open = ap is_whole same in
    cc

goes_on : (job : Job) (n : ℕ) (phase : Phase) (best : Option ℕ) → is_whole phase ≡ false → (bytes line : Bytes) → IsWholeAt job (reading n line phase) bytes best → HasNext job n phase (line ++ bytes) best
goes_on job n phase best open_still [] line whole = absurd (never_whole job n phase line best open_still whole)
goes_on job n phase best open_still (x ∷ xs) line whole =
    byte_next job n phase line x xs best (x == 10) open_still refl whole (λ later. goes_on job n phase best open_still xs (line ++ x ∷ []) later)

-- where a line is due, there is one
pub next_line : (job : Job) (n : ℕ) (phase : Phase) (text : Bytes) (best : Option ℕ) → is_whole phase ≡ false → IsWholeAt job (reading n [] phase) text best → HasNext job n phase text best
next_line job n phase text best open_still whole = goes_on job n phase best open_still text [] whole

-- what is left is shorter
pub shorter : (text rest : Bytes) (line : TreeLine) → text ≡ ended line ++ rest → length rest < length text
shorter text rest line e = omega (arith, ap length e, length-append (ended line) rest, length-append (line_text line) (10 ∷ []))
