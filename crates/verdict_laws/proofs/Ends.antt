-- Where an accepted text is cut or goes on.
use Rattle.std.proofs.Common.{ℕ, ◌≡◌, ◌≢◌, ◌+◌, ◌==◌, Bool, true, false, [], ◌∷◌, ◌++◌, Option, Some, None, Ok, Err, refl, ap, sym, ◌∙◌, arith, cond}
use Rattle.std.proofs.lemmas.List.Sums.{sum_by-cons}
use Rattle.tqd_base.specs.World.{Bytes}
use Rattle.tqd_instance.specs.declared.job.Job.{Job}
use Rattle.bound_tree.specs.ReadLine.{read_line}
use Rattle.tree_checker.specs.declared.rejection.Why.TheVariants.{EarlyEnd, Trailing}
use Rattle.tree_checker.specs.declared.rejection.Verdict.{Verdict}
use Rattle.tree_checker.specs.declared.rejection.Verdict.TheVariants.{Optimal, NoPurchase, Rejected}
use Rattle.tree_checker.specs.Verdict.{RowStore, Phase, at_header, at_plan, at_buys, at_nodes, Step, Progress, reading, stopped, is_whole, line_ended, after_line, after_byte, after_bytes, at_first, verdict_at, verdict_of, verdict}
use Rattle.tree_checker.proofs.Bytewise.{stopped_stays, whole_trails}
use Rattle.verdict_laws.specs.Shown.{IsAccepted, as_least, as_none, feeds}
use Rattle.verdict_laws.proofs.OneLine.{bytes_append}

-- what was read was a whole tree
pub record IsWholeAt (job : Job) (from : Progress) (text : Bytes) (best : Option ℕ) : Type 0 where
  pub lines : ℕ
  pub line : Bytes
  pub store : RowStore
  pub read : after_bytes job from text ≡ reading lines line (at_nodes store best [])

-- a verdict other than a rejection
pub data IsYes : Verdict → Option ℕ → Type 0 where
  least : (c : ℕ) → IsYes (Optimal c) (Some c)
  none : IsYes NoPurchase None

phase_whole : (job : Job) (from : Progress) (text : Bytes) (n : ℕ) (line : Bytes) (phase : Phase) (v : Verdict) (best : Option ℕ) → IsYes v best
    → after_bytes job from text ≡ reading n line phase → verdict_at n phase ≡ v → IsWholeAt job from text best
phase_whole job from text n line at_header v best (least c) is e = absurd (cc)
phase_whole job from text n line at_header v best none is e = absurd (cc)
phase_whole job from text n line (at_plan store) v best (least c) is e = absurd (cc)
phase_whole job from text n line (at_plan store) v best none is e = absurd (cc)
phase_whole job from text n line (at_buys store plan) v best (least c) is e = absurd (cc)
phase_whole job from text n line (at_buys store plan) v best none is e = absurd (cc)
phase_whole job from text n line (at_nodes store (Some d) []) v best (least c) is e = let same : d ≡ c = cc in record { lines = n; line = line; store = store; read = is ∙ ap (λ (k : ℕ). reading n line (at_nodes store (Some k) [])) same }
phase_whole job from text n line (at_nodes store (Some d) []) v best none is e = absurd (cc)
phase_whole job from text n line (at_nodes store None []) v best (least c) is e = absurd (cc)
phase_whole job from text n line (at_nodes store None []) v best none is e = record { lines = n; line = line; store = store; read = is }
phase_whole job from text n line (at_nodes store (Some d) (area ∷ due)) v best (least c) is e = absurd (cc)
phase_whole job from text n line (at_nodes store (Some d) (area ∷ due)) v best none is e = absurd (cc)
phase_whole job from text n line (at_nodes store None (area ∷ due)) v best (least c) is e = absurd (cc)
phase_whole job from text n line (at_nodes store None (area ∷ due)) v best none is e = absurd (cc)

progress_whole : (job : Job) (from : Progress) (text : Bytes) (p : Progress) (v : Verdict) (best : Option ℕ) → IsYes v best
    → after_bytes job from text ≡ p → verdict_of p ≡ v → IsWholeAt job from text best
progress_whole job from text (reading n line phase) v best said is e = phase_whole job from text n line phase v best said is e
progress_whole job from text (stopped rejection) v best (least c) is e = absurd (cc)
progress_whole job from text (stopped rejection) v best none is e = absurd (cc)

-- a text with such a verdict has been read as a whole tree
pub yes_whole : (job : Job) (text : Bytes) (v : Verdict) (best : Option ℕ) → IsYes v best → verdict job text ≡ v → IsWholeAt job at_first text best
unfolding verdict
yes_whole job text v best said e = progress_whole job at_first text (after_bytes job at_first text) v best said refl e

pub record IsSomeWhole (job : Job) (text : Bytes) : Type 0 where
  pub best : Option ℕ
  pub whole : IsWholeAt job at_first text best

pub accepted_whole : (job : Job) (text : Bytes) → IsAccepted job text → IsSomeWhole job text
accepted_whole job text (as_least c e) = record { best = Some c; whole = yes_whole job text (Optimal c) (Some c) (least c) e }
accepted_whole job text (as_none e) = record { best = None; whole = yes_whole job text NoPurchase None none e }

-- a text that is read has as many lines as line feeds
ended_count : (job : Job) (n : ℕ) (step : Step) (xs : Bytes) (m : ℕ) (line : Bytes) (phase : Phase) → after_bytes job (line_ended n step) xs ≡ reading m line phase
    → ((p : Phase) → after_bytes job (reading n [] p) xs ≡ reading m line phase → m ≡ n + feeds xs) → m ≡ n + feeds xs
ended_count job n (Ok p) xs m line phase is more = more p is
ended_count job n (Err rejection) xs m line phase is more = let stays = stopped_stays job rejection xs in absurd (cc)

feeds_yes : (x : ℕ) (xs : Bytes) → (x == 10) ≡ true → feeds (x ∷ xs) ≡ 1 + feeds xs
feeds_yes x xs is = sum_by-cons (λ (b : ℕ). cond (b == 10) 1 0) x xs ∙ rw is refl

feeds_no : (x : ℕ) (xs : Bytes) → (x == 10) ≡ false → feeds (x ∷ xs) ≡ feeds xs
feeds_no x xs is = sum_by-cons (λ (b : ℕ). cond (b == 10) 1 0) x xs ∙ rw is (omega arith)

byte_count : (job : Job) (n : ℕ) (line : Bytes) (phase : Phase) (x : ℕ) (xs : Bytes) (m : ℕ) (line' : Bytes) (phase' : Phase) (whole feed : Bool)
    → is_whole phase ≡ whole → (x == 10) ≡ feed → after_bytes job (reading n line phase) (x ∷ xs) ≡ reading m line' phase'
    → ((k : ℕ) (l : Bytes) (p : Phase) → after_bytes job (reading k l p) xs ≡ reading m line' phase' → m ≡ k + feeds xs) → m ≡ n + feeds (x ∷ xs)
unfolding after_byte
byte_count job n line phase x xs m line' phase' true feed whole is e more = let trails = whole_trails job n line phase x xs whole in absurd (cc)
byte_count job n line phase x xs m line' phase' false true whole is e more =
    let ends = rw (whole, is) at e in
    let rest : m ≡ n + 1 + feeds xs = ended_count job (n + 1) (after_line job (n + 1) phase (read_line line)) xs m line' phase' ends (λ p h. more (n + 1) [] p h) in
    let one = feeds_yes x xs is in
    omega (arith, rest, one)
byte_count job n line phase x xs m line' phase' false false whole is e more =
    let kept = rw (whole, is) at e in
    let rest : m ≡ n + feeds xs = more n (line ++ x ∷ []) phase kept in
    let no = feeds_no x xs is in
    omega (arith, rest, no)

pub lines_are_feeds : (job : Job) (bytes : Bytes) (n : ℕ) (line : Bytes) (phase : Phase) (m : ℕ) (line' : Bytes) (phase' : Phase)
    → after_bytes job (reading n line phase) bytes ≡ reading m line' phase' → m ≡ n + feeds bytes
lines_are_feeds job [] n line phase m line' phase' e = let same : n ≡ m = cc in omega arith
lines_are_feeds job (x ∷ xs) n line phase m line' phase' e =
    byte_count job n line phase x xs m line' phase' (is_whole phase) (x == 10) refl refl e (λ k l p h. lines_are_feeds job xs k l p m line' phase' h)

early : (n : ℕ) (phase : Phase) → is_whole phase ≡ false → verdict_at n phase ≡ Rejected (record { line = n + 1; why = EarlyEnd })
early n at_header whole = refl
early n (at_plan store) whole = refl
early n (at_buys store plan) whole = refl
early n (at_nodes store (Some c) []) whole = absurd (cc)
early n (at_nodes store None []) whole = absurd (cc)
early n (at_nodes store (Some c) (area ∷ due)) whole = refl
early n (at_nodes store None (area ∷ due)) whole = refl

-- what is read before more bytes make it a whole tree
before_more : (job : Job) (n : ℕ) (line : Bytes) (phase : Phase) (rest : Bytes) (store : RowStore) (best : Option ℕ) (m : ℕ) (line' : Bytes) (whole : Bool) → is_whole phase ≡ whole → rest ≢ []
    → after_bytes job (reading n line phase) rest ≡ reading m line' (at_nodes store best []) → is_whole phase ≡ false
before_more job n line phase [] store best m line' whole is some e = absurd (some refl)
before_more job n line phase (x ∷ xs) store best m line' true is some e = let trails = whole_trails job n line phase x xs is in absurd (cc)
before_more job n line phase (x ∷ xs) store best m line' false is some e = is

cut_at : (job : Job) (text rest : Bytes) (store : RowStore) (best : Option ℕ) (m : ℕ) (line' : Bytes) (p : Progress) → after_bytes job at_first text ≡ p → rest ≢ []
    → after_bytes job p rest ≡ reading m line' (at_nodes store best []) → verdict_of p ≡ Rejected (record { line = feeds text + 1; why = EarlyEnd })
cut_at job text rest store best m line' (stopped rejection) is some e = let stays = stopped_stays job rejection rest in absurd (cc)
cut_at job text rest store best m line' (reading n line phase) is some e =
    let open_still = before_more job n line phase rest store best m line' (is_whole phase) refl some e in
    let count : n ≡ feeds text = omega (arith, lines_are_feeds job text 0 [] at_header n line phase is) in
    early n phase open_still ∙ ap (λ (k : ℕ). Rejected (record { line = k + 1; why = EarlyEnd })) count

pub ends_early : (job : Job) (text rest : Bytes) → IsAccepted job (text ++ rest) → rest ≢ [] → verdict job text ≡ Rejected (record { line = feeds text + 1; why = EarlyEnd })
unfolding verdict
ends_early job text rest accepted some =
    let all = accepted_whole job (text ++ rest) accepted in
    cut_at job text rest all.whole.store all.best all.whole.lines all.whole.line (after_bytes job at_first text) refl some (sym (bytes_append job at_first text rest) ∙ all.whole.read)

trail : (job : Job) (text rest : Bytes) (store : RowStore) (best : Option ℕ) (n : ℕ) (line : Bytes) → after_bytes job at_first text ≡ reading n line (at_nodes store best []) → rest ≢ []
    → verdict_of (after_bytes job at_first (text ++ rest)) ≡ Rejected (record { line = feeds text + 1; why = Trailing })
trail job text [] store best n line is some = absurd (some refl)
trail job text (x ∷ xs) store best n line is some =
    let count : n ≡ feeds text = omega (arith, lines_are_feeds job text 0 [] at_header n line (at_nodes store best []) is) in
    ap verdict_of (bytes_append job at_first text (x ∷ xs) ∙ (ap (λ (p : Progress). after_bytes job p (x ∷ xs)) is ∙ whole_trails job n line (at_nodes store best []) x xs refl))
    ∙ ap (λ (k : ℕ). Rejected (record { line = k + 1; why = Trailing })) count

pub trails : (job : Job) (text rest : Bytes) → IsAccepted job text → rest ≢ [] → verdict job (text ++ rest) ≡ Rejected (record { line = feeds text + 1; why = Trailing })
unfolding verdict
trails job text rest accepted some =
    let all = accepted_whole job text accepted in
    trail job text rest all.whole.store all.best all.whole.lines all.whole.line all.whole.read some
