-- Reading one whole line.
use Rattle.std.proofs.Common.{ℕ, ◌≡◌, ◌≢◌, ◌+◌, false, [], ◌∷◌, ◌++◌, Some, refl, ap, sym, ◌∙◌, append-nil, append_assoc}
use Rattle.std.specs.List.{All}
use Rattle.std.proofs.lemmas.Bool.{ne_eqb}
use Rattle.std.proofs.lemmas.List.Elements.{All-head, All-tail}
use Rattle.std.proofs.lemmas.List.Sums.{fold-append}
use Rattle.tqd_base.specs.World.{Bytes}
use Rattle.tqd_instance.specs.declared.job.Job.{Job}
use Rattle.bound_tree.specs.declared.line.TreeLine.{TreeLine}
use Rattle.bound_tree.specs.LineText.{line_text}
use Rattle.bound_tree.specs.ReadLine.{read_line}
use Rattle.bound_tree.specs.TreeText.{ended}
use Rattle.bound_tree.proofs.LineLaws.{read_as_text, no_feed}
use Rattle.tree_checker.specs.Verdict.{Phase, Progress, reading, is_whole, line_ended, after_line, after_byte, after_bytes}

pub bytes_append : (job : Job) (p : Progress) (xs ys : Bytes) → after_bytes job p (xs ++ ys) ≡ after_bytes job (after_bytes job p xs) ys
bytes_append job p xs ys = fold-append (after_byte job) p xs ys

byte_kept : (job : Job) (n : ℕ) (line : Bytes) (phase : Phase) (byte : ℕ) → is_whole phase ≡ false → byte ≢ 10 → after_byte job (reading n line phase) byte ≡ reading n (line ++ byte ∷ []) phase
unfolding after_byte
byte_kept job n line phase byte whole other = rw (whole, ne_eqb byte 10 other) refl

byte_ends : (job : Job) (n : ℕ) (line : Bytes) (phase : Phase) → is_whole phase ≡ false → after_byte job (reading n line phase) 10 ≡ line_ended (n + 1) (after_line job (n + 1) phase (read_line line))
unfolding after_byte
byte_ends job n line phase whole = rw whole refl

-- bytes without a line feed are kept
pub kept : (job : Job) (n : ℕ) (phase : Phase) (bytes line : Bytes) → is_whole phase ≡ false → All (λ b. b ≢ 10) bytes → after_bytes job (reading n line phase) bytes ≡ reading n (line ++ bytes) phase
kept job n phase [] line whole all = ap (λ (l : Bytes). reading n l phase) (sym (append-nil line))
kept job n phase (x ∷ xs) line whole all =
    ap (λ (p : Progress). after_bytes job p xs) (byte_kept job n line phase x whole (All-head (λ b. b ≢ 10) x xs all))
    ∙ (kept job n phase xs (line ++ x ∷ []) whole (All-tail (λ b. b ≢ 10) x xs all) ∙ ap (λ (l : Bytes). reading n l phase) (append_assoc line (x ∷ []) xs))

-- a line of a text leads to what it says
pub line_step : (job : Job) (n : ℕ) (phase : Phase) (line : TreeLine) (after : Bytes) → is_whole phase ≡ false → read_line (line_text line) ≡ Some line
    → after_bytes job (reading n [] phase) (ended line ++ after) ≡ after_bytes job (line_ended (n + 1) (after_line job (n + 1) phase (Some line))) after
line_step job n phase line after whole back =
    let spelled = ((read_as_text (line_text line) line).0 back).0 in
    let first = kept job n phase (line_text line) [] whole (no_feed line spelled) in
    bytes_append job (reading n [] phase) (ended line) after
    ∙ ap (λ (p : Progress). after_bytes job p after) (
    bytes_append job (reading n [] phase) (line_text line) (10 ∷ [])
    ∙ (ap (λ (p : Progress). after_bytes job p (10 ∷ [])) first ∙ (byte_ends job n (line_text line) phase whole ∙ ap (λ r. line_ended (n + 1) (after_line job (n + 1) phase r)) back)))
