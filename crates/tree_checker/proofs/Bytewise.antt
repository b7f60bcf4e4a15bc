-- Reading goes on byte by byte: up to a line feed nothing is judged.
use Rattle.std.proofs.Common.{ℕ, suc, ◌≡◌, ◌+◌, ◌<◌, ◌≤◌, ◌==◌, Bool, true, false, if◌then◌else◌, ltb, Some, None, [], ◌∷◌, ◌++◌, length, take, drop, refl, ap, sym, ◌∙◌, arith, append-nil, append_assoc, take-add}
use Rattle.std.specs.List.{position, position_or_len}
use Rattle.std.proofs.lemmas.Bool.{ltb-true}
use Rattle.std.proofs.lemmas.Bool.Decides.{nat_tests}
use Rattle.std.proofs.lemmas.Option.{cond_some}
use Rattle.std.proofs.lemmas.List.{take_all}
use Rattle.std.proofs.lemmas.List.Sums.{fold-append}
use Rattle.std.proofs.lemmas.List.Folds.{fold_stays}
use Rattle.tqd_base.specs.World.{Bytes}
use Rattle.tqd_instance.specs.declared.job.Job.{Job}
use Rattle.bound_tree.specs.ReadLine.{read_line}
use Rattle.tree_checker.specs.declared.rejection.Why.TheVariants.{Trailing}
use Rattle.tree_checker.specs.declared.rejection.Rejection.{Rejection}
use Rattle.tree_checker.specs.LineEnd.{ends_line}
use Rattle.tree_checker.specs.Verdict.{Phase, Progress, reading, stopped, is_whole, line_ended, after_line, after_byte, after_bytes}

-- a rejection stays
pub stopped_stays : (job : Job) (rejection : Rejection) (bytes : Bytes) → after_bytes job (stopped rejection) bytes ≡ stopped rejection
unfolding after_byte
stopped_stays job rejection bytes = fold_stays (after_byte job) (stopped rejection) (λ byte. refl) bytes

-- bytes after a whole tree trail
pub whole_trails : (job : Job) (lines : ℕ) (line : Bytes) (phase : Phase) (byte : ℕ) (bytes : Bytes) → is_whole phase ≡ true
    → after_bytes job (reading lines line phase) (byte ∷ bytes) ≡ stopped (record { line = lines + 1; why = Trailing })
unfolding after_byte
whole_trails job lines line phase byte bytes whole = rw whole (stopped_stays job (record { line = lines + 1; why = Trailing }) bytes)

byte_kept : (job : Job) (lines : ℕ) (line : Bytes) (phase : Phase) (byte : ℕ) → is_whole phase ≡ false → (byte == 10) ≡ false
    → after_byte job (reading lines line phase) byte ≡ reading lines (line ++ byte ∷ []) phase
unfolding after_byte
byte_kept job lines line phase byte whole other = rw (whole, other) refl

pub byte_ends : (job : Job) (lines : ℕ) (line : Bytes) (phase : Phase) (byte : ℕ) → is_whole phase ≡ false → (byte == 10) ≡ true
    → after_byte job (reading lines line phase) byte ≡ line_ended (lines + 1) (after_line job (lines + 1) phase (read_line line))
unfolding after_byte
byte_ends job lines line phase byte whole feed = rw (whole, feed) refl

pub first_feeds : (x : ℕ) (xs : Bytes) → ends_line x ≡ true → position_or_len ends_line (x ∷ xs) ≡ 0
first_feeds x xs is = rw is refl

pub first_goes : (x : ℕ) (xs : Bytes) → ends_line x ≡ false → position_or_len ends_line (x ∷ xs) ≡ suc (position_or_len ends_line xs)
first_goes x xs is = rw is (omega arith)

-- bytes without a line feed are kept
kept_more : (job : Job) (lines : ℕ) (phase : Phase) (x : ℕ) (xs line : Bytes) (b : Bool) → is_whole phase ≡ false → ends_line x ≡ b
    → length (x ∷ xs) ≤ position_or_len ends_line (x ∷ xs)
    → (length xs ≤ position_or_len ends_line xs → after_bytes job (reading lines (line ++ x ∷ []) phase) xs ≡ reading lines ((line ++ x ∷ []) ++ xs) phase)
    → after_bytes job (reading lines line phase) (x ∷ xs) ≡ reading lines (line ++ x ∷ xs) phase
kept_more job lines phase x xs line true whole is none more = absurd (let zeroth = first_feeds x xs is in omega arith)
kept_more job lines phase x xs line false whole is none more =
    let later = first_goes x xs is in
    ap (λ (p : Progress). after_bytes job p xs) (byte_kept job lines line phase x whole is)
    ∙ more (omega arith)
    ∙ ap (λ (l : Bytes). reading lines l phase) (append_assoc line (x ∷ []) xs)

pub bytes_kept : (job : Job) (lines : ℕ) (phase : Phase) → is_whole phase ≡ false → (bytes line : Bytes) → length bytes ≤ position_or_len ends_line bytes
    → after_bytes job (reading lines line phase) bytes ≡ reading lines (line ++ bytes) phase
bytes_kept job lines phase whole [] line none = ap (λ (l : Bytes). reading lines l phase) (sym (append-nil line))
bytes_kept job lines phase whole (x ∷ xs) line none =
    kept_more job lines phase x xs line (ends_line x) whole refl none (λ less. bytes_kept job lines phase whole xs (line ++ x ∷ []) less)

-- the line that ends with the first line feed
abbrev pub ended_at : Job → ℕ → Phase → Bytes → Progress
ended_at job lines phase line = line_ended (lines + 1) (after_line job (lines + 1) phase (read_line line))

read_more : (job : Job) (lines : ℕ) (phase : Phase) (x : ℕ) (xs line : Bytes) (b : Bool) → is_whole phase ≡ false → ends_line x ≡ b
    → position_or_len ends_line (x ∷ xs) < length (x ∷ xs)
    → (position_or_len ends_line xs < length xs → after_bytes job (reading lines (line ++ x ∷ []) phase) (take (suc (position_or_len ends_line xs)) xs)
    ≡ ended_at job lines phase ((line ++ x ∷ []) ++ take (position_or_len ends_line xs) xs))
    → after_bytes job (reading lines line phase) (take (suc (position_or_len ends_line (x ∷ xs))) (x ∷ xs))
    ≡ ended_at job lines phase (line ++ take (position_or_len ends_line (x ∷ xs)) (x ∷ xs))
read_more job lines phase x xs line true whole is some more =
    let zeroth = first_feeds x xs is in
    let nothing = append-nil line in
    rw (zeroth, nothing) (byte_ends job lines line phase x whole is)
read_more job lines phase x xs line false whole is some more =
    let later = first_goes x xs is in
    rw later (
    ap (λ (p : Progress). after_bytes job p (take (suc (position_or_len ends_line xs)) xs)) (byte_kept job lines line phase x whole is)
    ∙ more (omega arith)
    ∙ ap (ended_at job lines phase) (append_assoc line (x ∷ []) (take (position_or_len ends_line xs) xs)))

-- up to the first line feed, the bytes are the rest of a line
pub line_read : (job : Job) (lines : ℕ) (phase : Phase) → is_whole phase ≡ false → (bytes line : Bytes) → position_or_len ends_line bytes < length bytes
    → after_bytes job (reading lines line phase) (take (suc (position_or_len ends_line bytes)) bytes)
    ≡ ended_at job lines phase (line ++ take (position_or_len ends_line bytes) bytes)
line_read job lines phase whole [] line some = absurd (omega arith)
line_read job lines phase whole (x ∷ xs) line some =
    read_more job lines phase x xs line (ends_line x) whole refl some (λ less. line_read job lines phase whole xs (line ++ x ∷ []) less)

not_found : (bytes : Bytes) (n : ℕ) → (if ltb n (length bytes) then Some n else None) ≡ None → length bytes ≤ n
not_found bytes n e = grind (arith, nat_tests)

-- a line of which a piece has the end is read
pub piece_ends : (job : Job) (lines : ℕ) (line : Bytes) (phase : Phase) (bytes : Bytes) (at : ℕ) → is_whole phase ≡ false → position ends_line bytes ≡ Some at
    → after_bytes job (reading lines line phase) (take (at + 1) bytes) ≡ ended_at job lines phase (line ++ take at bytes)
piece_ends job lines line phase bytes at whole e =
    let found = cond_some (ltb (position_or_len ends_line bytes) (length bytes)) (position_or_len ends_line bytes) at e in
    let read = line_read job lines phase whole bytes line (ltb-true (position_or_len ends_line bytes) (length bytes) found.0) in
    let count : at + 1 ≡ suc (position_or_len ends_line bytes) = omega (arith, found.1) in
    ap (λ (n : ℕ). after_bytes job (reading lines line phase) (take n bytes)) count
    ∙ read ∙ ap (λ (n : ℕ). ended_at job lines phase (line ++ take n bytes)) found.1

-- a piece without a line feed is kept
pub piece_kept : (job : Job) (lines : ℕ) (line : Bytes) (phase : Phase) (bytes : Bytes) → is_whole phase ≡ false → position ends_line bytes ≡ None
    → after_bytes job (reading lines line phase) (take (length bytes) bytes) ≡ reading lines (line ++ bytes) phase
piece_kept job lines line phase bytes whole e =
    let all : take (length bytes) bytes ≡ bytes = take_all (length bytes) bytes (omega arith) in
    ap (after_bytes job (reading lines line phase)) all
    ∙ bytes_kept job lines phase whole bytes line (not_found bytes (position_or_len ends_line bytes) e)

-- bytes and then others
pub bytes_more : (job : Job) (p : Progress) (bytes : Bytes) (at n : ℕ) → after_bytes job (after_bytes job p (take at bytes)) (take n (drop at bytes)) ≡ after_bytes job p (take (at + n) bytes)
bytes_more job p bytes at n = sym (fold-append (after_byte job) p (take at bytes) (take n (drop at bytes))) ∙ ap (after_bytes job p) (sym (take-add at n bytes))
