-- The records of a text, by those at its front.
use Rattle.std.proofs.Common.{◌≡◌, ℕ, zero, suc, ◌+◌, ◌-◌, ◌<◌, ◌≤◌, Bool, true, false, cond, List, [], ◌∷◌, ◌++◌, length, Option, Some, None, ◌&&◌, eqb, refl, ap, ◌∙◌, append-nil, arith}
use Rattle.std.proofs.lemmas.Option.{none-some, same_Some}
use Rattle.std.proofs.lemmas.Bool.{false≢true}
use Rattle.csv.specs.Machine.{Read, after_end, is_byte, ends_at_end, ends_with, field_after, fields_after, in_field, is_end, next_record, start_field, start_record, step}
use Rattle.csv.specs.Reading.{Reached, default_config, records, records_from}
use Rattle.csv.specs.declared.parser.Action.{Action}
use Rattle.csv.specs.declared.parser.Action.TheVariants as act
use Rattle.csv.specs.declared.parser.Config.{Config}
use Rattle.csv.specs.declared.parser.State.{State}
use Rattle.csv.specs.declared.parser.State.TheVariants as st
use Rattle.csv.specs.declared.parser.Terminator.{Terminator}
use Rattle.csv.specs.declared.parser.Terminator.TheVariants as term

-- after the end of a record no bytes are owed
abbrev EndsWhole : State × Action → Type 0
EndsWhole p = is_end p.1 ≡ true → ends_at_end p.0 ≡ false

either : (b : Bool) (p q : State × Action) → EndsWhole p → EndsWhole q → EndsWhole (cond b p q)
either true p q x y = x
either false p q x y = y

after_end-whole : (t : Terminator) (c : ℕ) → ends_at_end (after_end t c) ≡ false
after_end-whole term.CRLF c = go (eqb c 13) where
  go : (b : Bool) → ends_at_end (cond b st.AfterCr st.StartRecord) ≡ false
  go true = refl
  go false = refl
after_end-whole (term.Any t) c = refl

in_field-whole : (cfg : Config) (c : ℕ) → EndsWhole (in_field cfg c)
in_field-whole cfg c =
    either (eqb c cfg.delimiter) (st.StartField, act.EndField) _ (λ e. absurd (false≢true e))
    (either (ends_with cfg.terminator c) (after_end cfg.terminator c, act.EndRecord) (st.InField, act.Copy) (λ e. after_end-whole cfg.terminator c) (λ e. absurd (false≢true e)))

quiet : (s : State) → EndsWhole (s, act.Skip)
quiet s e = absurd (false≢true e)

copied : (s : State) → EndsWhole (s, act.Copy)
copied s e = absurd (false≢true e)

start_field-whole : (cfg : Config) (c : ℕ) → EndsWhole (start_field cfg c)
start_field-whole cfg c = either (cfg.quoting && eqb c cfg.quote) (st.InQuoted, act.Skip) (in_field cfg c) (quiet st.InQuoted) (in_field-whole cfg c)

start_record-whole : (cfg : Config) (c : ℕ) → EndsWhole (start_record cfg c)
start_record-whole cfg c =
    either (ends_with cfg.terminator c) (st.StartRecord, act.Skip) _ (quiet st.StartRecord)
    (either (is_byte cfg.comment c) (st.InComment, act.Skip) (start_field cfg c) (quiet st.InComment) (start_field-whole cfg c))

step-whole : (cfg : Config) (s : State) (c : ℕ) → EndsWhole (step cfg s c)
step-whole cfg st.StartRecord c = start_record-whole cfg c
step-whole cfg st.StartField c = start_field-whole cfg c
step-whole cfg st.InField c = in_field-whole cfg c
step-whole cfg st.InQuoted c =
    either (cfg.quoting && eqb c cfg.quote) (st.AfterQuote, act.Skip) _ (quiet st.AfterQuote)
    (either (cfg.quoting && is_byte cfg.escape c) (st.InEscape, act.Skip) (st.InQuoted, act.Copy) (quiet st.InEscape) (copied st.InQuoted))
step-whole cfg st.InEscape c = copied st.InQuoted
step-whole cfg st.AfterQuote c = either (cfg.quoting && cfg.double_quote && eqb c cfg.quote) (st.InQuoted, act.Copy) (in_field cfg c) (copied st.InQuoted) (in_field-whole cfg c)
step-whole cfg st.InComment c = either (eqb c 10) (st.StartRecord, act.Skip) (st.InComment, act.Skip) (quiet st.StartRecord) (quiet st.InComment)
step-whole cfg st.AfterCr c = either (eqb c 10) (st.StartRecord, act.Skip) (start_record cfg c) (quiet st.StartRecord) (start_record-whole cfg c)

-- a record takes bytes, and leaves no state in which the end of the text is another record
record Takes (xs : List ℕ) (p : Read) : Type 0 where
  whole : ends_at_end p.1 ≡ false
  rest : length p.2 ≤ length xs
  some : 0 < length xs → length p.2 < length xs

takes-same : (xs : List ℕ) (p q : Read) → Takes xs p → p ≡ q → Takes xs q
takes-same xs p q t e = rw (← e) t

at_end-takes : (b : Bool) (r : Read) (p : Read) → Takes [] r → cond b (Some r) None ≡ Some p → Takes [] p
at_end-takes true r p t e = takes-same [] r p t (same_Some r p e)
at_end-takes false r p t e = absurd (none-some p e)

within-takes : (b : Bool) (c : ℕ) (rest : List ℕ) (r p : Read) (later : Option Read) → (b ≡ true → Takes (c ∷ rest) r) → (later ≡ Some p → Takes rest p) → cond b (Some r) later ≡ Some p → Takes (c ∷ rest) p
within-takes true c rest r p later now others e = takes-same (c ∷ rest) r p (now refl) (same_Some r p e)
within-takes false c rest r p later now others e =
    let t = others e in
    record { whole = t.whole; rest = omega (arith, t.rest); some = λ _. omega (arith, t.rest) }

next_record-takes : (cfg : Config) (s : State) (fields : List (List ℕ)) (field xs : List ℕ) (p : Read) → next_record cfg s fields field xs ≡ Some p → Takes xs p
unfolding next_record
next_record-takes cfg s fields field [] p e =
    at_end-takes (ends_at_end s) (fields ++ (field ∷ []), st.StartRecord, []) p (record { whole = refl; rest = omega arith; some = λ h. h }) e
next_record-takes cfg s fields field (c ∷ rest) p e =
    within-takes (is_end (step cfg s c).1) c rest (fields_after (step cfg s c).1 fields field, (step cfg s c).0, rest) p
    (next_record cfg (step cfg s c).0 (fields_after (step cfg s c).1 fields field) (field_after (step cfg s c).1 c field) rest)
    (λ ends. record { whole = step-whole cfg s c ends; rest = omega arith; some = λ _. omega arith })
    (next_record-takes cfg (step cfg s c).0 (fields_after (step cfg s c).1 fields field) (field_after (step cfg s c).1 c field) rest p) e

nothing_left : (cfg : Config) (s : State) (xs : List ℕ) (p : Read) → ends_at_end s ≡ false → next_record cfg s [] [] xs ≡ Some p → 0 < length xs
unfolding next_record
nothing_left cfg s [] p whole e = absurd (none-some p (rw whole at e))
nothing_left cfg s (c ∷ rest) p whole e = omega arith

-- the records that were reached are no more than the bytes that they took
reached-few : (cfg : Config) (s s2 : State) (xs ys : List ℕ) (rows : List (List (List ℕ))) → ends_at_end s ≡ false → Reached cfg s xs rows s2 ys → length rows + length ys ≤ length xs
unfolding Reached
reached-few cfg s s2 xs ys [] whole h = omega (arith, ap length h.1)
reached-few cfg s s2 xs ys (r ∷ rs) whole h =
    let t = next_record-takes cfg s [] [] xs h.0 h.1 in
    let few = reached-few cfg h.0.1 s2 h.0.2 ys rs t.whole h.3 in
    omega (arith, t.some (nothing_left cfg s xs h.0 whole h.1))

-- the records of a text begin with those that were reached
records_from-front : (cfg : Config) (n : ℕ) (s s2 : State) (xs ys : List ℕ) (rows : List (List (List ℕ))) → Reached cfg s xs rows s2 ys → length rows ≤ n → records_from cfg n s xs ≡ rows ++ records_from cfg (n - length rows) s2 ys
unfolding Reached records_from
records_from-front cfg n s s2 xs ys [] h few = let all : n - 0 ≡ n = omega arith in rw (all, h.0, h.1) refl
records_from-front cfg zero s s2 xs ys (r ∷ rs) h few = absurd (omega arith)
records_from-front cfg (suc n) s s2 xs ys (r ∷ rs) h few =
    let others = records_from-front cfg n h.0.1 s2 h.0.2 ys rs h.3 (omega arith) in
    let left : suc n - suc (length rs) ≡ n - length rs = omega arith in
    rw (h.1, h.2, others, left) refl

pub records-front : (text rest : List ℕ) (past : List (List (List ℕ))) (s : State) → Reached default_config st.StartRecord text past s rest → (more : List (List (List ℕ))) × (records default_config text ≡ past ++ more)
records-front text rest past s h =
    let few = reached-few default_config st.StartRecord s text rest past refl h in
    (records_from default_config (length text + 1 - length past) s rest, records_from-front default_config (length text + 1) st.StartRecord s text rest past h (omega arith))

pub records-all : (text rest : List ℕ) (past : List (List (List ℕ))) (s : State) → Reached default_config st.StartRecord text past s rest → next_record default_config s [] [] rest ≡ None → records default_config text ≡ past
unfolding records_from
records-all text rest past s h none =
    let few = reached-few default_config st.StartRecord s text rest past refl h in
    let front = records_from-front default_config (length text + 1) st.StartRecord s text rest past h (omega arith) in
    let more : length text + 1 - length past ≡ suc (length text - length past) = omega arith in
    front ∙ rw (more, none) (append-nil past)
