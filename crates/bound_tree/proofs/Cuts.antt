-- A text that is cut at a byte, and its words.
use Rattle.std.proofs.Common.{◌≡◌, ℕ, ◌+◌, ◌-◌, ◌<◌, ◌≤◌, Bool, true, false, [], ◌∷◌, length, take, drop, Option, None, Some, Bor, refl, sym, ◌∙◌, ap, arith, eqb, ltb, length-drop}
use Rattle.std.specs.List.{slice_split, position, position_or_len, before_first, after_first}
use Rattle.std.proofs.lemmas.Bool.{ltb-true}
use Rattle.std.proofs.lemmas.Bool.Decides.{nat_tests}
use Rattle.std.specs.Prelude.{if◌then◌else◌}
use Rattle.std.proofs.lemmas.Option.{cond_some}
use Rattle.std.proofs.lemmas.List.{take_all}
use Rattle.std.proofs.lemmas.List.Splits.{slice_split_first}
use Rattle.tqd_base.specs.World.{Bytes}
use Rattle.bound_tree.specs.Words.{words}
use Rattle.bound_tree.specs.Fields.{CutsAt, fields_in}

uncut_step : (p : ℕ → Bool) (x : ℕ) (xs : Bytes) (b : Bool) → p x ≡ b → (length xs ≤ position_or_len p xs → slice_split p xs ≡ xs ∷ [])
    → length (x ∷ xs) ≤ position_or_len p (x ∷ xs) → slice_split p (x ∷ xs) ≡ (x ∷ xs) ∷ []
uncut_step p x xs true is more h = absurd (let none = rw is at h in omega arith)
uncut_step p x xs false is more h = let longer = rw is at h in rw (is, more (omega arith)) refl

-- where no byte passes, the text is the one part
pub uncut : (p : ℕ → Bool) (xs : Bytes) → length xs ≤ position_or_len p xs → slice_split p xs ≡ xs ∷ []
uncut p [] long = refl
uncut p (x ∷ xs) long = uncut_step p x xs (p x) refl (uncut p xs) long

not_some : (text : Bytes) (n : ℕ) → (if ltb n (length text) then Some n else None) ≡ None → length text ≤ n
not_some text n e = grind (arith, nat_tests)

pub cut_nowhere : (byte : ℕ) (text : Bytes) → position (λ b. eqb b byte) text ≡ None → CutsAt byte text text None
cut_nowhere byte text e = (not_some text (position_or_len (λ b. eqb b byte) text) e, refl)

pub cut_somewhere : (byte : ℕ) (text : Bytes) (at : ℕ) (before after : Bytes) → position (λ b. eqb b byte) text ≡ Some at → before ≡ take at text
    → after ≡ take (length text - (at + 1)) (drop (at + 1) text)
    → (position_or_len (λ b. eqb b byte) text < length text) × (before ≡ before_first (λ b. eqb b byte) text) × (after ≡ after_first (λ b. eqb b byte) text)
cut_somewhere byte text at before after e first second =
    let found = cond_some (ltb (position_or_len (λ b. eqb b byte) text) (length text)) (position_or_len (λ b. eqb b byte) text) at e in
    let whole : take (length text - (at + 1)) (drop (at + 1) text) ≡ drop (at + 1) text = take_all (length text - (at + 1)) (drop (at + 1) text) (omega (arith, length-drop (at + 1) text)) in
    (ltb-true _ _ found.0, rw found.1 first, rw found.1 (second ∙ whole))

pub words_cut : (line before : Bytes) (after : Option (Bor Bytes)) → CutsAt 32 line before after → words line ≡ before ∷ fields_in after
words_cut line before None c = uncut (λ b. eqb b 32) line c.0 ∙ ap (λ (t : Bytes). t ∷ []) (sym c.1)
words_cut line before (Some after) c = rw (c.1, c.2) (slice_split_first (λ b. eqb b 32) line 0 c.0)
