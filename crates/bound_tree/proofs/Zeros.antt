-- The text of so many prices of 0.
use Rattle.std.proofs.Common.{ℕ, zero, suc, ◌≡◌, ◌+◌, pos, [], ◌∷◌, ◌++◌, map, replicate, sym, ◌∙◌, ap, arith, add-one, append_assoc}
use Rattle.std.proofs.lemmas.Fmt.{decimal_digit}
use Rattle.std.specs.Fmt.{decimal, signed_decimal}
use Rattle.tqd_base.specs.World.{Bytes}
use Rattle.bound_tree.specs.LineText.{fields_text}

abbrev pub zeros_text : ℕ → Bytes
zeros_text n = fields_text (map signed_decimal (replicate n (pos 0)))

zero_text : decimal 0 ≡ 48 ∷ []
zero_text = decimal_digit 0 (omega arith)

zeros_last : (n : ℕ) → zeros_text (suc n) ≡ zeros_text n ++ 32 ∷ 48 ∷ []
zeros_last zero = ap (λ (t : Bytes). 32 ∷ (t ++ [])) zero_text
zeros_last (suc n) =
    ap (λ (t : Bytes). 32 ∷ (decimal 0 ++ t)) (zeros_last n) ∙ sym (append_assoc (32 ∷ decimal 0) (zeros_text n) (32 ∷ 48 ∷ []))

pub zeros_more : (n : ℕ) → zeros_text (n + 1) ≡ zeros_text n ++ 32 ∷ 48 ∷ []
zeros_more n = ap zeros_text (add-one n) ∙ zeros_last n
