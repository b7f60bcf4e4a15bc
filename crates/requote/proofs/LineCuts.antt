-- The whole lines of a text that is cut at its first line feed.
use Rattle.std.proofs.Common.{◌≡◌, ℕ, ◌+◌, ◌-◌, ◌<◌, List, [], ◌∷◌, length, take, drop, None, Some, refl, sym, ◌∙◌, ap, arith}
use Rattle.std.specs.List.{slice_split, position, before_first, after_first}
use Rattle.std.proofs.lemmas.List.Splits.{slice_split_first, length-slice_split}
use Rattle.tqd_base.specs.World.{Bytes}
use Rattle.bound_tree.proofs.Cuts.{uncut, cut_nowhere, cut_somewhere}
use Rattle.tree_checker.specs.LineEnd.{ends_line}
use Rattle.requote.specs.Lines.{without_last, lines_of}

-- a text without a line feed has no whole line
pub no_line : (text : Bytes) → position ends_line text ≡ None → lines_of text ≡ []
unfolding lines_of
no_line text e = ap (λ (parts : List Bytes). without_last parts) (uncut ends_line text (cut_nowhere 10 text e).0)

keep_first : (line : Bytes) (parts : List Bytes) → 0 < length parts → without_last (line ∷ parts) ≡ line ∷ without_last parts
keep_first line [] some = absurd (omega arith)
keep_first line (part ∷ parts) some = refl

-- what stands before the first line feed is the first line, and what stands after it has the other ones
pub first_line : (text : Bytes) (at : ℕ) (before after : Bytes) → position ends_line text ≡ Some at → before ≡ take at text
    → after ≡ take (length text - (at + 1)) (drop (at + 1) text) → lines_of text ≡ before ∷ lines_of after
unfolding lines_of
first_line text at before after e first second =
    let c = cut_somewhere 10 text at before after e first second in
    let rest = slice_split ends_line (after_first ends_line text) in
    ap (λ (parts : List Bytes). without_last parts) (slice_split_first ends_line text 0 c.0)
    ∙ (keep_first (before_first ends_line text) rest (omega (arith, length-slice_split ends_line (after_first ends_line text)))
    ∙ (ap (λ (b : Bytes). b ∷ without_last rest) (sym c.1)
    ∙ ap (λ (b : Bytes). before ∷ without_last (slice_split ends_line b)) (sym c.2)))
