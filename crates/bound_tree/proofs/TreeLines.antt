-- The lines of a tree, one after another.
use Rattle.std.proofs.Common.{ℕ, zero, suc, ◌≡◌, ◌+◌, ◌<◌, ◌++◌, List, [], ◌∷◌, take, drop, map, Some, refl, sym, ◌∙◌, ap, arith, add-one, append_assoc, append-nil, inl, inr, subst}
use Rattle.std.proofs.lemmas.Bool.{cases_lt}
use Rattle.std.specs.List.{slice_get}
use Rattle.tqd_base.specs.World.{Bytes}
use Rattle.bound_tree.specs.declared.leaf.TreeNode.{TreeNode}
use Rattle.bound_tree.specs.declared.line.TreeLine.{TreeLine}
use Rattle.bound_tree.specs.TreeText.{lines_to, node_line, ended, lines_text}
use Rattle.bound_tree.proofs.Texts.{map_append}

pub lines_append : (xs ys : List TreeLine) → lines_text (xs ++ ys) ≡ lines_text xs ++ lines_text ys
unfolding lines_text
lines_append [] ys = refl
lines_append (x ∷ xs) ys = ap (λ (t : Bytes). ended x ++ t) (lines_append xs ys) ∙ sym (append_assoc (ended x) (lines_text xs) (lines_text ys))

pub lines_none : lines_text [] ≡ []
unfolding lines_text
lines_none = refl

pub lines_first : (x : TreeLine) (xs : List TreeLine) → lines_text (x ∷ xs) ≡ ended x ++ lines_text xs
unfolding lines_text
lines_first x xs = refl

pub lines_to-zero : (f : ℕ → List TreeLine) → lines_to 0 f ≡ []
unfolding lines_to
lines_to-zero f = refl

pub lines_to-suc : (n : ℕ) (f : ℕ → List TreeLine) → lines_to (suc n) f ≡ lines_to n f ++ f n
unfolding lines_to
lines_to-suc n f = refl

pub lines_to-more : (n : ℕ) (f : ℕ → List TreeLine) → lines_to (n + 1) f ≡ lines_to n f ++ f n
lines_to-more n f = ap (λ (m : ℕ). lines_to m f) (add-one n) ∙ lines_to-suc n f

-- the texts of some of them and of the next
pub text_more : (n : ℕ) (f : ℕ → List TreeLine) → lines_text (lines_to (n + 1) f) ≡ lines_text (lines_to n f) ++ lines_text (f n)
text_more n f = ap lines_text (lines_to-more n f) ∙ lines_append (lines_to n f) (f n)

-- what comes after the first k of them
pub record HasRest (text before here : Bytes) : Type 0 where
  pub rest : Bytes
  pub joined : text ≡ before ++ (here ++ rest)

rest_last : (n : ℕ) (f : ℕ → List TreeLine) → HasRest (lines_text (lines_to (suc n) f)) (lines_text (lines_to n f)) (lines_text (f n))
rest_last n f = record {
  rest = [];
  joined = ap lines_text (lines_to-suc n f) ∙ (lines_append (lines_to n f) (f n) ∙ ap (λ (t : Bytes). lines_text (lines_to n f) ++ t) (sym (append-nil (lines_text (f n)))));
}

rest_more : (n : ℕ) (f : ℕ → List TreeLine) (before here : Bytes) → HasRest (lines_text (lines_to n f)) before here → HasRest (lines_text (lines_to (suc n) f)) before here
rest_more n f before here h = record {
  rest = h.rest ++ lines_text (f n);
  joined = ap lines_text (lines_to-suc n f) ∙ (lines_append (lines_to n f) (f n) ∙ (ap (λ (t : Bytes). t ++ lines_text (f n)) h.joined ∙ simp append_assoc));
}

pub rest_of : (n k : ℕ) (f : ℕ → List TreeLine) → k < n → HasRest (lines_text (lines_to n f)) (lines_text (lines_to k f)) (lines_text (f k))
rest_of zero k f below = absurd (omega arith)
rest_of (suc n) k f below = elim (cases_lt k n) [
  | inl before ↦ rest_more n f (lines_text (lines_to k f)) (lines_text (f k)) (rest_of n k f before)
  | inr last ↦ let same : n ≡ k = omega arith in
      subst (λ (m : ℕ). HasRest (lines_text (lines_to (suc n) f)) (lines_text (lines_to m f)) (lines_text (f m))) same (rest_last n f)
]

-- a node at its place
pub record IsNode (nodes : List TreeNode) (at : ℕ) (node : TreeNode) : Type 0 where
  pub here : nodes ≡ take at nodes ++ (node ∷ drop (at + 1) nodes)
  pub taken : take (at + 1) nodes ≡ take at nodes ++ node ∷ []

pub node_at : (nodes : List TreeNode) (at : ℕ) (node : TreeNode) → slice_get nodes at ≡ Some node → IsNode nodes at node
node_at [] at node e = absurd (cc)
node_at (first ∷ nodes) zero node e = let same : first ≡ node = cc in record { here = ap (λ (t : TreeNode). t ∷ nodes) same; taken = ap (λ (t : TreeNode). t ∷ []) same }
node_at (first ∷ nodes) (suc at) node e =
    let is = node_at nodes at node e in
    let next : suc (suc at) ≡ suc at + 1 = omega arith in
    let after : suc at ≡ at + 1 = omega arith in
    record {
      here = ap (λ (t : List TreeNode). first ∷ t) (is.here ∙ ap (λ (k : ℕ). take at nodes ++ (node ∷ drop k nodes)) (sym after)) ∙ ap (λ (k : ℕ). first ∷ (take at nodes ++ (node ∷ drop k (first ∷ nodes)))) next;
      taken = ap (λ (k : ℕ). take k (first ∷ nodes)) (sym next) ∙ ap (λ (t : List TreeNode). first ∷ t) (ap (λ (k : ℕ). take k nodes) after ∙ is.taken);
    }

-- the texts of the first nodes and of the next
pub nodes_more : (nodes : List TreeNode) (at : ℕ) (node : TreeNode) → IsNode nodes at node
    → lines_text (map node_line (take (at + 1) nodes)) ≡ lines_text (map node_line (take at nodes)) ++ ended (node_line node)
nodes_more nodes at node is =
    ap (λ (t : List TreeNode). lines_text (map node_line t)) is.taken ∙ (ap lines_text (map_append node_line (take at nodes) (node ∷ []))
    ∙ (lines_append (map node_line (take at nodes)) (node_line node ∷ []) ∙ ap (λ (t : Bytes). lines_text (map node_line (take at nodes)) ++ t) (lines_first (node_line node) [] ∙ (ap (λ (t : Bytes). ended (node_line node) ++ t) lines_none ∙ append-nil (ended (node_line node))))))

pub nodes_rest : (nodes : List TreeNode) (at : ℕ) (node : TreeNode) → IsNode nodes at node
    → HasRest (lines_text (map node_line nodes)) (lines_text (map node_line (take at nodes))) (ended (node_line node))
nodes_rest nodes at node is = record {
  rest = lines_text (map node_line (drop (at + 1) nodes));
  joined = ap (λ (t : List TreeNode). lines_text (map node_line t)) is.here ∙ (ap lines_text (map_append node_line (take at nodes) (node ∷ drop (at + 1) nodes))
      ∙ (lines_append (map node_line (take at nodes)) (node_line node ∷ map node_line (drop (at + 1) nodes)) ∙ ap (λ (t : Bytes). lines_text (map node_line (take at nodes)) ++ t) (lines_first (node_line node) (map node_line (drop (at + 1) nodes)))));
}

pub counts_piece : (line : TreeLine) (rest : List TreeLine) (piece : Bytes) → piece ≡ ended line → lines_text (line ∷ rest) ≡ piece ++ lines_text rest
counts_piece line rest piece e = lines_first line rest ∙ ap (λ (t : Bytes). t ++ lines_text rest) (sym e)

pub one_piece : (line : TreeLine) → lines_text (line ∷ []) ≡ ended line
one_piece line = lines_first line [] ∙ (ap (λ (t : Bytes). ended line ++ t) lines_none ∙ append-nil (ended line))
