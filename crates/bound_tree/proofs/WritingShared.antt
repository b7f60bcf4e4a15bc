-- Writing the nodes of a tree with its rows in slots.
use Rattle.std.proofs.Common.{ℕ, ◌≡◌, pos, ◌++◌, [], ◌∷◌, map, Option, None, Some, refl, sym, ◌∙◌, ap}
use Rattle.std.specs.Prelude.{Result, Err}
use Rattle.tqd_base.specs.World.{State, Bytes, Writes}
use Rattle.tqd_base.specs.Calls.{Puts}
use Rattle.bound_tree.specs.declared.line.TreeLine.{TreeLine}
use Rattle.bound_tree.specs.declared.line.TreeLine.TheVariants.{Header2, Split, Row, Bound, Empty, Winners}
use Rattle.bound_tree.specs.declared.word.Word.TheVariants.{Header as HeaderWord, Split as SplitWord, Bound as BoundWord, Empty as EmptyWord, Winners as WinnersWord}
use Rattle.bound_tree.specs.declared.write.WriteStop.{WriteStop}
use Rattle.bound_tree.specs.LineText.{counts_text, line_text}
use Rattle.bound_tree.specs.Prices.{Prices}
use Rattle.bound_tree.specs.TreeText.{all_prices, ended, lines_text}
use Rattle.bound_tree.specs.WriteTree.{WriteGives}
use Rattle.bound_tree.specs.SlotTree.{bound_by, empty_by, by_winners, slot_leaf, items_of, split_item}
use Rattle.bound_tree.specs.SlotText.{item_line}
use Rattle.bound_tree.specs.Shared.{Given, next_slot, slot_with, slot_or_next, shared_leaf}
use Rattle.tqd_instance.specs.declared.job.Job.{Job}
use Rattle.interval_box.specs.declared.boxes.IntervalBox.{IntervalBox}
use Rattle.bound_tree.specs.declared.leaf.Leaf.{Leaf}
use Rattle.bound_tree.specs.declared.leaf.Leaf.TheVariants.{Bound as BoundLeaf, Empty as EmptyLeaf, Winners as WinnersLeaf}
use Rattle.bound_tree.specs.declared.leaf.TreeNode.{TreeNode}
use Rattle.bound_tree.specs.declared.leaf.TreeNode.TheVariants.{Split as SplitNode}
use Rattle.bound_tree.specs.declared.slots.Named.{Named}
use Rattle.bound_tree.specs.OtherBox.{widened}
use Rattle.bound_tree.specs.SlotTable.{named, items_at, named_text}
use Rattle.bound_tree.proofs.TreeLines.{lines_first, one_piece}
use Rattle.bound_tree.proofs.Writing.{begin, halts, ends, still}

-- a piece and what follows it
pub two_halt : (old new : State) (slot : ℕ) (a b : Bytes) (stop : WriteStop) → Writes (old.world.slots slot) → WriteGives old new slot a (Err stop) → WriteGives old new slot (a ++ b) (Err stop)
two_halt old new slot a b stop w p = halts old old new slot [] a b (a ++ b) stop refl (begin old slot [] refl w) p

pub two_end : (old mid new : State) (slot : ℕ) (a b : Bytes) (r : Result (Unit {0}) WriteStop) → Writes (old.world.slots slot) → Puts old mid slot a → WriteGives mid new slot b r
    → WriteGives old new slot (a ++ b) r
two_end old mid new slot a b r w p q = ends old mid new slot a b (a ++ b) r refl (record { puts = p; writes = still old mid slot a p w }) q

pub split_piece : (i s : ℕ) → counts_text SplitWord (i ∷ s ∷ []) ++ 10 ∷ [] ≡ lines_text (map item_line (split_item i s ∷ []))
unfolding line_text
split_piece i s = sym (one_piece (Split i s))

pub winners_piece : counts_text WinnersWord [] ++ 10 ∷ [] ≡ lines_text (map item_line (items_of (slot_leaf by_winners)))
unfolding line_text items_of
winners_piece = sym (one_piece Winners)

bound_line : (n : ℕ) → counts_text BoundWord (n ∷ []) ++ 10 ∷ [] ≡ ended (Bound (pos n ∷ []))
unfolding line_text
bound_line n = refl

empty_line : (n : ℕ) → counts_text EmptyWord (n ∷ []) ++ 10 ∷ [] ≡ ended (Empty (pos n ∷ []))
unfolding line_text
empty_line n = refl

two_lines : (first second : TreeLine) (text : Bytes) → text ≡ ended second → ended first ++ text ≡ lines_text (first ∷ second ∷ [])
two_lines first second text e = ap (λ (t : Bytes). ended first ++ t) (e ∙ sym (one_piece second)) ∙ sym (lines_first first (second ∷ []))

pub bound_piece : (given : Given) (row : Prices) (o : Option ℕ) → named_text BoundWord row (named given o) ≡ lines_text (map item_line (items_of (slot_or_next given row bound_by o)))
unfolding items_of
bound_piece given row (Some n) = bound_line n ∙ sym (one_piece (Bound (pos n ∷ [])))
bound_piece given row None = two_lines (Row (next_slot given) (all_prices row)) (Bound (pos (next_slot given) ∷ [])) _ (bound_line (next_slot given))

pub empty_piece : (given : Given) (row : Prices) (o : Option ℕ) → named_text EmptyWord row (named given o) ≡ lines_text (map item_line (items_of (slot_or_next given row empty_by o)))
unfolding items_of
empty_piece given row (Some n) = empty_line n ∙ sym (one_piece (Empty (pos n ∷ [])))
empty_piece given row None = two_lines (Row (next_slot given) (all_prices row)) (Empty (pos (next_slot given) ∷ [])) _ (empty_line (next_slot given))

pub header2_piece : counts_text HeaderWord (2 ∷ []) ++ 10 ∷ [] ≡ ended Header2
unfolding line_text
header2_piece = refl

-- the text of a node of a box
pub split_node : (job : Job) (area : IntervalBox) (given : Given) (node : TreeNode) (i s a b : ℕ) → node ≡ SplitNode i s → a ≡ i → b ≡ s
    → counts_text SplitWord (a ∷ b ∷ []) ++ 10 ∷ [] ≡ lines_text (map item_line (items_at job area given node))
split_node job area given node i s a b is e f =
    ap (λ (k : ℕ). counts_text SplitWord (k ∷ b ∷ []) ++ 10 ∷ []) e ∙ (ap (λ (k : ℕ). counts_text SplitWord (i ∷ k ∷ []) ++ 10 ∷ []) f
    ∙ (split_piece i s ∙ ap (λ (n : TreeNode). lines_text (map item_line (items_at job area given n))) (sym is)))

pub bound_leaf : (job : Job) (area : IntervalBox) (given : Given) (leaf : Leaf) (row : Prices) (n : Named) → leaf ≡ BoundLeaf row → n ≡ named given (slot_with job area given.slots row)
    → named_text BoundWord (widened job area row) n ≡ lines_text (map item_line (items_of (shared_leaf job area given leaf)))
bound_leaf job area given leaf row n is e =
    ap (named_text BoundWord (widened job area row)) e ∙ (bound_piece given (widened job area row) (slot_with job area given.slots row)
    ∙ ap (λ (l : Leaf). lines_text (map item_line (items_of (shared_leaf job area given l)))) (sym is))

pub empty_leaf : (job : Job) (area : IntervalBox) (given : Given) (leaf : Leaf) (row : Prices) (n : Named) → leaf ≡ EmptyLeaf row → n ≡ named given (slot_with job area given.slots row)
    → named_text EmptyWord (widened job area row) n ≡ lines_text (map item_line (items_of (shared_leaf job area given leaf)))
empty_leaf job area given leaf row n is e =
    ap (named_text EmptyWord (widened job area row)) e ∙ (empty_piece given (widened job area row) (slot_with job area given.slots row)
    ∙ ap (λ (l : Leaf). lines_text (map item_line (items_of (shared_leaf job area given l)))) (sym is))

pub winners_leaf : (job : Job) (area : IntervalBox) (given : Given) (leaf : Leaf) → leaf ≡ WinnersLeaf
    → counts_text WinnersWord [] ++ 10 ∷ [] ≡ lines_text (map item_line (items_of (shared_leaf job area given leaf)))
winners_leaf job area given leaf is = winners_piece ∙ ap (λ (l : Leaf). lines_text (map item_line (items_of (shared_leaf job area given l)))) (sym is)
