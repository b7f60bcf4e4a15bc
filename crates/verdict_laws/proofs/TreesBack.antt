-- From a text that comes to a whole tree back to the trees of the boxes that are due.
use Rattle.std.proofs.Common.{ℕ, ℤ, zero, suc, ltb, leb, ◌≡◌, ◌+◌, ◌≤◌, ◌||◌, ◌&&◌, Bool, true, false, List, [], ◌∷◌, ◌++◌, length, Option, Some, None, Ok, if◌then◌else◌, refl, ap, sym, ◌∙◌, subst, arith, append_assoc, inl, inr}
use Rattle.std.specs.Prelude.{pos, int_le, int_lt, nat_lt, ◌≤ℤ◌, ◌<ℤ◌, IsSomeAnd}
use Rattle.std.specs.List.{All}
use Rattle.std.proofs.lemmas.Bool.{and_parts, or_cases, ltb-true, leb-true}
use Rattle.std.proofs.lemmas.Int.{ints}
use Rattle.std.proofs.lemmas.List.{take-append-drop}
use Rattle.std.proofs.lemmas.List.Elements.{All-head, All-tail, All-cons}
use Rattle.tqd_base.specs.World.{Bytes}
use Rattle.tqd_instance.specs.declared.job.Job.{Job}
use Rattle.tqd_instance.specs.Job.{goods, suppliers, least_winners, most_winners}
use Rattle.interval_box.specs.declared.boxes.IntervalBox.{IntervalBox}
use Rattle.interval_box.specs.Ranges.{low_of, high_of, IsBoxOf}
use Rattle.interval_box.specs.Halves.{IsProper, low_half, high_half}
use Rattle.interval_box.specs.Winners.{WinnersFail, sure_winners, possible_winners}
use Rattle.interval_box.proofs.Split.{low_is_box, high_is_box}
use Rattle.bound_tree.specs.declared.leaf.Leaf.{Leaf}
use Rattle.bound_tree.specs.declared.leaf.Leaf.TheVariants.{Bound as BoundLeaf, Empty as EmptyLeaf, Winners as WinnersLeaf}
use Rattle.bound_tree.specs.declared.line.TreeLine.{TreeLine}
use Rattle.bound_tree.specs.declared.line.TreeLine.TheVariants.{Header, Header2, NoPlan, Plan, Buy, Split, Row, Bound, Empty, Winners}
use Rattle.bound_tree.specs.BoxTree.{BoxTree, at_leaf, at_split, IsValid}
use Rattle.bound_tree.specs.Kills.{Kills}
use Rattle.bound_tree.specs.Prices.{row_of}
use Rattle.bound_tree.specs.TreeText.{all_prices, leaf_line, ended}
use Rattle.bound_tree.specs.Value.{value, free_value}
use Rattle.tree_checker.specs.declared.rejection.Why.{Why}
use Rattle.tree_checker.specs.Verdict.{RowStore, in_leaves, Phase, at_nodes, reading, is_split, row_fault, or_fault, short_fault, free_fault, bound_fault, empty_fault, winners_fault, after_leaf, after_split, after_line}
use Rattle.tree_checker.proofs.Bytewise.{whole_trails}
use Rattle.verdict_laws.proofs.Ends.{IsWholeAt}
use Rattle.verdict_laws.proofs.NextLines.{next_line, shorter}
use Rattle.verdict_laws.proofs.RowsFit.{row_fits}
use Rattle.verdict_laws.proofs.TreeReads.{node_text, leaf_text, split_text}

-- a leaf that its line is the line of, and that kills the box
record IsKilling (job : Job) (best : Option ℕ) (area : IntervalBox) (line : TreeLine) : Type 0 where
  leaf : Leaf
  line_is : line ≡ leaf_line leaf
  kills : Kills job area best leaf

no_fault : (first later : Option Why) → or_fault first later ≡ None → (first ≡ None) × (later ≡ None)
no_fault None later e = (refl, e)
no_fault (Some why) later e = absurd (cc)

reaching_test : (c : ℕ) (v : ℤ) (b : Bool) (why : Why) → int_le (pos c) v ≡ b → (if b then None else Some why) ≡ None → pos c ≤ℤ v
reaching_test c v true why is e = grind (arith, ints, is)
reaching_test c v false why is e = absurd (cc)

pub reaching : (best : Option ℕ) (v : ℤ) → short_fault best v ≡ None → IsSomeAnd best (λ c. pos c ≤ℤ v)
reaching None v e = absurd (cc)
reaching (Some c) v e = reaching_test c v (int_le (pos c) v) _ refl e

above_test : (v : ℤ) (b : Bool) (why : Why) → int_lt (pos 0) v ≡ b → (if b then None else Some why) ≡ None → pos 0 <ℤ v
above_test v true why is e = grind (arith, ints, is)
above_test v false why is e = absurd (cc)

pub above : (v : ℤ) → free_fault v ≡ None → pos 0 <ℤ v
above v e = above_test v (int_lt (pos 0) v) _ refl e

winners_test : (a b : Bool) (why : Why) → (if a || b then None else Some why) ≡ None → (a || b) ≡ true
winners_test true b why e = refl
winners_test false true why e = refl
winners_test false false why e = absurd (cc)

pub winners_fail : (job : Job) (area : IntervalBox) → winners_fault job area ≡ None → WinnersFail job area
winners_fail job area e =
    elim (or_cases (nat_lt (most_winners job) (sure_winners job area)) (nat_lt (possible_winners job area) (least_winners job))
    (winners_test (nat_lt (most_winners job) (sure_winners job area)) (nat_lt (possible_winners job area) (least_winners job)) _ e)) [
      | inl many ↦ inl (ltb-true (most_winners job) (sure_winners job area) many)
      | inr few ↦ inr (ltb-true (possible_winners job area) (least_winners job) few)
    ]

pub one_list : (job : Job) (prices : List ℤ) → prices ≡ all_prices (row_of job prices)
unfolding row_of
one_list job prices = sym (take-append-drop (goods job) prices)

bound_kills : (job : Job) (best : Option ℕ) (area : IntervalBox) (prices : List ℤ) → bound_fault job best area prices ≡ None → IsKilling job best area (Bound prices)
bound_kills job best area prices e =
    let parts = no_fault (row_fault job area prices) (short_fault best (value job area (row_of job prices))) e in
    record {
      leaf = BoundLeaf (row_of job prices);
      line_is = ap Bound (one_list job prices);
      kills = (row_fits job area prices parts.0, reaching best (value job area (row_of job prices)) parts.1);
    }

empty_kills : (job : Job) (best : Option ℕ) (area : IntervalBox) (prices : List ℤ) → empty_fault job area prices ≡ None → IsKilling job best area (Empty prices)
empty_kills job best area prices e =
    let parts = no_fault (row_fault job area prices) (free_fault (free_value job area (row_of job prices))) e in
    record {
      leaf = EmptyLeaf (row_of job prices);
      line_is = ap Empty (one_list job prices);
      kills = (row_fits job area prices parts.0, above (free_value job area (row_of job prices)) parts.1);
    }

winners_kill : (job : Job) (best : Option ℕ) (area : IntervalBox) → winners_fault job area ≡ None → IsKilling job best area Winners
winners_kill job best area e = record { leaf = WinnersLeaf; line_is = refl; kills = winners_fail job area e }

-- what a node's line was, where it led on
data IsNodeLine (job : Job) (best : Option ℕ) (area : IntervalBox) (due : List IntervalBox) : TreeLine → Phase → Type 0 where
  leaf_led : {line : TreeLine} {next : Phase} → IsKilling job best area line → next ≡ at_nodes in_leaves best due → IsNodeLine job best area due line next
  split_led : {line : TreeLine} {next : Phase} (i s : ℕ) → line ≡ Split i s → is_split job area i s ≡ true → next ≡ at_nodes in_leaves best (low_half area i s ∷ high_half area i s ∷ due) → IsNodeLine job best area due line next

pub leaf_next : (n : ℕ) (store : RowStore) (best : Option ℕ) (due : List IntervalBox) (fault : Option Why) (next : Phase) → after_leaf n store best due fault ≡ Ok next → (fault ≡ None) × (next ≡ at_nodes store best due)
leaf_next n store best due None next e = let same : at_nodes store best due ≡ next = cc in (refl, sym same)
leaf_next n store best due (Some why) next e = absurd (cc)

pub split_next : (job : Job) (n : ℕ) (store : RowStore) (best : Option ℕ) (area : IntervalBox) (due : List IntervalBox) (i s : ℕ) (b : Bool) (next : Phase) → is_split job area i s ≡ b
    → after_split job n store best area due i s ≡ Ok next → (is_split job area i s ≡ true) × (next ≡ at_nodes store best (low_half area i s ∷ high_half area i s ∷ due))
split_next job n store best area due i s true next is e =
    let led = rw is at e in
    let same : at_nodes store best (low_half area i s ∷ high_half area i s ∷ due) ≡ next = cc in
    (is, sym same)
split_next job n store best area due i s false next is e = let led = rw is at e in absurd (cc)

node_line_is : (job : Job) (n : ℕ) (best : Option ℕ) (area : IntervalBox) (due : List IntervalBox) (line : TreeLine) (next : Phase)
    → after_line job n (at_nodes in_leaves best (area ∷ due)) (Some line) ≡ Ok next → IsNodeLine job best area due line next
unfolding after_line
node_line_is job n best area due Header next e = absurd (cc)
node_line_is job n best area due Header2 next e = absurd (cc)
node_line_is job n best area due NoPlan next e = absurd (cc)
node_line_is job n best area due (Plan cost count) next e = absurd (cc)
node_line_is job n best area due (Buy i k u) next e = absurd (cc)
node_line_is job n best area due (Split i s) next e = let led = split_next job n in_leaves best area due i s (is_split job area i s) next refl e in split_led i s refl led.0 led.1
node_line_is job n best area due (Row k prices) next e = absurd (cc)
node_line_is job n best area due (Bound prices) next e = let led = leaf_next n in_leaves best due (bound_fault job best area prices) next e in leaf_led (bound_kills job best area prices led.0) led.1
node_line_is job n best area due (Empty prices) next e = let led = leaf_next n in_leaves best due (empty_fault job area prices) next e in leaf_led (empty_kills job best area prices led.0) led.1
node_line_is job n best area due Winners next e = let led = leaf_next n in_leaves best due (winners_fault job area) next e in leaf_led (winners_kill job best area led.0) led.1

pub proper_from : (job : Job) (area : IntervalBox) (i s : ℕ) → is_split job area i s ≡ true → IsProper area i s
proper_from job area i s e =
    let first = and_parts (ltb i (suppliers job) && leb (low_of area i) s) (ltb s (high_of area i)) e in
    let second = and_parts (ltb i (suppliers job)) (leb (low_of area i) s) first.0 in
    record { from_low = leb-true (low_of area i) s second.1; below_high = ltb-true s (high_of area i) first.1 }

-- a text is that of valid trees, one for each box
abbrev pub AreTrees : Job → Option ℕ → List IntervalBox → Bytes → Type 0
AreTrees job best [] text = text ≡ []
AreTrees job best (area ∷ due) text = (tree : BoxTree) × (rest : Bytes) × IsValid job best area tree × (text ≡ node_text tree ++ rest) × AreTrees job best due rest

pub leaf_valid : (job : Job) (best : Option ℕ) (area : IntervalBox) (leaf : Leaf) → Kills job area best leaf → IsValid job best area (at_leaf leaf)
unfolding IsValid
leaf_valid job best area leaf kills = kills

pub split_valid : (job : Job) (best : Option ℕ) (area : IntervalBox) (i s : ℕ) (low high : BoxTree) → IsProper area i s → IsValid job best (low_half area i s) low
    → IsValid job best (high_half area i s) high → IsValid job best area (at_split i s low high)
unfolding IsValid
split_valid job best area i s low high proper first second = (proper, first, second)

trees_of_leaf : (job : Job) (best : Option ℕ) (area : IntervalBox) (due : List IntervalBox) (line : TreeLine) (text rest : Bytes) → IsKilling job best area line
    → text ≡ ended line ++ rest → AreTrees job best due rest → AreTrees job best (area ∷ due) text
trees_of_leaf job best area due line text rest kills e trees = (
  at_leaf kills.leaf,
  rest,
  leaf_valid job best area kills.leaf kills.kills,
  e ∙ (ap (λ (l : TreeLine). ended l ++ rest) kills.line_is ∙ ap (λ (t : Bytes). t ++ rest) (sym (leaf_text kills.leaf))),
  trees,
)

trees_of_split : (job : Job) (best : Option ℕ) (area : IntervalBox) (due : List IntervalBox) (i s : ℕ) (text rest : Bytes) → IsProper area i s
    → text ≡ ended (Split i s) ++ rest → AreTrees job best (low_half area i s ∷ high_half area i s ∷ due) rest → AreTrees job best (area ∷ due) text
trees_of_split job best area due i s text rest proper e trees =
    let low = trees.0 in
    let after_low = trees.1 in
    let high = trees.4.0 in
    let after_high = trees.4.1 in (
      at_split i s low high,
      after_high,
      split_valid job best area i s low high proper trees.2 trees.4.2,
      e ∙ (ap (λ (t : Bytes). ended (Split i s) ++ t) (trees.3 ∙ ap (λ (t : Bytes). node_text low ++ t) trees.4.3)
          ∙ (sym (ap (λ (t : Bytes). ended (Split i s) ++ t) (append_assoc (node_text low) (node_text high) after_high))
          ∙ (sym (append_assoc (ended (Split i s)) (node_text low ++ node_text high) after_high) ∙ ap (λ (t : Bytes). t ++ after_high) (sym (split_text i s low high))))),
      trees.4.4,
    )

-- where all boxes have been read, nothing is left
pub record IsRead (job : Job) (best found : Option ℕ) (due : List IntervalBox) (text : Bytes) : Type 0 where
  pub best_is : found ≡ best
  pub trees : AreTrees job best due text

none_due : (job : Job) (n : ℕ) (best found : Option ℕ) (text : Bytes) → IsWholeAt job (reading n [] (at_nodes in_leaves best [])) text found → IsRead job best found [] text
none_due job n best found [] whole = let read = whole.read in let same : at_nodes in_leaves best [] ≡ at_nodes whole.store found [] = cc in let is : best ≡ found = cc in record { best_is = sym is; trees = refl }
none_due job n best found (x ∷ xs) whole = let trails = whole_trails job n [] (at_nodes in_leaves best []) x xs refl in let read = whole.read in absurd (cc)

step_back : (job : Job) (n : ℕ) (best found : Option ℕ) (area : IntervalBox) (due : List IntervalBox) (text rest : Bytes) (line : TreeLine) (next : Phase) → IsBoxOf job area → All (IsBoxOf job) due
    → IsNodeLine job best area due line next → text ≡ ended line ++ rest → IsWholeAt job (reading (n + 1) [] next) rest found
    → ((boxes : List IntervalBox) → All (IsBoxOf job) boxes → IsWholeAt job (reading (n + 1) [] (at_nodes in_leaves best boxes)) rest found → IsRead job best found boxes rest)
    → IsRead job best found (area ∷ due) text
step_back job n best found area due text rest line next b others (leaf_led kills is) e whole back =
    let later = back due others (subst (λ (p : Phase). IsWholeAt job (reading (n + 1) [] p) rest found) is whole) in
    record { best_is = later.best_is; trees = trees_of_leaf job best area due line text rest kills e later.trees }
step_back job n best found area due text rest line next b others (split_led i s line_is fits is) e whole back =
    let proper = proper_from job area i s fits in
    let boxes = low_half area i s ∷ high_half area i s ∷ due in
    let all = All-cons (IsBoxOf job) (low_half area i s) (high_half area i s ∷ due) (low_is_box job area i s b proper) (All-cons (IsBoxOf job) (high_half area i s) due (high_is_box job area i s b proper) others) in
    let later = back boxes all (subst (λ (p : Phase). IsWholeAt job (reading (n + 1) [] p) rest found) is whole) in
    record { best_is = later.best_is; trees = trees_of_split job best area due i s text rest proper (e ∙ ap (λ (l : TreeLine). ended l ++ rest) line_is) later.trees }

-- what is left is the texts of valid trees of the boxes that are due
pub trees_back : (fuel : ℕ) (job : Job) (best found : Option ℕ) (due : List IntervalBox) (n : ℕ) (text : Bytes) → All (IsBoxOf job) due → length text ≤ fuel
    → IsWholeAt job (reading n [] (at_nodes in_leaves best due)) text found → IsRead job best found due text
trees_back fuel job best found [] n text all short whole = none_due job n best found text whole
trees_back zero job best found (area ∷ due) n text all short whole =
    let next = next_line job n (at_nodes in_leaves best (area ∷ due)) text found refl whole in
    absurd (let less = shorter text next.rest next.line next.text_is in omega arith)
trees_back (suc fuel) job best found (area ∷ due) n text all short whole =
    let next = next_line job n (at_nodes in_leaves best (area ∷ due)) text found refl whole in
    let less = shorter text next.rest next.line next.text_is in
    step_back job n best found area due text next.rest next.line next.next (All-head (IsBoxOf job) area due all) (All-tail (IsBoxOf job) area due all)
    (node_line_is job (n + 1) best area due next.line next.next next.step) next.text_is next.whole
    (λ boxes each later. trees_back fuel job best found boxes (n + 1) next.rest each (omega arith) later)
