-- Writing lines one after another.
use Rattle.std.proofs.Common.{ℕ, ◌≡◌, ◌+◌, ◌<◌, ◌++◌, List, [], ◌∷◌, length, refl, sym, ◌∙◌, ap, subst, length-append}
use Rattle.std.proofs.lemmas.Bool.{ne_eqb}
use Rattle.std.specs.Prelude.{Result, Err}
use Rattle.tqd_base.specs.World.{State, Writes}
use Rattle.tqd_base.specs.Calls.{Puts}
use Rattle.tqd_instance.specs.declared.job.Job.{Job}
use Rattle.tqd_instance.specs.Purchase.{Purchase}
use Rattle.tqd_instance.specs.Cost.{cost}
use Rattle.tqd_instance.specs.Job.{goods, suppliers}
use Rattle.bound_tree.specs.declared.word.Word.TheVariants.{Header as HeaderWord, NoPlan as NoPlanWord, Plan as PlanWord}
use Rattle.bound_tree.specs.declared.line.TreeLine.{TreeLine}
use Rattle.bound_tree.specs.declared.line.TreeLine.TheVariants.{Header, NoPlan, Plan}
use Rattle.bound_tree.specs.declared.write.WriteStop.{WriteStop}
use Rattle.bound_tree.specs.LineText.{counts_text, line_text}
use Rattle.bound_tree.specs.TreeText.{lines_to, units_line, buy_line, buy_lines, lines_text, ended}
use Rattle.bound_tree.specs.WriteTree.{WriteGives}
use Rattle.bound_tree.proofs.TreeLines.{HasRest, text_more, rest_of, lines_first, lines_none, lines_append, lines_to-zero, lines_to-more, one_piece}
use Rattle.bound_tree.proofs.Writing.{IsWriting, begin, more, halts, ends, still}

pub lines_begin : (s : State) (slot : ℕ) (f : ℕ → List TreeLine) → Writes (s.world.slots slot) → IsWriting s s slot (lines_text (lines_to 0 f))
lines_begin s slot f w = begin s slot _ (ap lines_text (lines_to-zero f) ∙ lines_none) w

pub lines_more : (old mid new : State) (slot : ℕ) (f : ℕ → List TreeLine) (k : ℕ) (here : List TreeLine) → here ≡ f k
    → IsWriting old mid slot (lines_text (lines_to k f)) → Puts mid new slot (lines_text here) → IsWriting old new slot (lines_text (lines_to (k + 1) f))
lines_more old mid new slot f k here e w p =
    more old mid new slot (lines_text (lines_to k f)) (lines_text here) _ (text_more k f ∙ ap (λ (t : List TreeLine). lines_text (lines_to k f) ++ lines_text t) (sym e)) w p

pub lines_halt : (old mid new : State) (slot : ℕ) (f : ℕ → List TreeLine) (n k : ℕ) (here : List TreeLine) (stop : WriteStop) → k < n → here ≡ f k
    → IsWriting old mid slot (lines_text (lines_to k f)) → WriteGives mid new slot (lines_text here) (Err stop) → WriteGives old new slot (lines_text (lines_to n f)) (Err stop)
lines_halt old mid new slot f n k here stop below e w p =
    let h = subst (λ (t : List TreeLine). HasRest (lines_text (lines_to n f)) (lines_text (lines_to k f)) (lines_text t)) (sym e) (rest_of n k f below) in
    halts old mid new slot (lines_text (lines_to k f)) (lines_text here) h.rest _ stop h.joined w p

-- a first line and the lines after it
pub first_halts : (old new : State) (slot : ℕ) (line : TreeLine) (others : List TreeLine) (stop : WriteStop) → Writes (old.world.slots slot)
    → WriteGives old new slot (ended line) (Err stop) → WriteGives old new slot (lines_text (line ∷ others)) (Err stop)
first_halts old new slot line others stop w p =
    halts old old new slot [] (ended line) (lines_text others) _ stop (lines_first line others) (begin old slot [] refl w) p

pub first_ends : (old mid new : State) (slot : ℕ) (line : TreeLine) (others : List TreeLine) (r : Result (Unit {0}) WriteStop) → Writes (old.world.slots slot)
    → Puts old mid slot (ended line) → WriteGives mid new slot (lines_text others) r → WriteGives old new slot (lines_text (line ∷ others)) r
first_ends old mid new slot line others r w p q =
    ends old mid new slot (ended line) (lines_text others) _ r (lines_first line others) (more old old mid slot [] (ended line) (ended line) refl (begin old slot [] refl w) p) q

-- the line of a plan, with its numbers as they were computed
pub plan_piece : (job : Job) (x : Purchase) (amount count : ℕ) → amount ≡ cost job x → count ≡ length (buy_lines job x)
    → counts_text PlanWord (amount ∷ count ∷ []) ++ 10 ∷ [] ≡ ended (Plan (cost job x) (length (buy_lines job x)))
unfolding line_text
plan_piece job x amount count e f = rw (e, f) refl

pub buys_of : (job : Job) (x : Purchase) → buy_lines job x ≡ lines_to (suppliers job) (λ i. lines_to (goods job) (buy_line x i))
unfolding buy_lines
buys_of job x = refl

-- lines and the lines after them
pub front_halts : (old new : State) (slot : ℕ) (front others : List TreeLine) (stop : WriteStop) → Writes (old.world.slots slot)
    → WriteGives old new slot (lines_text front) (Err stop) → WriteGives old new slot (lines_text (front ++ others)) (Err stop)
front_halts old new slot front others stop w p =
    halts old old new slot [] (lines_text front) (lines_text others) _ stop (lines_append front others) (begin old slot [] refl w) p

pub front_ends : (old mid new : State) (slot : ℕ) (front others : List TreeLine) (r : Result (Unit {0}) WriteStop) → Writes (old.world.slots slot)
    → Puts old mid slot (lines_text front) → WriteGives mid new slot (lines_text others) r → WriteGives old new slot (lines_text (front ++ others)) r
front_ends old mid new slot front others r w p q =
    ends old mid new slot (lines_text front) (lines_text others) _ r (lines_append front others) (record { puts = p; writes = still old mid slot (lines_text front) p w }) q

-- the first line of a tree, and the line where there is no plan
pub header_piece : counts_text HeaderWord (1 ∷ []) ++ 10 ∷ [] ≡ ended Header
unfolding line_text
header_piece = refl

pub none_piece : counts_text NoPlanWord [] ++ 10 ∷ [] ≡ lines_text (NoPlan ∷ [])
unfolding line_text
none_piece = sym (one_piece NoPlan)

-- how many lines there are
pub count_more : (k : ℕ) (f : ℕ → List TreeLine) → length (lines_to (k + 1) f) ≡ length (lines_to k f) + length (f k)
count_more k f = ap length (lines_to-more k f) ∙ length-append (lines_to k f) (f k)

pub length_none : (i k n : ℕ) → n ≡ 0 → length (units_line i k n) ≡ 0
unfolding units_line
length_none i k n none = rw none refl

pub length_some : (i k n : ℕ) → (n ≡ 0 → ⊥) → length (units_line i k n) ≡ 1
unfolding units_line
length_some i k n some = rw (ne_eqb n 0 some) refl
