-- What a finished search says, and the answer that it gives.
use Rattle.std.proofs.Common.{ℕ, ◌≡◌, Option, None, Some, refl, sym, ◌∙◌, ap, subst, inl, inr}
use Rattle.std.specs.Prelude.{Result, Ok, Err, IfOk, IfSome, MatchOption}
use Rattle.std.specs.Option.{option_map}
use Rattle.std.specs.Result.{ForOk}
use Rattle.tqd_base.specs.declared.memory.Memory.{Memory as NoMemory}
use Rattle.tqd_base.specs.World.{State, Name, Bytes}
use Rattle.tqd_base.specs.Calls.{Puts, PutsPrefix}
use Rattle.tqd_instance.specs.Purchase.{Purchase}
use Rattle.interval_box.specs.declared.boxes.IntervalBox.{IntervalBox}
use Rattle.tqd_instance.specs.declared.job.Job.{Job}
use Rattle.tqd_instance.specs.declared.plan.Plan.{Plan}
use Rattle.tqd_instance.specs.Plan.{units}
use Rattle.tqd_instance.specs.Cost.{cost}
use Rattle.tqd_instance.specs.Least.{Least, HasNoPurchase}
use Rattle.interval_box.specs.Ranges.{IsRoot}
use Rattle.bound_tree.specs.BoxTree.{BoxTree, IsValid}
use Rattle.bound_tree.specs.Root.{root_of}
use Rattle.bound_tree.specs.Shared.{AreRootNodes, IsTreeOf}
use Rattle.bound_tree.proofs.Roots.{root_is_value}
use Rattle.bound_tree.proofs.ValidTrees.{valid_is_tree}
use Rattle.search_book.specs.declared.finish.Finished.{Finished}
use Rattle.search_book.specs.Nodes.{area_of}
use Rattle.search_book.specs.BookState.{BookState}
use Rattle.search_book.specs.Events.{IsPlanAt}
use Rattle.search_book.specs.TreeOf.{IsTreeFor}
use Rattle.search_book.specs.Later.{IsLater}
use Rattle.requote.specs.Graft.{IsGraft}
use Rattle.search_book.specs.Answers.{Decides}
use Rattle.order_gen.specs.GenParts.{IsGenJob}
use Rattle.plan_report.specs.AnswerText.{summary_text}
use Rattle.tqd_top.specs.MakeAnswer.{SumsUp}
use Rattle.tqd_top.specs.declared.answer.Answer.{Answer}
use Rattle.tqd_top.specs.declared.answer.NoReply.{NoReply}
use Rattle.tqd_top.specs.declared.answer.NoReply.TheVariants.{Tree, Memory}
use Rattle.tqd_top.specs.declared.reading.JobRead.{JobRead}
use Rattle.tqd_top.specs.Certificate.{certificate_text, Certifies, GrowsFrom}
use Rattle.tqd_top.specs.Inner.Solution.{certificate_of, IsFinishOf, IsFinished, IsFinishedFrom, IsSolution, bought_by}
use Rattle.tqd_top.specs.Inner.Saving.{IsSteady, SaveGivenGives}
use Rattle.tqd_top.specs.Solves.{IsSolved, SolvesJob}
use Rattle.tqd_top.specs.Inner.Solving.{SolveGives, solution_answer, solution_text}
use Rattle.tqd_top.proofs.Saved.{steady_same}
use Rattle.tqd_top.proofs.ReadFacts.{no_value, one_value}

-- what a settled book decides of its best plan
solution_by : (job : Job) (best : Option (Plan × ℕ)) → MatchOption best (HasNoPurchase job) (λ b. Least job (units b.0) × (b.1 ≡ cost job (units b.0)))
    → IfSome best (λ b. IsPlanAt job b.0 b.1) → IsSolution job best
solution_by job None decided stands = decided
solution_by job (Some b) decided stands = record { sized = stands.sized; least = decided.0; costs = decided.1 }

costs_by : (job : Job) (best : Option (Plan × ℕ)) → MatchOption best (HasNoPurchase job) (λ b. Least job (units b.0) × (b.1 ≡ cost job (units b.0)))
    → option_map (λ b. b.1) best ≡ option_map (cost job) (bought_by best)
costs_by job None decided = refl
costs_by job (Some b) decided = ap (λ (n : ℕ). Some n) decided.1

finish_by : (s : BookState) (done : Finished) → Decides s → done.plan ≡ s.best → IfSome done.plan (λ b. IsPlanAt s.job b.0 b.1) → IsRoot s.job (area_of s.nodes 0) → IsTreeFor s done.tree
    → IsFinishOf s done
finish_by s done decides plan_is stands root tree =
    let decided = subst (λ (best : Option (Plan × ℕ)). MatchOption best (HasNoPurchase s.job) (λ b. Least s.job (units b.0) × (b.1 ≡ cost s.job (units b.0)))) (sym plan_is) decides in
    record {
      finished = record {
        solution = solution_by s.job done.plan decided stands;
        tree = tree.tree;
        nodes_are = tree.nodes_are;
        certifies = record {
          root = area_of s.nodes 0;
          is_root = root;
          valid = subst (λ (best : Option ℕ). IsValid s.job best (area_of s.nodes 0) tree.tree) (ap (option_map (λ b. b.1)) (sym plan_is) ∙ costs_by s.job done.plan decided) tree.valid;
        };
      };
      is_tree = tree.read;
    }

pub finish_of : (s : BookState) (r : Result Finished NoMemory) → Decides s → IfOk r (λ done. done.plan ≡ s.best)
    → IfOk r (λ done. IfSome done.plan (λ b. IsPlanAt s.job b.0 b.1)) → IsRoot s.job (area_of s.nodes 0) → IfOk r (λ done. IsTreeFor s done.tree)
    → IfOk r (IsFinishOf s)
finish_of s (Ok done) decides plan_is stands root tree = finish_by s done decides plan_is stands root tree
finish_of s (Err stop) decides plan_is stands root tree = tt

-- a book of the job that is finished
pub finished_as : (job : Job) (s : BookState) (r : Result Finished NoMemory) → s.job ≡ job → IfOk r (IsFinishOf s) → IfOk r (IsFinished job)
finished_as job s (Ok done) same f = subst (λ (j : Job). IsFinished j done) same f.finished
finished_as job s (Err stop) same f = tt

-- and one that is later than a graft
pub regrown : (job : Job) (old : Bytes) (graft s : BookState) (r : Result Finished NoMemory) → s.job ≡ job → IsGraft job old graft → IsLater graft s → IfOk r (IsFinishOf s)
    → IfOk r (IsFinishedFrom job (Some old))
regrown job old graft s (Ok done) same is_graft later f = subst (λ (j : Job). IsFinishedFrom j (Some old) done) same (record {
  finished = f.finished;
  grows = record { graft = graft; is_graft = subst (λ (j : Job). IsGraft j old graft) (sym same) is_graft; grown = s; is_later = later; is_tree = f.is_tree };
})
regrown job old graft s (Err stop) same is_graft later f = tt

-- what holds of what a search found, where it found something
pub for_ok : {E V : Type 0} (P : V → Type 0) (r : Result V E) → IfOk r P → ForOk r P
for_ok P (Ok value) holds = λ other is. subst P (one_value value other is) holds
for_ok P (Err stop) holds = λ other is. absurd (no_value stop other is)

-- a search from no old text
pub from_none : (job : Job) (r : Result Finished NoMemory) → IfOk r (IsFinished job) → IfOk r (IsFinishedFrom job None)
from_none job (Ok done) f = record { finished = f; grows = tt }
from_none job (Err stop) f = tt

-- and from one
pub from_old : (job : Job) (text old : Bytes) (r : Result Finished NoMemory) → text ≡ old → IfOk r (IsFinishedFrom job (Some text)) → IfOk r (IsFinishedFrom job (Some old))
from_old job text old r same f = subst (λ (b : Bytes). IfOk r (IsFinishedFrom job (Some b))) same f

pub from_some : (job : Job) (from : Option Bytes) (r : Result Finished NoMemory) → IfOk r (IsFinishedFrom job from) → IfOk r (IsFinished job)
from_some job from (Ok done) f = f.finished
from_some job from (Err stop) f = tt

-- a tree that certifies a solution is one of the root, and so are its nodes
pub certified_root : (job : Job) (best : Option Purchase) (tree : BoxTree) → Certifies job best tree → IsTreeOf job (root_of job) tree
certified_root job best tree c =
    subst (λ (area : IntervalBox). IsTreeOf job area tree) (root_is_value job c.root c.is_root) (valid_is_tree job c.root (option_map (cost job) best) tree c.valid)

pub finished_nodes : (job : Job) (done : Finished) → IsFinished job done → AreRootNodes job done.tree
finished_nodes job done f = record { tree = f.tree; of_root = certified_root job (bought_by done.plan) f.tree f.certifies; nodes_are = f.nodes_are }

-- what was written is the text of the certificate
pub wrote_certificate : (job : Job) (done : Finished) (old new : State) (slot : ℕ) (plan : Option Purchase) (f : IsFinished job done) → plan ≡ bought_by done.plan
    → Puts old new slot (certificate_text job plan f.tree) → Puts old new slot (certificate_of job done f)
wrote_certificate job done old new slot plan f same p = subst (λ (best : Option Purchase). Puts old new slot (certificate_text job best f.tree)) same p

pub wrote_prefix : (job : Job) (done : Finished) (old new : State) (slot : ℕ) (plan : Option Purchase) (f : IsFinished job done) → plan ≡ bought_by done.plan
    → PutsPrefix old new slot (certificate_text job plan f.tree) → PutsPrefix old new slot (certificate_of job done f)
wrote_prefix job done old new slot plan f same p = subst (λ (best : Option Purchase). PutsPrefix old new slot (certificate_text job best f.tree)) same p

-- the answer of a solution is one to the job
solves_plan : (read : JobRead) (from : Option Bytes) (plan : Option (Plan × ℕ)) (tree : BoxTree) → IsSolution read.job plan → Certifies read.job (bought_by plan) tree
    → GrowsFrom read.job from tree → SolvesJob read from (solution_answer plan) (solution_text read plan) (certificate_text read.job (bought_by plan) tree)
solves_plan read from None tree s c g = (s, refl, record { tree = tree; certifies = c; grows = g; text_is = refl })
solves_plan read from (Some best) tree s c g = (s, refl, record { tree = tree; certifies = c; grows = g; text_is = refl })

solves_done : (read : JobRead) (from : Option Bytes) (done : Finished) → (f : IsFinishedFrom read.job from done)
    → SolvesJob read from (solution_answer done.plan) (solution_text read done.plan) (certificate_of read.job done f.finished)
solves_done read from done f = solves_plan read from done.plan f.finished.tree f.finished.solution f.finished.certifies f.grows

pub solved_saved : (read : JobRead) (from : Option Bytes) (old new : State) (file : Option Name) (done : Finished) (answer : Answer) (text : Bytes) (saved : Unit {0})
    → (f : IsFinishedFrom read.job from done) → answer ≡ solution_answer done.plan → text ≡ solution_text read done.plan
    → SaveGivenGives old new file (certificate_of read.job done f.finished) (Ok saved) → IsSteady old new × IsSolved read from old.world new.world file answer text
solved_saved read from old new file done answer text saved f answer_is text_is s =
    let certificate = certificate_of read.job done f.finished in (
      s.0,
      record {
        certificate = certificate;
        solves = subst (λ (a : Answer). SolvesJob read from a text certificate) (sym answer_is)
            (subst (λ (t : Bytes). SolvesJob read from (solution_answer done.plan) t certificate) (sym text_is) (solves_done read from done f));
        saves = s.1;
      },
    )

pub solved_lost : (read : JobRead) (from : Option Bytes) (old new : State) (file : Option Name) (done : Finished) (lost : NoReply) → (f : IsFinishedFrom read.job from done)
    → SaveGivenGives old new file (certificate_of read.job done f.finished) (Err lost) → SolveGives read from old new file (Err lost)
solved_lost read from old new file done Tree f s = (
  s.0,
  s.1,
  record {
    answer = solution_answer done.plan;
    text = solution_text read done.plan;
    certificate = certificate_of read.job done f.finished;
    solves = solves_done read from done f;
    cut = s.2;
  },
)
solved_lost read from old new file done Memory f s = (
  s.0,
  inr (record {
    answer = solution_answer done.plan;
    text = solution_text read done.plan;
    certificate = certificate_of read.job done f.finished;
    solves = solves_done read from done f;
    cut = s.1;
  }),
)

pub solves_nothing : (read : JobRead) (from : Option Bytes) (s : State) (file : Option Name) → SolveGives read from s s file (Err Memory)
solves_nothing read from s file = (steady_same s, inl refl)

-- the summary of a job that was made and solved
pub summed : (seed goods suppliers : ℕ) (job : Job) (plan : Option (Plan × ℕ)) (best : Plan × ℕ) (text : Bytes) → IsGenJob seed goods suppliers job → IsSolution job plan → plan ≡ Some best
    → text ≡ summary_text seed goods suppliers best.1 → SumsUp seed goods suppliers text
summed seed goods suppliers job plan best text made solution same text_is =
    record { job = job; is_made = made; plan = best.0; amount = best.1; least = subst (IsSolution job) same solution; text_is = text_is }
