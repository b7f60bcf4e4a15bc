-- A plan is offered to a book that has none, where it is feasible.
use Rattle.std.proofs.Common.{◌≡◌, ℕ, Option, None, refl, ap, subst, ◌∙◌}
use Rattle.tqd_instance.specs.declared.job.Job.{Job}
use Rattle.tqd_instance.specs.declared.plan.Plan.{Plan}
use Rattle.tqd_instance.specs.declared.standing.Standing.{Standing}
use Rattle.tqd_instance.specs.declared.standing.Standing.TheVariants.{Feasible, Need, Stock, Gap, Winners}
use Rattle.tqd_instance.specs.Plan.{units}
use Rattle.tqd_instance.specs.Purchase.{Purchase}
use Rattle.tqd_instance.specs.Standing.{Stands}
use Rattle.search_book.specs.declared.answers.Improve.{Improve}
use Rattle.search_book.specs.declared.answers.Improve.TheVariants.{Better, Kept}
use Rattle.search_book.specs.BookState.{BookState, best_cost}
use Rattle.search_book.specs.Events.{improve, Happens}
use Rattle.search_book.specs.Answers.{ImproveSays}
use Rattle.tree_checker.specs.Standing.{standing_of}
use Rattle.tree_checker.proofs.Standings.{standing_is, standing_same}
use Rattle.requote.specs.Graft.{IsPlanOf, OffersAt}

-- a purchase stands as the plan that has its units
pub stands_as : (job : Job) (plan : Plan) (x : Purchase) (standing : Standing) → IsPlanOf job x plan → Stands job (units plan) standing → standing ≡ standing_of job x
stands_as job plan x standing is h = standing_is job (units plan) standing h ∙ standing_same job (units plan) x is.units

better : (s t : BookState) (plan : Plan) (cost : ℕ) (answer : Improve) → s.best ≡ None → ImproveSays s plan cost t answer → Happens s (improve plan cost) t
better s t plan cost Better none says = says
better s t plan cost (Kept best) none says = absurd (let kept = says.0 in let no : best_cost s ≡ None = ap (λ (b : Option (Plan × ℕ)). best_cost (record s { best = b })) none in cc)

pub offered : (job : Job) (s t : BookState) (plan : Plan) (x : Purchase) (cost : ℕ) (answer : Improve) → IsPlanOf job x plan → Feasible cost ≡ standing_of job x → s.best ≡ None
    → ImproveSays s plan cost t answer → OffersAt job x s t (standing_of job x)
offered job s t plan x cost answer is stands none says = subst (OffersAt job x s t) stands (plan, is, better s t plan cost answer none says)

pub not_offered : (job : Job) (s : BookState) (x : Purchase) (standing : Standing) → ((cost : ℕ) → standing ≡ Feasible cost → ⊥) → OffersAt job x s s standing
not_offered job s x (Feasible cost) other = absurd (other cost refl)
not_offered job s x (Need good sum) other = refl
not_offered job s x (Stock i k) other = refl
not_offered job s x (Gap i total) other = refl
not_offered job s x (Winners n) other = refl
