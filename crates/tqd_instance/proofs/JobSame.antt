-- Two jobs with the same numbers are one.
use Rattle.std.proofs.Common.{ℕ, ◌≡◌, List, ap, subst}
use Rattle.std.proofs.Props.{props}
use Rattle.tqd_instance.specs.declared.supplier.Supplier.{Supplier}
use Rattle.tqd_instance.specs.declared.job.Job.{Job}
use Rattle.tqd_instance.specs.JobFacts.{IsJob}

-- a job of these numbers
abbrev job_of : (needs mosts : List ℕ) (suppliers : List Supplier) (least most : ℕ) → IsJob needs mosts suppliers least most → Job
job_of needs mosts suppliers least most facts =
    record { needs = needs; mosts = mosts; suppliers = suppliers; least_winners = least; most_winners = most; facts = facts }

facts_prop : (needs mosts : List ℕ) (suppliers : List Supplier) (least most : ℕ) → IsProp (IsJob needs mosts suppliers least most)
facts_prop needs mosts suppliers least most = hlevel props

same_facts : (needs mosts : List ℕ) (suppliers : List Supplier) (least most : ℕ) (f g : IsJob needs mosts suppliers least most)
    → job_of needs mosts suppliers least most f ≡ job_of needs mosts suppliers least most g
same_facts needs mosts suppliers least most f g =
    ap (job_of needs mosts suppliers least most) (facts_prop needs mosts suppliers least most f g)

-- one number after the other
along_limits : (needs mosts : List ℕ) (suppliers : List Supplier) (least least' most most' : ℕ) → least ≡ least' → most ≡ most'
    → (f : IsJob needs mosts suppliers least most) (g : IsJob needs mosts suppliers least' most')
    → job_of needs mosts suppliers least most f ≡ job_of needs mosts suppliers least' most' g
along_limits needs mosts suppliers least least' most most' same_least same_most f =
    subst (λ (l : ℕ). (g : IsJob needs mosts suppliers l most') → job_of needs mosts suppliers least most f ≡ job_of needs mosts suppliers l most' g) same_least
    (subst (λ (m : ℕ). (g : IsJob needs mosts suppliers least m) → job_of needs mosts suppliers least most f ≡ job_of needs mosts suppliers least m g) same_most
    (same_facts needs mosts suppliers least most f))

along_lists : (needs needs' mosts mosts' : List ℕ) (suppliers suppliers' : List Supplier) (least least' most most' : ℕ)
    → needs ≡ needs' → mosts ≡ mosts' → suppliers ≡ suppliers' → least ≡ least' → most ≡ most'
    → (f : IsJob needs mosts suppliers least most) (g : IsJob needs' mosts' suppliers' least' most')
    → job_of needs mosts suppliers least most f ≡ job_of needs' mosts' suppliers' least' most' g
along_lists needs needs' mosts mosts' suppliers suppliers' least least' most most' same_needs same_mosts same_suppliers same_least same_most f =
    subst (λ (n : List ℕ). (g : IsJob n mosts' suppliers' least' most') → job_of needs mosts suppliers least most f ≡ job_of n mosts' suppliers' least' most' g) same_needs
    (subst (λ (m : List ℕ). (g : IsJob needs m suppliers' least' most') → job_of needs mosts suppliers least most f ≡ job_of needs m suppliers' least' most' g) same_mosts
    (subst (λ (s : List Supplier). (g : IsJob needs mosts s least' most') → job_of needs mosts suppliers least most f ≡ job_of needs mosts s least' most' g) same_suppliers
    (along_limits needs mosts suppliers least least' most most' same_least same_most f)))

pub job_same : (a b : Job) → a.needs ≡ b.needs → a.mosts ≡ b.mosts → a.suppliers ≡ b.suppliers → a.least_winners ≡ b.least_winners
    → a.most_winners ≡ b.most_winners → a ≡ b
job_same a b needs mosts suppliers least most =
    along_lists a.needs b.needs a.mosts b.mosts a.suppliers b.suppliers a.least_winners b.least_winners a.most_winners b.most_winners
    needs mosts suppliers least most a.facts b.facts
