-- A bill has one explosion, and the parts of a job have one job or one first fault.
use Rattle.std.proofs.Common.{ℕ, ◌≡◌, [], refl, sym, ◌∙◌, ap, subst, arith, inl, inr}
use Rattle.std.proofs.lemmas.Bool.{cases_order}
use Rattle.std.specs.Prelude.{Result, Ok, Err}
use Rattle.tqd_base.specs.declared.memory.Stop.{Stop}
use Rattle.tqd_base.specs.declared.memory.Stop.TheVariants.{Refused, Memory as NoMemory}
use Rattle.bom_reader.specs.Bill.{BillData, IsBill}
use Rattle.bom_explode.specs.Structure.{structure_of}
use Rattle.bom_explode.specs.Needs.{Needed}
use Rattle.bom_explode.specs.Explosion.{Explodes}
use Rattle.bom_explode.specs.declared.fault.ExplodeFault.{ExplodeFault}
use Rattle.bom_explode.specs.declared.fault.ExplodeFault.TheVariants.{Circle, NeedRange}
use Rattle.plan_report.specs.FaultText.{IsFaultNamed}
use Rattle.bom_explode.proofs.Structures.{IsStructure-of}
use Rattle.bom_explode.proofs.Agreeing.{answers_agree}
use Rattle.tqd_instance.specs.PartsData.{PartsData}
use Rattle.tqd_instance.specs.Parts.{IsWellFormed}
use Rattle.tqd_instance.specs.Built.{IsFirstBadShare, IsFirstLack, Passes, Refuses}
use Rattle.tqd_instance.specs.declared.job.Job.{Job}
use Rattle.tqd_instance.specs.declared.parts.JobFault.{JobFault}
use Rattle.tqd_instance.specs.declared.parts.JobFault.TheVariants.{TooManyGoods, MissingPrice, ShareOrder, WinnerOrder}
use Rattle.tqd_instance.proofs.FromsExist.{job_one}
use Rattle.plan_report.specs.declared.fault.FileFault.TheVariants.{Explode as InExplosion, Job as InJob}
use Rattle.tqd_top.specs.declared.reading.NeedsRead.{NeedsRead}
use Rattle.tqd_top.specs.declared.reading.OffersRead.{OffersRead}
use Rattle.tqd_top.specs.declared.reading.JobRead.{JobRead}
use Rattle.tqd_top.specs.JobOf.{ExplosionGives, IsOnly, JobGives, Outcome, FaultLine, before_job, told_by_bill, told_by_offers}

-- the same bill with the same needs
same_needs : (a b : NeedsRead) → a.bill ≡ b.bill → a.needs ≡ b.needs → a ≡ b
same_needs a b p q = ap (λ (x : BillData). record { bill = x; needs = a.needs }) p ∙ ap (λ (n : Needed). record { bill = b.bill; needs = n }) q

no_memory : (x : Needed) → ◌≡◌ {A = Result Needed (Stop ExplodeFault)} (Ok x) (Err NoMemory) → ⊥
no_memory x = λ e. cc

no_memory_at : (f : ExplodeFault) → ◌≡◌ {A = Result Needed (Stop ExplodeFault)} (Err (Refused f)) (Err NoMemory) → ⊥
no_memory_at f = λ e. cc

needs_or_fault : (x : Needed) (f : ExplodeFault) → ◌≡◌ {A = Result Needed (Stop ExplodeFault)} (Ok x) (Err (Refused f)) → ⊥
needs_or_fault x f e = cc

one_needs : (x y : Needed) → ◌≡◌ {A = Result Needed (Stop ExplodeFault)} (Ok x) (Ok y) → x ≡ y
one_needs x y e = cc

one_fault : (f g : ExplodeFault) → ◌≡◌ {A = Result Needed (Stop ExplodeFault)} (Err (Refused f)) (Err (Refused g)) → f ≡ g
one_fault f g e = cc

explosion_alone : (bill : BillData) → IsBill bill → (this other : Outcome NeedsRead) → ExplosionGives bill this → ExplosionGives bill other → other ≡ this
explosion_alone bill is_bill (Ok a) (Ok b) g h =
    let agree = answers_agree (structure_of bill) (IsStructure-of bill is_bill) in
    ap (λ (x : NeedsRead). Ok x) (same_needs b a (h.0 ∙ sym g.0) (one_needs b.needs a.needs (agree (Ok b.needs) (Ok a.needs) h.1 g.1 (no_memory b.needs) (no_memory a.needs))))
explosion_alone bill is_bill (Ok a) (Err told) g h =
    let agree = answers_agree (structure_of bill) (IsStructure-of bill is_bill) in
    absurd (needs_or_fault a.needs h.0 (agree (Ok a.needs) (Err (Refused h.0)) g.1 h.2 (no_memory a.needs) (no_memory_at h.0)))
explosion_alone bill is_bill (Err told) (Ok b) g h =
    let agree = answers_agree (structure_of bill) (IsStructure-of bill is_bill) in
    absurd (needs_or_fault b.needs g.0 (agree (Ok b.needs) (Err (Refused g.0)) h.1 g.2 (no_memory b.needs) (no_memory_at g.0)))
explosion_alone bill is_bill (Err told) (Err fault) g h =
    let agree = answers_agree (structure_of bill) (IsStructure-of bill is_bill) in
    ap (λ (x : FaultLine). Err x) (h.1 ∙ ap (λ (f : ExplodeFault). told_by_bill bill (InExplosion f)) (one_fault h.0 g.0 (agree (Err (Refused h.0)) (Err (Refused g.0)) h.2 g.2 (no_memory_at h.0) (no_memory_at g.0))) ∙ sym g.1)

pub one_explosion : (bill : BillData) → IsBill bill → (outcome : Outcome NeedsRead) → ExplosionGives bill outcome → IsOnly (Unit {0}) (ExplosionGives bill) outcome
one_explosion bill is_bill outcome gives = record { states = gives; alone = λ known other g. explosion_alone bill is_bill outcome other gives g }

-- the name that a fault of an explosion tells is there
pub explode_named : (bill : BillData) (fault : ExplodeFault) → Explodes (structure_of bill) (Err (Refused fault)) → IsFaultNamed bill.names [] [] (InExplosion fault)
unfolding structure_of
explode_named bill (Circle n) e = e.inside
explode_named bill (NeedRange n) e = e.above.inside

-- the first lack of a price is one
one_good : (parts : PartsData) (i from k good : ℕ) → IsFirstLack parts i from k → IsFirstLack parts i from good → k ≡ good
one_good parts i from k good a b = elim (cases_order k good) [
  | inl same ↦ same
  | inr other ↦ elim other [
    | inl less ↦ absurd (b.first_good k less a.lacks)
    | inr more ↦ absurd (a.first_good good more b.lacks)
  ]
]

one_interval : (parts : PartsData) (i from k other good : ℕ) → IsFirstLack parts i from k → IsFirstLack parts i other good → from ≡ other
one_interval parts i from k other good a b = elim (cases_order from other) [
  | inl same ↦ same
  | inr differ ↦ elim differ [
    | inl less ↦ absurd (b.first_interval from k less a.lacks)
    | inr more ↦ absurd (a.first_interval other good more b.lacks)
  ]
]

one_supplier : (parts : PartsData) (i from k j other good : ℕ) → IsFirstLack parts i from k → IsFirstLack parts j other good → i ≡ j
one_supplier parts i from k j other good a b = elim (cases_order i j) [
  | inl same ↦ same
  | inr differ ↦ elim differ [
    | inl less ↦ absurd (b.first_supplier i from k less a.lacks)
    | inr more ↦ absurd (a.first_supplier j other good more b.lacks)
  ]
]

one_lack : (parts : PartsData) (i from k j other good : ℕ) → IsFirstLack parts i from k → IsFirstLack parts j other good → MissingPrice i from k ≡ MissingPrice j other good
one_lack parts i from k j other good a b =
    let supplier = one_supplier parts i from k j other good a b in
    let at_i = subst (λ (s : ℕ). IsFirstLack parts s other good) (sym supplier) b in
    let interval = one_interval parts i from k other good a at_i in
    let at_from = subst (λ (f : ℕ). IsFirstLack parts i f good) (sym interval) at_i in
    ap (λ (s : ℕ). MissingPrice s from k) supplier ∙ ap (λ (f : ℕ). MissingPrice j f k) interval ∙ ap (λ (g : ℕ). MissingPrice j other g) (one_good parts i from k good a at_from)

one_share : (parts : PartsData) (i j : ℕ) → IsFirstBadShare parts i → IsFirstBadShare parts j → i ≡ j
one_share parts i j a b = elim (cases_order i j) [
  | inl same ↦ same
  | inr differ ↦ elim differ [
    | inl less ↦ absurd (b.first i less a.bad)
    | inr more ↦ absurd (a.first j more b.bad)
  ]
]

-- parts have one refusal
pub one_refusal : (parts : PartsData) (f g : JobFault) → Refuses parts f → Refuses parts g → f ≡ g
one_refusal parts (TooManyGoods n) (TooManyGoods m) a b = ap (λ (x : ℕ). TooManyGoods x) (a.1 ∙ sym b.1)
one_refusal parts (TooManyGoods n) (MissingPrice i from k) a b = absurd (omega (arith, a.0, a.1, b.0))
one_refusal parts (TooManyGoods n) (ShareOrder i) a b = absurd (omega (arith, a.0, a.1, b.0))
one_refusal parts (TooManyGoods n) WinnerOrder a b = absurd (omega (arith, a.0, a.1, b.0))
one_refusal parts (MissingPrice i from k) (TooManyGoods n) a b = absurd (omega (arith, b.0, b.1, a.0))
one_refusal parts (MissingPrice i from k) (MissingPrice j other good) a b = one_lack parts i from k j other good a.1 b.1
one_refusal parts (MissingPrice i from k) (ShareOrder j) a b = absurd (b.1 i from k a.1.lacks)
one_refusal parts (MissingPrice i from k) WinnerOrder a b = absurd (b.1 i from k a.1.lacks)
one_refusal parts (ShareOrder i) (TooManyGoods n) a b = absurd (omega (arith, b.0, b.1, a.0))
one_refusal parts (ShareOrder i) (MissingPrice j from k) a b = absurd (a.1 j from k b.1.lacks)
one_refusal parts (ShareOrder i) (ShareOrder j) a b = ap (λ (x : ℕ). ShareOrder x) (one_share parts i j a.2 b.2)
one_refusal parts (ShareOrder i) WinnerOrder a b = absurd (b.2 i a.2.bad)
one_refusal parts WinnerOrder (TooManyGoods n) a b = absurd (omega (arith, b.0, b.1, a.0))
one_refusal parts WinnerOrder (MissingPrice i from k) a b = absurd (a.1 i from k b.1.lacks)
one_refusal parts WinnerOrder (ShareOrder i) a b = absurd (a.2 i b.2.bad)
one_refusal parts WinnerOrder WinnerOrder a b = refl

-- and none where they pass
pub passes_or_refuses : (parts : PartsData) (f : JobFault) → Passes parts → Refuses parts f → ⊥
passes_or_refuses parts (TooManyGoods n) p r = omega (arith, p.few_goods, r.0, r.1)
passes_or_refuses parts (MissingPrice i from k) p r = p.prices i from k r.1.lacks
passes_or_refuses parts (ShareOrder i) p r = p.shares i r.2.bad
passes_or_refuses parts WinnerOrder p r = omega (arith, p.winners, r.3)

-- the same files with the same job
same_job : (a b : JobRead) → before_job a ≡ before_job b → a.job ≡ b.job → a ≡ b
same_job a b p q =
    ap (λ (x : OffersRead). record { bill = x.bill; needs = x.needs; book = x.book; job = a.job }) p
    ∙ ap (λ (j : Job). record { bill = b.bill; needs = b.needs; book = b.book; job = j }) q

job_alone : (before : OffersRead) → IsWellFormed before.book.parts → (this other : Outcome JobRead) → JobGives before this → JobGives before other → other ≡ this
job_alone before formed (Ok a) (Ok b) g h = ap (λ (x : JobRead). Ok x) (same_job b a (h.0 ∙ sym g.0) (job_one before.book.parts b.job a.job formed h.2 g.2))
job_alone before formed (Ok a) (Err told) g h = absurd (passes_or_refuses before.book.parts h.0 g.1 h.2)
job_alone before formed (Err told) (Ok b) g h = absurd (passes_or_refuses before.book.parts g.0 h.1 g.2)
job_alone before formed (Err told) (Err fault) g h =
    ap (λ (x : FaultLine). Err x) (h.1 ∙ ap (λ (f : JobFault). told_by_offers before (InJob f)) (one_refusal before.book.parts h.0 g.0 h.2 g.2) ∙ sym g.1)

pub one_job : (before : OffersRead) → IsWellFormed before.book.parts → (outcome : Outcome JobRead) → JobGives before outcome → IsOnly (Unit {0}) (JobGives before) outcome
one_job before formed outcome gives = record { states = gives; alone = λ known other g. job_alone before formed outcome other gives g }
