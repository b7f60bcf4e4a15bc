-- Reading the TERMS words of `scenarios` one after the other.
use Rattle.std.proofs.Common.{ℕ, ◌≡◌, ◌+◌, ◌<◌, ◌≤◌, Bool, List, [], ◌∷◌, ◌++◌, length, get_or, map, take, Option, None, refl, sym, ◌∙◌, ap, subst, arith, inl, inr, length-append}
use Rattle.std.proofs.Math.Seq.{get_or-append_seam}
use Rattle.std.proofs.lemmas.Bool.{cases_order}
use Rattle.std.proofs.lemmas.List.{get_or-map, get_or-take, get_or_append_left, length-take-le, same_lists}
use Rattle.std.specs.Prelude.{Ok, Err, IsSome}
use Rattle.tqd_base.specs.World.{World, State, Name}
use Rattle.tqd_base.specs.Calls.{Rests}
use Rattle.tqd_base.proofs.DeskLemmas.{same_faults}
use Rattle.tqd_instance.specs.declared.job.Job.{Job}
use Rattle.plan_report.specs.declared.file.InputFile.TheVariants.{Scenario}
use Rattle.tqd_top.specs.declared.no_value.NoValue.{NoValue}
use Rattle.tqd_top.specs.declared.no_value.NoValue.TheVariants.{Bad, Unread, Memory}
use Rattle.tqd_top.specs.declared.reading.OffersRead.{OffersRead}
use Rattle.tqd_top.specs.JobOf.{FaultLine, IsOnly, Outcome}
use Rattle.tqd_top.specs.Scenarios.{AreStated, IsFirstFault, ScenarioGives, ScenariosGive}
use Rattle.tqd_top.specs.Unread.{FailsAtGiven, IsUnreadTerms}
use Rattle.tqd_top.specs.Inner.Steps.{ReadGives}
use Rattle.tqd_top.proofs.Readings.{err_is_one, fails_later, ok_is_no_err, ok_is_one, rests_then, still_then}

-- the job or the fault of the word with this place, which is the only one where the files are told
abbrev pub IsWord : Bool → World → OffersRead → List (Option Name) → ℕ → Outcome Job → Type 0
IsWord a w read all n = IsOnly (IsSome w.files) (ScenarioGives a w read (n + 1) (get_or all n None))

-- the jobs of so many words
abbrev pub AreWords : Bool → World → OffersRead → List (Option Name) → List Job → ℕ → Type 0
AreWords a w read all jobs count = (n : ℕ) (d : Job) → n < count → IsWord a w read all n (Ok (get_or jobs n d))

-- are those that the words state
stated : (a : Bool) (w : World) (read : OffersRead) (all : List (Option Name)) (jobs : List Job) (count : ℕ) → length jobs ≡ count → count ≤ length all → AreWords a w read all jobs count
    → AreStated a w read (take count all) jobs
stated a w read all jobs count counted within words = record {
  as_many = counted ∙ sym (length-take-le count all within);
  each = λ n d inside.
      let here : n < count = omega (arith, length-take-le count all within) in
      rw (get_or-take count all n None here) ((words n d here).states);
}

all_stated : (a : Bool) (w : World) (read : OffersRead) (all : List (Option Name)) (jobs : List Job) → length jobs ≡ length all → AreWords a w read all jobs (length all) → AreStated a w read all jobs
all_stated a w read all jobs counted words = record { as_many = counted; each = λ n d inside. (words n d inside).states }

-- a list that is not empty has a job
some_job : (jobs : List Job) → 0 < length jobs → Job
some_job [] some = absurd (omega (arith, some))
some_job (job ∷ jobs) some = job

-- the outcome of all words, where each states a job
no_fault : (a : Bool) (w : World) (read : OffersRead) (all : List (Option Name)) (job : Job) (n : ℕ) → IsWord a w read all n (Ok job) → IsSome w.files
    → (fault : FaultLine) → ScenarioGives a w read (n + 1) (get_or all n None) (Err fault) → ⊥
no_fault a w read all job n word told fault gives = ok_is_no_err job fault (sym (word.alone told (Err fault) gives))

jobs_alone : (a : Bool) (w : World) (read : OffersRead) (all : List (Option Name)) (jobs : List Job) → length jobs ≡ length all → AreWords a w read all jobs (length all) → IsSome w.files
    → (other : Outcome (List Job)) → ScenariosGive a w all read other → other ≡ Ok jobs
jobs_alone a w read all jobs counted words told (Ok others) s = ap (λ (list : List Job). Ok list) (same_lists others jobs (s.as_many ∙ sym counted)
    (λ n d inside.
    let here : n < length all = omega (arith, s.as_many) in
    ok_is_one (get_or others n d) (get_or jobs n d) ((words n d here).alone told (Ok (get_or others n d)) (s.each n d here))))
jobs_alone a w read all jobs counted words told (Err fault) s =
    let d = some_job jobs (omega (arith, counted, s.inside)) in
    absurd (no_fault a w read all (get_or jobs s.before d) s.before (words s.before d s.inside) told fault s.fault)

only_jobs : (a : Bool) (w : World) (read : OffersRead) (all : List (Option Name)) (jobs : List Job) → length jobs ≡ length all → AreWords a w read all jobs (length all)
    → IsOnly (IsSome w.files) (ScenariosGive a w all read) (Ok jobs)
only_jobs a w read all jobs counted words = record { states = all_stated a w read all jobs counted words; alone = jobs_alone a w read all jobs counted words }

-- the outcome where a word has a fault, and those before it state jobs
no_job : (a : Bool) (w : World) (read : OffersRead) (all : List (Option Name)) (n : ℕ) (told : FaultLine) → IsWord a w read all n (Err told) → IsSome w.files
    → (job : Job) → ScenarioGives a w read (n + 1) (get_or all n None) (Ok job) → ⊥
no_job a w read all n told word known job gives = ok_is_no_err job told (word.alone known (Ok job) gives)

-- two faults that come first are at the same word
first_at : (a : Bool) (w : World) (read : OffersRead) (all : List (Option Name)) (jobs : List Job) (count : ℕ) (told other : FaultLine) → length jobs ≡ count → AreWords a w read all jobs count
    → IsWord a w read all count (Err told) → IsSome w.files → (s : IsFirstFault a w read all other) → s.before ≡ count
first_at a w read all jobs count told other counted words word known s = elim (cases_order s.before count) [
  | inl same ↦ same
  | inr differ ↦ elim differ [
    | inl less ↦
        let d = some_job jobs (omega (arith, counted, less)) in
        absurd (no_fault a w read all (get_or jobs s.before d) s.before (words s.before d less) known other s.fault)
    | inr more ↦
        let taken = length-take-le s.before all (omega (arith, s.inside)) in
        let d = some_job s.jobs (omega (arith, s.stated.as_many, taken, more)) in
        absurd (no_job a w read all count told word known (get_or s.jobs count d)
        (subst (λ (t : Option Name). ScenarioGives a w read (count + 1) t (Ok (get_or s.jobs count d))) (get_or-take s.before all count None more)
        (s.stated.each count d (omega (arith, taken, more)))))
  ]
]

fault_alone : (a : Bool) (w : World) (read : OffersRead) (all : List (Option Name)) (jobs : List Job) (count : ℕ) (told : FaultLine) → length jobs ≡ count → count < length all
    → AreWords a w read all jobs count → IsWord a w read all count (Err told) → IsSome w.files
    → (other : Outcome (List Job)) → ScenariosGive a w all read other → other ≡ Err told
fault_alone a w read all jobs count told counted inside words word known (Ok others) s =
    let d = some_job others (omega (arith, s.as_many, inside)) in
    absurd (no_job a w read all count told word known (get_or others count d) (s.each count d inside))
fault_alone a w read all jobs count told counted inside words word known (Err other) s =
    let here = subst (λ (n : ℕ). ScenarioGives a w read (n + 1) (get_or all n None) (Err other)) (first_at a w read all jobs count told other counted words word known s) s.fault in
    ap (λ (line : FaultLine). Err line) (err_is_one {V = Job} other told (word.alone known (Err other) here))

only_fault : (a : Bool) (w : World) (read : OffersRead) (all : List (Option Name)) (jobs : List Job) (count : ℕ) (told : FaultLine) → length jobs ≡ count → count < length all
    → AreWords a w read all jobs count → IsWord a w read all count (Err told) → IsOnly (IsSome w.files) (ScenariosGive a w all read) (Err told)
only_fault a w read all jobs count told counted inside words word = record {
  states = record {
    before = count;
    inside = inside;
    jobs = jobs;
    stated = stated a w read all jobs count counted (omega (arith, inside)) words;
    fault = word.states;
  };
  alone = fault_alone a w read all jobs count told counted inside words word;
}

-- the word at a place names this file, or none
pub word_names : {X : Type 0} (named : X → Option Name) (words : List X) (n : ℕ) (word : X) (terms : Option Name) → n < length words → word ≡ get_or words n word → terms ≡ named word
    → get_or (map named words) n None ≡ terms
word_names named words n word terms inside is e = get_or-map named words n word None inside ∙ ap named (sym is) ∙ sym e

-- so many words were read, which state these jobs
pub record IsUnderWay (a : Bool) (old now : State) (read : OffersRead) (all : List (Option Name)) (jobs : List Job) (count : ℕ) : Type 0 where
  pub rests : Rests old now
  pub counted : length jobs ≡ count
  pub words : AreWords a old.world read all jobs count

pub way_starts : (a : Bool) (s : State) (read : OffersRead) (all : List (Option Name)) → IsUnderWay a s s read all [] 0
way_starts a s read all = record {
  rests = record { world = refl; kept = refl; never_fall = same_faults s.faults };
  counted = refl;
  words = λ n d none. absurd (omega (arith, none));
}

-- what a word gives, in the words of the state at the start
word_at_start : (a : Bool) (old mid : State) (read : OffersRead) (all : List (Option Name)) (at count : ℕ) (terms : Option Name) (outcome : Outcome Job) → Rests old mid
    → at ≡ count + 1 → get_or all count None ≡ terms → IsOnly (IsSome mid.world.files) (ScenarioGives a mid.world read at terms) outcome → IsWord a old.world read all count outcome
word_at_start a old mid read all at count terms outcome rests at_is is one =
    subst (λ (t : Option Name). IsOnly (IsSome old.world.files) (ScenarioGives a old.world read (count + 1) t) outcome) (sym is)
    (subst (λ (n : ℕ). IsOnly (IsSome old.world.files) (ScenarioGives a old.world read n terms) outcome) at_is
    (subst (λ (w : World). IsOnly (IsSome w.files) (ScenarioGives a w read at terms) outcome) rests.world one))

-- one job more
words_more : (a : Bool) (w : World) (read : OffersRead) (all : List (Option Name)) (jobs : List Job) (count : ℕ) (job : Job) → length jobs ≡ count → AreWords a w read all jobs count
    → IsWord a w read all count (Ok job) → AreWords a w read all (jobs ++ job ∷ []) (count + 1)
words_more a w read all jobs count job counted words word n d below = elim (cases_order n count) [
  | inl same ↦
      let last : get_or (jobs ++ job ∷ []) n d ≡ job = ap (λ (m : ℕ). get_or (jobs ++ job ∷ []) m d) (same ∙ sym counted) ∙ get_or-append_seam jobs job [] d in
      rw last (subst (λ (m : ℕ). IsWord a w read all m (Ok job)) (sym same) word)
  | inr differ ↦ elim differ [
    | inl less ↦ rw (get_or_append_left jobs (job ∷ []) d n (omega (arith, counted, less))) (words n d less)
    | inr more ↦ absurd (omega (arith, below, more))
  ]
]

pub way_more : (a : Bool) (old mid new : State) (read : OffersRead) (all : List (Option Name)) (jobs : List Job) (at count : ℕ) (terms : Option Name) (job : Job)
    → IsUnderWay a old mid read all jobs count → get_or all count None ≡ terms → at ≡ count + 1 → Rests mid new
    → IsOnly (IsSome mid.world.files) (ScenarioGives a mid.world read at terms) (Ok job) → IsUnderWay a old new read all (jobs ++ job ∷ []) (count + 1)
way_more a old mid new read all jobs at count terms job way is at_is rests one = record {
  rests = rests_then old mid new way.rests rests;
  counted = omega (arith, length-append jobs (job ∷ []), way.counted);
  words = words_more a old.world read all jobs count job way.counted way.words (word_at_start a old mid read all at count terms (Ok job) way.rests at_is is one);
}

-- a word whose file has a fault, or could not be read
pub way_stops : (a : Bool) (old mid new : State) (read : OffersRead) (all : List (Option Name)) (jobs : List Job) (at count : ℕ) (terms : Option Name) (halt : NoValue)
    → IsUnderWay a old mid read all jobs count → count < length all → get_or all count None ≡ terms → at ≡ count + 1
    → ReadGives {V = Job} (ScenarioGives a mid.world read at terms) (λ file. (file ≡ Scenario at) × FailsAtGiven mid new terms) mid new (Err halt)
    → ReadGives {V = List Job} (ScenariosGive a old.world all read) (IsUnreadTerms a old new read all) old new (Err halt)
way_stops a old mid new read all jobs at count terms (Bad fault text) way inside is at_is h = (
  rests_then old mid new way.rests h.0,
  only_fault a old.world read all jobs count _ way.counted inside way.words (word_at_start a old mid read all at count terms _ way.rests at_is is h.1),
)
way_stops a old mid new read all jobs at count terms (Unread file) way inside is at_is h = (
  still_then old mid new way.rests h.0,
  record {
    before = count;
    jobs = jobs;
    stated = stated a old.world read all jobs count way.counted (omega (arith, inside)) way.words;
    is_file = h.1.0 ∙ ap (λ (n : ℕ). Scenario n) at_is;
    fails = (h.1.1.0, is ∙ h.1.1.1, fails_later old mid new h.1.1.0 way.rests h.1.1.2);
  },
)
way_stops a old mid new read all jobs at count terms Memory way inside is at_is h = rests_then old mid new way.rests h

-- all words were read
pub way_ends : (a : Bool) (old new : State) (read : OffersRead) (all : List (Option Name)) (jobs : List Job) (count : ℕ) → count ≡ length all → IsUnderWay a old new read all jobs count
    → ReadGives {V = List Job} (ScenariosGive a old.world all read) (IsUnreadTerms a old new read all) old new (Ok jobs)
way_ends a old new read all jobs count done way = (
  way.rests,
  only_jobs a old.world read all jobs (way.counted ∙ done) (subst (λ (n : ℕ). AreWords a old.world read all jobs n) done way.words),
)
