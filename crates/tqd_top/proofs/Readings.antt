-- Reading files one after the other.
use Rattle.std.proofs.Common.{ℕ, ◌≡◌, ◌+◌, ◌<◌, ◌≤◌, Bool, true, false, Option, None, Some, [], length, replicate, refl, sym, ◌∙◌, ap, subst, arith, inl, inr}
use Rattle.std.proofs.lemmas.Bool.{le-ltb, lt-ltb}
use Rattle.std.proofs.lemmas.List.{length-replicate}
use Rattle.std.specs.Prelude.{IsSome, IfSome, Result, Ok, Err, nat_lt, unwrap_or}
use Rattle.std.specs.Option.{option_map}
use Rattle.tqd_base.specs.declared.limits.TheConstants.{FILE_MAX}
use Rattle.tqd_base.specs.World.{World, State, Name, Bytes, Faults, NeverFall, Rose, bytes_at}
use Rattle.tqd_base.specs.Calls.{Rests, FailsReading}
use Rattle.tqd_base.specs.ReadAll.{IsTooLong}
use Rattle.plan_report.specs.declared.file.InputFile.{InputFile}
use Rattle.plan_report.specs.declared.fault.FileFault.TheVariants.{Size}
use Rattle.tqd_top.specs.declared.no_value.NoValue.{NoValue}
use Rattle.tqd_top.specs.declared.no_value.NoValue.TheVariants.{Bad, Unread, Memory}
use Rattle.tqd_top.specs.Reads.{ReadsAs, FailsAt}
use Rattle.tqd_top.specs.JobOf.{FaultLine, Outcome, Gives, IsOnly, Then, plainly, sized}
use Rattle.tqd_top.specs.Inner.Steps.{Answers, StopsAt, InputGives, IsFileUnread, IsStill, ReadGives, Yields}

-- a count that rose before, or after, another did not fall
pub rose_before : (a b c : ℕ) → Rose a b → b ≤ c → Rose a c
unfolding Rose
rose_before a b c rose le = omega arith

pub rose_later : (a b c : ℕ) → a ≤ b → Rose b c → Rose a c
unfolding Rose
rose_later a b c le rose = omega arith

pub falls_never : (f g h : Faults) → NeverFall f g → NeverFall g h → NeverFall f h
falls_never f g h p q = record { reading = omega arith; writing = omega arith; printing = omega arith }

-- two steps that left the world, one after the other
pub rests_then : (old mid new : State) → Rests old mid → Rests mid new → Rests old new
rests_then old mid new a b = record { world = b.world ∙ a.world; kept = b.kept ∙ a.kept; never_fall = falls_never _ mid.faults _ a.never_fall b.never_fall }

pub still_then : (old mid new : State) → Rests old mid → IsStill mid new → IsStill old new
still_then old mid new a b = record { world = b.world ∙ a.world; never_fall = falls_never _ mid.faults _ a.never_fall b.never_fall }

pub fails_later : (old mid new : State) (name : Name) → Rests old mid → FailsAt mid new name → FailsAt old new name
fails_later old mid new name r f = record {
  rose = rose_later old.faults.reading mid.faults.reading new.faults.reading r.never_fall.reading f.rose;
  named = λ told. f.named (subst (λ (w : World). IsSome w.files) (sym r.world) told);
}

-- bytes that are too many, where the file is told or not
long_bytes : (o : Option Bytes) (limit : ℕ) → IfSome o (λ file. limit < length file) → (bytes : Bytes) × IfSome o (λ file. bytes ≡ file) × (limit < length bytes)
long_bytes None limit h = (replicate (limit + 1) 0, tt, omega (arith, length-replicate {A = ℕ} (limit + 1) 0))
long_bytes (Some file) limit h = (file, refl, h)

pub unread_file : (old new : State) (file : InputFile) (name : Name) → FailsReading old new name → IsStill old new × IsFileUnread old new file name file
unread_file old new file name f = (record { world = f.world; never_fall = f.never_fall }, record { is_file = refl; fails = record { rose = f.rose; named = f.named } })

-- a halt at a fault of the size
pub size_stops : (a : Bool) (old new : State) (file : InputFile) (name : Name) (limit : ℕ) (halt : NoValue) → Rests old new → IsTooLong a old.world name limit
    → StopsAt (plainly (Size file)) halt → InputGives a old new file name limit (Err halt)
size_stops a old new file name limit (Bad fault text) rests long h = (rests, sym h, long)
size_stops a old new file name limit (Unread other) rests long h = absurd h
size_stops a old new file name limit Memory rests long h = rests

-- a halt at a fault
pub answers_stop : {V : Type 0} (States : Outcome V → Type 0) (told : FaultLine) (halt : NoValue) → IsOnly (Unit {0}) States (Err told) → StopsAt told halt → Answers States (Err halt)
answers_stop States told (Bad fault text) s h = subst (λ (t : FaultLine). IsOnly (Unit {0}) States (Err t)) h s
answers_stop States told (Unread file) s h = h
answers_stop States told Memory s h = tt

-- two readings of one name, where the files are told, give the same bytes
one_reading : (o : Option Bytes) (b c : Bytes) → IsSome o → IfSome o (λ file. b ≡ file) → IfSome o (λ file. c ≡ file) → b ≡ c
one_reading None b c some p q = cc
one_reading (Some file) b c some p q = p ∙ sym q

pub mapped : {A B : Type 0} (f : A → B) (o : Option A) → IsSome o → IsSome (option_map f o)
mapped f None some = cc
mapped f (Some x) some = refl

pub same_bytes : (a : Bool) (w : World) (name : Name) (b c : Bytes) → IsSome w.files → ReadsAs a w name b → ReadsAs a w name c → b ≡ c
unfolding bytes_at
same_bytes a w name b c told p q = one_reading _ b c (mapped (λ files. unwrap_or (files name) []) w.files told) p.all q.all

-- so a file has one outcome
pub only_gives : {V : Type 0} (a : Bool) (w : World) (name : Name) (stated : Bytes → Outcome V) (bytes : Bytes) (outcome : Outcome V)
    → ReadsAs a w name bytes → stated bytes ≡ outcome → IsOnly (IsSome w.files) (Gives a w name stated) outcome
only_gives a w name stated bytes outcome reads e = record {
  states = record { bytes = bytes; reads = reads; outcome_is = e };
  alone = λ told other g. sym g.outcome_is ∙ ap stated (same_bytes a w name g.bytes bytes told g.reads reads) ∙ e;
}

-- the size of a file is tested first
not_long : (n limit : ℕ) → n ≤ limit → nat_lt limit n ≡ false
not_long n limit h = le-ltb limit n h

is_long : (n limit : ℕ) → limit < n → nat_lt limit n ≡ true
is_long n limit h = lt-ltb limit n h

sized_short : {V : Type 0} (file : InputFile) (stated : Bytes → Outcome V) (bytes : Bytes) → length bytes ≤ FILE_MAX → sized file stated bytes ≡ stated bytes
sized_short file stated bytes h = rw (not_long (length bytes) FILE_MAX h) refl

sized_long : {V : Type 0} (file : InputFile) (stated : Bytes → Outcome V) (bytes : Bytes) → FILE_MAX < length bytes → sized file stated bytes ≡ Err (plainly (Size file))
sized_long file stated bytes h = rw (is_long (length bytes) FILE_MAX h) refl

-- the outcome of one file, whose bytes were read or not
pub input_stops : {V : Type 0} (a : Bool) (old new : State) (file : InputFile) (name : Name) (stated : Bytes → Outcome V) (halt : NoValue)
    → InputGives a old new file name FILE_MAX (Err halt)
    → ReadGives (Gives a old.world name (sized file stated)) (IsFileUnread old new file name) old new (Err halt)
input_stops a old new file name stated (Bad fault text) h =
    let long = long_bytes (bytes_at old.world name) FILE_MAX h.2.beyond in (
      h.0,
      only_gives a old.world name (sized file stated) long.0 _ (record { readable = h.2.readable; all = long.1 })
          (sized_long file stated long.0 long.2 ∙ ap (λ (t : FaultLine). Err t) (sym h.1)),
    )
input_stops a old new file name stated (Unread other) h = h
input_stops a old new file name stated Memory h = h

pub input_read : {V : Type 0} (a : Bool) (old new : State) (file : InputFile) (name : Name) (stated : Bytes → Outcome V) (Fails : InputFile → Type 0) (bytes : Bytes) (r : Result V NoValue)
    → Rests old new → ReadsAs a old.world name bytes → length bytes ≤ FILE_MAX → Yields (stated bytes) r
    → ReadGives (Gives a old.world name (sized file stated)) Fails old new r
input_read a old new file name stated Fails bytes (Ok value) rests reads short y =
    (rests, only_gives a old.world name (sized file stated) bytes (Ok value) reads (sized_short file stated bytes short ∙ y))
input_read a old new file name stated Fails bytes (Err (Bad fault text)) rests reads short y =
    (rests, only_gives a old.world name (sized file stated) bytes _ reads (sized_short file stated bytes short ∙ y))
input_read a old new file name stated Fails bytes (Err (Unread other)) rests reads short y = absurd y
input_read a old new file name stated Fails bytes (Err Memory) rests reads short y = rests

-- the file that could not be read, in the words of a longer reading
pub fails_as : {V : Type 0} (States : Outcome V → Type 0) (Fails Wider : InputFile → Type 0) (old new : State) (r : Result V NoValue)
    → ((file : InputFile) → Fails file → Wider file) → ReadGives States Fails old new r → ReadGives States Wider old new r
fails_as States Fails Wider old new (Ok value) wider h = h
fails_as States Fails Wider old new (Err (Bad fault text)) wider h = h
fails_as States Fails Wider old new (Err (Unread file)) wider h = (h.0, wider file h.1)
fails_as States Fails Wider old new (Err Memory) wider h = h

pub ok_is_no_err : {V : Type 0} (value : V) (told : FaultLine) → ◌≡◌ {A = Outcome V} (Ok value) (Err told) → ⊥
ok_is_no_err value told e = cc

pub ok_is_one : {V : Type 0} (x y : V) → ◌≡◌ {A = Outcome V} (Ok x) (Ok y) → x ≡ y
ok_is_one x y e = cc

-- a first step that gave no value gives the outcome of both
pub err_is_one : {V : Type 0} (told other : FaultLine) → ◌≡◌ {A = Outcome V} (Err told) (Err other) → told ≡ other
err_is_one told other e = cc

first_alone : {V W : Type 0} (Known : Type 0) (First : Outcome V → Type 0) (Next : V → Outcome W → Type 0) (told : FaultLine)
    → IsOnly Known First (Err told) → Known → (other : Outcome W) → Then First Next other → other ≡ Err told
first_alone Known First Next told one known (Ok value) both = absurd (ok_is_no_err both.0 told (one.alone known (Ok both.0) both.1))
first_alone Known First Next told one known (Err fault) (inl first) = ap (λ (t : FaultLine). Err t) (err_is_one fault told (one.alone known (Err fault) first))
first_alone Known First Next told one known (Err fault) (inr both) = absurd (ok_is_no_err both.0 told (one.alone known (Ok both.0) both.1))

only_first : {V W : Type 0} (Known : Type 0) (First : Outcome V → Type 0) (Next : V → Outcome W → Type 0) (told : FaultLine)
    → IsOnly Known First (Err told) → IsOnly Known (Then First Next) (Err told)
only_first Known First Next told one = record { states = inl one.states; alone = first_alone Known First Next told one }

pub first_stops : {V W : Type 0} (First : Outcome V → Type 0) (Next : V → Outcome W → Type 0) (Fails Wider : InputFile → Type 0) (old new : State) (halt : NoValue)
    → ((file : InputFile) → Fails file → Wider file) → ReadGives First Fails old new (Err halt) → ReadGives (Then First Next) Wider old new (Err halt)
first_stops First Next Fails Wider old new (Bad fault text) wider h = (h.0, only_first _ First Next _ h.1)
first_stops First Next Fails Wider old new (Unread file) wider h = (h.0, wider file h.1)
first_stops First Next Fails Wider old new Memory wider h = h

-- a step after one that gave a value
then_states : {V W : Type 0} (First : Outcome V → Type 0) (Next : V → Outcome W → Type 0) (value : V) (outcome : Outcome W) → First (Ok value) → Next value outcome → Then First Next outcome
then_states First Next value (Ok next) first n = (value, first, n)
then_states First Next value (Err told) first n = inr (value, first, n)

then_alone : {V W : Type 0} (Known : Type 0) (First : Outcome V → Type 0) (Next : V → Outcome W → Type 0) (value : V) (outcome : Outcome W)
    → IsOnly Known First (Ok value) → IsOnly Known (Next value) outcome → Known → (other : Outcome W) → Then First Next other → other ≡ outcome
then_alone Known First Next value outcome first next known (Ok other) both =
    next.alone known (Ok other) (subst (λ v. Next v (Ok other)) (ok_is_one both.0 value (first.alone known (Ok both.0) both.1)) both.2)
then_alone Known First Next value outcome first next known (Err told) (inl fault) = absurd (ok_is_no_err value told (sym (first.alone known (Err told) fault)))
then_alone Known First Next value outcome first next known (Err told) (inr both) =
    next.alone known (Err told) (subst (λ v. Next v (Err told)) (ok_is_one both.0 value (first.alone known (Ok both.0) both.1)) both.2)

pub only_then : {V W : Type 0} (Known : Type 0) (First : Outcome V → Type 0) (Next : V → Outcome W → Type 0) (value : V) (outcome : Outcome W)
    → IsOnly Known First (Ok value) → IsOnly Known (Next value) outcome → IsOnly Known (Then First Next) outcome
only_then Known First Next value outcome first next = record {
  states = then_states First Next value outcome first.states next.states;
  alone = then_alone Known First Next value outcome first next;
}

-- a step that reads, after one that gave a value; what it says of the world between is said of the one before, which is the same
at_old : {V W : Type 0} (First : Outcome V → Type 0) (Next : World → V → Outcome W → Type 0) (old mid : State) (value : V) (outcome : Outcome W)
    → Rests old mid → IsOnly (IsSome old.world.files) First (Ok value) → IsOnly (IsSome mid.world.files) (Next mid.world value) outcome
    → IsOnly (IsSome old.world.files) (Then First (Next old.world)) outcome
at_old First Next old mid value outcome rests first one =
    only_then _ First (Next old.world) value outcome first (subst (λ (w : World). IsOnly (IsSome w.files) (Next w value) outcome) rests.world one)

pub then_reads : {V W : Type 0} (First : Outcome V → Type 0) (Next : World → V → Outcome W → Type 0) (Fails Wider : InputFile → Type 0) (old mid new : State) (value : V) (r : Result W NoValue)
    → Rests old mid → IsOnly (IsSome old.world.files) First (Ok value) → ((file : InputFile) → Fails file → Wider file)
    → ReadGives (Next mid.world value) Fails mid new r → ReadGives (Then First (Next old.world)) Wider old new r
then_reads First Next Fails Wider old mid new value (Ok next) rests first wider h = (rests_then old mid new rests h.0, at_old First Next old mid value (Ok next) rests first h.1)
then_reads First Next Fails Wider old mid new value (Err (Bad fault text)) rests first wider h =
    (rests_then old mid new rests h.0, at_old First Next old mid value (Err (record { fault = fault; text = text.items })) rests first h.1)
then_reads First Next Fails Wider old mid new value (Err (Unread file)) rests first wider h = (still_then old mid new rests h.0, wider file h.1)
then_reads First Next Fails Wider old mid new value (Err Memory) rests first wider h = rests_then old mid new rests h

-- a step that reads nothing
known_anyway : {V : Type 0} (Known : Type 0) (States : Outcome V → Type 0) (outcome : Outcome V) → IsOnly (Unit {0}) States outcome → IsOnly Known States outcome
known_anyway Known States outcome one = record { states = one.states; alone = λ known. one.alone tt }

pub then_answers : {V W : Type 0} (First : Outcome V → Type 0) (Next : V → Outcome W → Type 0) (Fails : InputFile → Type 0) (old new : State) (value : V) (r : Result W NoValue)
    → Rests old new → IsOnly (IsSome old.world.files) First (Ok value) → Answers (Next value) r → ReadGives (Then First Next) Fails old new r
then_answers First Next Fails old new value (Ok next) rests first h = (rests, only_then _ First Next value (Ok next) first (known_anyway _ _ _ h))
then_answers First Next Fails old new value (Err (Bad fault text)) rests first h = (rests, only_then _ First Next value _ first (known_anyway _ _ _ h))
then_answers First Next Fails old new value (Err (Unread file)) rests first h = absurd h
then_answers First Next Fails old new value (Err Memory) rests first h = rests
