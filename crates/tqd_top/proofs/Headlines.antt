-- From the cause of an answer to the headline.
use Rattle.std.proofs.Common.{ℕ, ◌≡◌, ◌↔◌, ◌++◌, Bool, List, [], Option, None, Some, refl, sym, ◌∙◌, ap, subst, inl, inr}
use Rattle.std.specs.Prelude.{IsSome, Result, Ok, Err, if◌then◌else◌, nat_eq, unwrap_or}
use Rattle.std.specs.Option.{option_map}
use Rattle.std.specs.Cmp.Lexicographic.{pointwise, bytes_decides}
use Rattle.tqd_base.specs.World.{World, State, Name, Bytes, IsIdle, NeverFall, bytes_at, print, set_file}
use Rattle.tqd_instance.specs.declared.job.Job.{Job}
use Rattle.tqd_instance.specs.declared.plan.Plan.{Plan}
use Rattle.tqd_instance.specs.Plan.{units}
use Rattle.tqd_instance.specs.Purchase.{Purchase}
use Rattle.tqd_instance.specs.Least.{HasNoPurchase}
use Rattle.bound_tree.specs.BoxTree.{IsValid}
use Rattle.tree_checker.specs.declared.rejection.Rejection.{Rejection}
use Rattle.tree_checker.specs.declared.rejection.Verdict.{Verdict}
use Rattle.plan_report.specs.declared.fault.FileFault.{FileFault}
use Rattle.plan_report.specs.declared.file.InputFile.{InputFile}
use Rattle.tree_checker.specs.declared.rejection.Verdict.TheVariants.{Optimal, NoPurchase}
use Rattle.tree_checker.specs.Verdict.{verdict}
use Rattle.bound_tree.specs.Shared.{shared}
use Rattle.bound_tree.proofs.Unfolding.{share_root}
use Rattle.verdict_laws.specs.Shown.{HasLeast, IsTextOf, ShowsLeast, ShowsNone, with_slots}
use Rattle.tqd_top.specs.declared.answer.Answer.TheVariants.{Solved, Infeasible, Accepted, AcceptedNone, Rejected, Listed, Words, BadInput, ReadFault, WriteFault}
use Rattle.tqd_top.specs.declared.answer.Target.{Target}
use Rattle.tqd_top.specs.declared.answer.Target.TheVariants.{Tree, Out}
use Rattle.tqd_top.specs.declared.answer.Ended.{Ended}
use Rattle.tqd_top.specs.declared.answer.Reply.{Reply}
use Rattle.tqd_top.specs.declared.answer.NoReply.{NoReply}
use Rattle.tqd_top.specs.declared.answer.NoReply.TheVariants.{Tree as NoTree, Memory as WantsMemory}
use Rattle.tqd_top.specs.Certificate.{IsCertificate, IsLeastPlan}
use Rattle.tqd_top.specs.SavedTree.{saved}
use Rattle.tqd_top.specs.Causes.{FailsOnlyInputs, IsBadInput, IsChecked, IsReadFault, status_of}
use Rattle.tqd_top.specs.BreakEven.{IsCutInfeasible}
use Rattle.tqd_top.specs.Listed.{IsListed}
use Rattle.command_words.specs.Forms.{usage_text}
use Rattle.command_words.specs.Words.{IsNoForm, ToBreakEven, ToCheck, ToCompare, ToMake, ToNeed, ToRequote, ToSolve, ToTabulate}
use Rattle.tqd_top.specs.Output.{IsFileShowing, IsJobSolved, IsWriteFault, Leaves, Prints, Says}
use Rattle.tqd_top.specs.Headline.{AcceptedClause, AcceptedNoneClause, InfeasibleClause, IsProgramRun, IsSolvedInfeasible, SolvedClause}
use Rattle.tqd_top.specs.Inner.Runs.{EndGives, Replies}
use Rattle.tqd_top.proofs.Readings.{falls_never}
use Rattle.tqd_top.proofs.Solutions.{certified_root}
use Rattle.tqd_top.proofs.Causes.{HasCause, cause_of, cause_of_memory, cause_of_tree, idle_after, idle_memory, idle_tree, inputs_of}
use Rattle.tqd_top.proofs.Commands.{means}
use Rattle.tqd_top.proofs.Completes.{answers_check, answers_compare, answers_cut, answers_make, answers_needs, answers_no_form, answers_requote, answers_solve, answers_table}

-- what the laws say of the verdict of a text
pub record IsLawful : Type 0 where
  pub optimal : (job : Job) (text : Bytes) (c : ℕ) → (verdict job text ≡ Optimal c) ↔ ShowsLeast job text c
  pub none : (job : Job) (text : Bytes) → (verdict job text ≡ NoPurchase) ↔ ShowsNone job text
  pub sound : (job : Job) (text : Bytes) (c : ℕ) → verdict job text ≡ Optimal c → HasLeast job text c
  pub empty : (job : Job) (text : Bytes) → verdict job text ≡ NoPurchase → HasNoPurchase job

-- a tree that certifies an answer is one of the root, so that its text is one of it
text_of_certificate : (job : Job) (from : Option Bytes) (best : Option Purchase) (text : Bytes) → (c : IsCertificate job from best text) → IsTextOf job best c.tree text
text_of_certificate job from best text c =
    let unfolds = share_root job c.tree (certified_root job best c.tree c.certifies) in
    with_slots (shared job c.tree) unfolds.0 (sym unfolds.1) c.text_is

-- the text of a tree that certifies an answer has its verdict
shows_least : (job : Job) (from : Option Bytes) (plan : Plan) (amount : ℕ) (text : Bytes) → IsLeastPlan job plan amount → IsCertificate job from (Some (units plan)) text
    → ShowsLeast job text amount
shows_least job from plan amount text o c = record {
  x = units plan;
  tree = c.tree;
  root = c.certifies.root;
  is_root = c.certifies.is_root;
  text_is = text_of_certificate job from (Some (units plan)) text c;
  feasible = o.least.feasible;
  cost_is = o.costs;
  valid = subst (λ (n : ℕ). IsValid job (Some n) c.certifies.root c.tree) (sym o.costs) c.certifies.valid;
}

shows_none : (job : Job) (from : Option Bytes) (text : Bytes) → IsCertificate job from None text → ShowsNone job text
shows_none job from text c = record {
  tree = c.tree;
  root = c.certifies.root;
  is_root = c.certifies.is_root;
  text_is = text_of_certificate job from None text c;
  valid = c.certifies.valid;
}

-- a file that was saved has its text, also after printing
some_bytes : (o : Option (Name → Option Bytes)) (name text : Bytes) → IsSome o
    → option_map (λ files. unwrap_or (files name) []) (option_map {U = Name → Option Bytes} (λ files other. if pointwise nat_eq other name then Some text else files other) o) ≡ Some text
some_bytes None name text told = cc
some_bytes (Some files) name text told = ap (λ (b : Bool). Some (unwrap_or (if b then Some text else files name) [])) ((bytes_decides name name).1 refl)

saved_bytes : (w : World) (name : Name) (text : Bytes) → IsSome w.files → bytes_at (saved w (Some name) text) name ≡ Some text
unfolding saved set_file bytes_at
saved_bytes w name text told = some_bytes w.files name text told

printed_bytes : (w : World) (name : Name) (text : Bytes) → bytes_at (print w text) name ≡ bytes_at w name
unfolding print bytes_at
printed_bytes w name text = refl

shown_file : (old between new : World) (tree : Option Name) (name : Name) (job : Job) (certificate text : Bytes) (shown : Verdict) → tree ≡ Some name → between ≡ saved old tree certificate
    → new ≡ print between text → IsSome old.files → verdict job certificate ≡ shown → IsFileShowing new name job shown
shown_file old between new tree name job certificate text shown tree_is saves world told is = record {
  bytes = certificate;
  bytes_are = ap (λ (w : World). bytes_at w name) (world ∙ ap (λ (w : World). print w text) (saves ∙ ap (λ (t : Option Name). saved old t certificate) tree_is))
      ∙ printed_bytes (saved old (Some name) certificate) name text ∙ saved_bytes old name certificate told;
  verdict_is = is;
}

-- the output grew by the text
output_after : (w : World) (tree : Option Name) (certificate text : Bytes) → (print (saved w tree certificate) text).output ≡ option_map (λ output. output ++ text) w.output
unfolding saved set_file print
output_after w None certificate text = refl
output_after w (Some name) certificate text = refl

prints : (old between new : World) (tree : Option Name) (certificate text said : Bytes) → between ≡ saved old tree certificate → new ≡ print between text → text ≡ said → Prints old new said
prints old between new tree certificate text said saves world same =
    ap (λ (w : World). w.output) (world ∙ ap (λ (w : World). print w text) saves) ∙ output_after old tree certificate text
    ∙ ap (λ (t : Bytes). option_map (λ output. output ++ t) old.output) same

-- what an answer to a job leaves
leaves : (old between new : World) (tree : Option Name) (job : Job) (from : Option Bytes) (best : Option Purchase) (certificate text said : Bytes) (shown : Verdict)
    → IsCertificate job from best certificate → between ≡ saved old tree certificate → new ≡ print between text → text ≡ said → verdict job certificate ≡ shown
    → Leaves old new tree job from best said shown
leaves old between new tree job from best certificate text said shown certifies saves world same is = record {
  printed = prints old between new tree certificate text said saves world same;
  shows = λ name tree_is told. shown_file old between new tree name job certificate text shown tree_is saves world told is;
  certificate = certificate;
  certifies = certifies;
  world = world ∙ ap (λ (w : World). print w text) saves ∙ ap (print (saved old tree certificate)) same;
}

-- what the answers mean
solved_clause : IsLawful → (a : Bool) (old new : State) (words : List Name) (plan : Plan) (amount : ℕ) → HasCause a old new words (Solved plan amount)
    → SolvedClause a old.world new.world words plan amount
solved_clause laws a old new words plan amount c =
    let f = c.reply in
    let s = f.solved in
    record {
      files = f.files;
      tree = f.tree;
      from = f.from;
      seeks = f.seeks;
      read = f.read;
      stated = f.stated;
      sized = s.solves.0.sized;
      least = s.solves.0.least;
      cost_is = s.solves.0.costs;
      leaves = leaves old.world c.between new.world f.tree f.read.job f.from (Some (units plan)) s.certificate c.text _ (Optimal amount) s.solves.2 s.saves c.world s.solves.1
          ((laws.optimal f.read.job s.certificate amount).1 (shows_least f.read.job f.from plan amount s.certificate s.solves.0 s.solves.2));
    }

solved_infeasible : IsLawful → (a : Bool) (old between new : World) (words : List Name) (text : Bytes) → IsJobSolved a old between words Infeasible text → new ≡ print between text
    → IsSolvedInfeasible a old new words
solved_infeasible laws a old between new words text f world =
    let s = f.solved in
    record {
      files = f.files;
      tree = f.tree;
      from = f.from;
      seeks = f.seeks;
      read = f.read;
      stated = f.stated;
      none = s.solves.0;
      leaves = leaves old between new f.tree f.read.job f.from None s.certificate text _ NoPurchase s.solves.2 s.saves world s.solves.1
          ((laws.none f.read.job s.certificate).1 (shows_none f.read.job f.from s.certificate s.solves.2));
    }

says : (old between new : World) (text : Bytes) (IsText : Bytes → Type 0) → between ≡ old → new ≡ print between text → IsText text → Says old new IsText
says old between new text IsText same world is = record { text = text; is_text = is; world = world ∙ ap (λ (w : World). print w text) same }

infeasible_clause : IsLawful → (a : Bool) (old new : State) (words : List Name) → HasCause a old new words Infeasible → InfeasibleClause a old.world new.world words
infeasible_clause laws a old new words c = elim c.reply [
  | inl solved ↦ inl (solved_infeasible laws a old.world c.between new.world words c.text solved c.world)
  | inr cut ↦ inr (says old.world c.between new.world c.text (IsCutInfeasible a old.world words) cut.0 c.world cut.1)
]

-- the text was printed on the world as it was
said_at_once : (old between new : World) (text said : Bytes) → between ≡ old → new ≡ print between text → text ≡ said → new ≡ print old said
said_at_once old between new text said same world is = world ∙ ap (λ (w : World). print w text) same ∙ ap (print old) is

accepted_clause : IsLawful → (a : Bool) (old new : State) (words : List Name) (amount : ℕ) → HasCause a old new words (Accepted amount) → AcceptedClause a old.world new.world words amount
accepted_clause laws a old new words amount c =
    let f = c.reply.1 in
    let is = sym f.shows.is_verdict ∙ f.answers.0 in
    record {
      files = f.files;
      tree = f.tree;
      is_check = f.is_check;
      read = f.read;
      stated = f.stated;
      text = f.shows.text;
      reads = f.shows.reads;
      within = f.shows.within;
      verdict_is = is;
      least = laws.sound f.read.job f.shows.text amount is;
      world = said_at_once old.world c.between new.world c.text _ c.reply.0 c.world f.answers.1;
    }

accepted_none_clause : IsLawful → (a : Bool) (old new : State) (words : List Name) → HasCause a old new words AcceptedNone → AcceptedNoneClause a old.world new.world words
accepted_none_clause laws a old new words c =
    let f = c.reply.1 in
    let is = sym f.shows.is_verdict ∙ f.answers.0 in
    record {
      files = f.files;
      tree = f.tree;
      is_check = f.is_check;
      read = f.read;
      stated = f.stated;
      text = f.shows.text;
      reads = f.shows.reads;
      within = f.shows.within;
      verdict_is = is;
      none = laws.empty f.read.job f.shows.text is;
      world = said_at_once old.world c.between new.world c.text _ c.reply.0 c.world f.answers.1;
    }

rejected_clause : (a : Bool) (old new : State) (words : List Name) (rejection : Rejection) → HasCause a old new words (Rejected rejection)
    → Says old.world new.world (IsChecked a old.world words (Rejected rejection))
rejected_clause a old new words rejection c = says old.world c.between new.world c.text (IsChecked a old.world words (Rejected rejection)) c.reply.0 c.world c.reply.1

listed_clause : (a : Bool) (old new : State) (words : List Name) → HasCause a old new words Listed → Says old.world new.world (IsListed a old.world words)
listed_clause a old new words c = says old.world c.between new.world c.text (IsListed a old.world words) c.reply.0 c.world c.reply.1

usage_clause : (a : Bool) (old new : State) (words : List Name) → HasCause a old new words Words → Says old.world new.world (λ text. IsNoForm words × (text ≡ usage_text))
usage_clause a old new words c = says old.world c.between new.world c.text (λ text. IsNoForm words × (text ≡ usage_text)) c.reply.0 c.world (c.reply.1, c.reply.2)

bad_clause : (a : Bool) (old new : State) (words : List Name) (fault : FileFault) → HasCause a old new words (BadInput fault) → Says old.world new.world (IsBadInput a old.world words fault)
bad_clause a old new words fault c = says old.world c.between new.world c.text (IsBadInput a old.world words fault) c.reply.0 c.world c.reply.1

unread_clause : (a : Bool) (old new : State) (words : List Name) (file : InputFile) → HasCause a old new words (ReadFault file) → Says old.world new.world (IsReadFault a old new words file)
unread_clause a old new words file c = says old.world c.between new.world c.text (IsReadFault a old new words file) c.reply.0 c.world c.reply.1

write_clause : (a : Bool) (old new : State) (words : List Name) (target : Target) → HasCause a old new words (WriteFault target) → IsWriteFault a old new words target
write_clause a old new words Tree c = c
write_clause a old new words Out c = c

-- the headline of an answer that has its cause
headline : IsLawful → (a : Bool) (old new : State) (words : List Name) (ended : Ended) → IsIdle new.world → ended.status ≡ status_of ended.answer → HasCause a old new words ended.answer
    → FailsOnlyInputs old new words → NeverFall old.faults new.faults → IsProgramRun a old new words ended
headline laws a old new words ended idle status cause inputs falls = record {
  solved = λ plan amount is. solved_clause laws a old new words plan amount (subst (HasCause a old new words) is cause);
  infeasible = λ is. infeasible_clause laws a old new words (subst (HasCause a old new words) is cause);
  accepted = λ amount is. accepted_clause laws a old new words amount (subst (HasCause a old new words) is cause);
  accepted_none = λ is. accepted_none_clause laws a old new words (subst (HasCause a old new words) is cause);
  rejected = λ rejection is. rejected_clause a old new words rejection (subst (HasCause a old new words) is cause);
  listed = λ is. listed_clause a old new words (subst (HasCause a old new words) is cause);
  usage = λ is. usage_clause a old new words (subst (HasCause a old new words) is cause);
  bad_input = λ fault is. bad_clause a old new words fault (subst (HasCause a old new words) is cause);
  read_fault = λ file is. unread_clause a old new words file (subst (HasCause a old new words) is cause);
  write_fault = λ target is. write_clause a old new words target (subst (HasCause a old new words) is cause);
  memory = λ is. subst (HasCause a old new words) is cause;
  solve_complete = λ files tree outcome is told given f. answers_solve a old.world files tree is.workers outcome ended.answer told given
      (means a old new words (ToSolve files tree is.workers) ended.answer is.words_are f cause);
  check_complete = λ files tree outcome is told given f. answers_check a old.world files tree outcome ended.answer told given
      (means a old new words (ToCheck files tree) ended.answer is.words_are f cause);
  needs_complete = λ orders bill outcome is told given f. answers_needs a old.world orders bill outcome ended.answer told given
      (means a old new words (ToNeed orders bill) ended.answer is.words_are f cause);
  make_complete = λ seed goods suppliers is f. answers_make a old.world seed goods suppliers ended.answer
      (means a old new words (ToMake seed goods suppliers) ended.answer is.words_are f cause);
  requote_complete = λ files name tree outcome is told given f. answers_requote a old.world files name tree outcome ended.answer told given
      (means a old new words (ToRequote files name tree) ended.answer is.words_are f cause);
  scenarios_complete = λ files terms outcome is told given f. answers_compare a old.world files terms is.workers outcome ended.answer told given
      (means a old new words (ToCompare files terms is.workers) ended.answer is.words_are f cause);
  winners_complete = λ files outcome is told given f. answers_table a old.world files is.workers outcome ended.answer told given
      (means a old new words (ToTabulate files is.workers) ended.answer is.words_are f cause);
  break_even_complete = λ files supplier outcome is told given f. answers_cut a old.world files supplier outcome ended.answer told given
      (means a old new words (ToBreakEven files supplier) ended.answer is.words_are f cause);
  no_form = λ none. answers_no_form a old new words ended.answer none cause;
  status = status;
  idle = idle;
  inputs = inputs;
  never_fall = falls;
}

-- and of one that was found, and printed or not
pub ends : IsLawful → (a : Bool) (old mid new : State) (words : List Name) (reply : Result Reply NoReply) (ended : Ended) → IsIdle old.world → Replies a old mid words reply
    → EndGives mid new reply ended.answer → ended.status ≡ status_of ended.answer → IsProgramRun a old new words ended
ends laws a old mid new words (Ok reply) ended idle replies gives status = headline laws a old new words ended
    (idle_after a old mid new words reply ended.answer replies gives idle)
    status
    (cause_of a old mid new words reply ended.answer replies gives)
    (inputs_of old mid new words replies.quiet.named gives.kept)
    (falls_never _ mid.faults _ replies.quiet.never_fall gives.never_fall)
ends laws a old mid new words (Err NoTree) ended idle replies gives status =
    let here = subst (λ (s : State). Replies a old s words (Err NoTree)) (sym gives.1) replies in
    headline laws a old new words ended
    (idle_tree a old new words here idle)
    status
    (subst (HasCause a old new words) (sym gives.0) (cause_of_tree a old new words here))
    here.quiet.named
    here.quiet.never_fall
ends laws a old mid new words (Err WantsMemory) ended idle replies gives status =
    let here = subst (λ (s : State). Replies a old s words (Err WantsMemory)) (sym gives.1) replies in
    headline laws a old new words ended
    (idle_memory a old new words here idle)
    status
    (subst (HasCause a old new words) (sym gives.0) (cause_of_memory a old new words here))
    here.quiet.named
    here.quiet.never_fall
