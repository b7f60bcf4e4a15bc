-- The number of workers is within its range, and their reply ends the run.
use Rattle.std.proofs.Common.{ℕ, ◌≡◌, Option, Some, List, String, map, sym, ◌∙◌, ap, arith, Bor}
use Rattle.std.proofs.lemmas.List.{length-map}
use Rattle.std.specs.Global.{Global}
use Rattle.std.specs.Prelude.{string_bytes}
use Rattle.std.specs.Option.{option_copied, option_map}
use Rattle.tqd_base.specs.World.{Name}
use Rattle.command_words.specs.declared.words.Command.{Command}
use Rattle.command_words.specs.declared.words.Command.TheVariants.{Scenarios, Solve, Winners}
use Rattle.command_words.specs.declared.words.JobFiles.{JobFiles}
use Rattle.command_words.specs.Forms.{file_of}
use Rattle.command_words.specs.Words.{ToCompare, ToSolve, ToTabulate, asked, command_of, files_named}
use Rattle.command_words.proofs.Ranges.{ranged}
use Rattle.tqd_top.proofs.ReplyLemmas.{plain_as}
use Rattle.tqd_top.proofs.program.run.Goals as goal

-- the words are this `solve`
solves : (words : List Name) (read : Option Command) (command : Command) (files : JobFiles) (tree : Option (Bor (List ℕ))) (workers : ℕ) → option_map asked read ≡ command_of words
    → read ≡ Some command → command ≡ Solve files tree workers → command_of words ≡ Some (ToSolve (files_named files) (option_copied tree) workers)
solves words read command files tree workers reads is same = sym reads ∙ ap (option_map asked) (is ∙ ap (λ (c : Command). Some c) same)

pub overflow_cast-number : goal.overflow_cast-number
overflow_cast-number g c =
    let w = c.in-Some-Solve in
    omega (arith, (ranged _ _ (solves _ c.read_words.result w.field-0 w.files w.tree w.workers c.read_words.ensures w.is w.field-0-is)).below)

pub solve_by-solved-requires-clause-few : goal.solve_by-solved-requires-clause-few
solve_by-solved-requires-clause-few g c =
    let w = c.in-Some-Solve in
    λ κs live. (ranged _ _ (solves _ c.read_words.result w.field-0 w.files w.tree w.workers c.read_words.ensures w.is w.field-0-is)).below

pub returns-in-Some-Solve : goal.returns-in-Some-Solve
returns-in-Some-Solve g c =
    let w = c.in-Some-Solve in
    c.end.ensures _ _ c.requires (c.solve_by-solved.ensures _ w.workers (solves _ c.read_words.result w.field-0 w.files w.tree w.workers c.read_words.ensures w.is w.field-0-is))

-- the words are this `scenarios`
compares : (words : List Name) (read : Option Command) (command : Command) (files : JobFiles) (terms : Bor (List (String Global))) (workers : ℕ) → option_map asked read ≡ command_of words
    → read ≡ Some command → command ≡ Scenarios files terms workers
    → command_of words ≡ Some (ToCompare (files_named files) (map (λ word. file_of (string_bytes word)) terms.now) workers)
compares words read command files terms workers reads is same = sym reads ∙ ap (option_map asked) (is ∙ ap (λ (c : Command). Some c) same)

pub overflow_cast-number-in-Some-Scenarios : goal.overflow_cast-number-in-Some-Scenarios
overflow_cast-number-in-Some-Scenarios g c =
    let w = c.in-Some-Scenarios in
    omega (arith, (ranged _ _ (compares _ c.read_words.result w.field-0 w.files w.terms w.workers c.read_words.ensures w.is w.field-0-is)).1.below)

pub compare_by-compared-requires-clause-few_words : goal.compare_by-compared-requires-clause-few_words
compare_by-compared-requires-clause-few_words g c =
    let w = c.in-Some-Scenarios in
    λ κs live. omega (
      arith,
      (ranged _ _ (compares _ c.read_words.result w.field-0 w.files w.terms w.workers c.read_words.ensures w.is w.field-0-is)).0.below,
      length-map w.terms.now (λ word. file_of (string_bytes word)),
    )

pub compare_by-compared-requires-clause-few : goal.compare_by-compared-requires-clause-few
compare_by-compared-requires-clause-few g c =
    let w = c.in-Some-Scenarios in
    λ κs live. (ranged _ _ (compares _ c.read_words.result w.field-0 w.files w.terms w.workers c.read_words.ensures w.is w.field-0-is)).1.below

pub returns-in-Some-Scenarios : goal.returns-in-Some-Scenarios
returns-in-Some-Scenarios g c =
    let w = c.in-Some-Scenarios in
    c.end-in-Some-Scenarios.ensures _ _ c.requires (plain_as _ _ _ _ _ _ c.or_no_reply.ensures
    (c.compare_by-compared.ensures _ w.workers (compares _ c.read_words.result w.field-0 w.files w.terms w.workers c.read_words.ensures w.is w.field-0-is)))

-- the words are this `winners`
tabulates : (words : List Name) (read : Option Command) (command : Command) (files : JobFiles) (workers : ℕ) → option_map asked read ≡ command_of words
    → read ≡ Some command → command ≡ Winners files workers → command_of words ≡ Some (ToTabulate (files_named files) workers)
tabulates words read command files workers reads is same = sym reads ∙ ap (option_map asked) (is ∙ ap (λ (c : Command). Some c) same)

pub overflow_cast-number-in-Some-Winners : goal.overflow_cast-number-in-Some-Winners
overflow_cast-number-in-Some-Winners g c =
    let w = c.in-Some-Winners in
    omega (arith, (ranged _ _ (tabulates _ c.read_words.result w.field-0 w.files w.workers c.read_words.ensures w.is w.field-0-is)).below)

pub winners_by-listed-requires-clause-few : goal.winners_by-listed-requires-clause-few
winners_by-listed-requires-clause-few g c =
    let w = c.in-Some-Winners in
    λ κs live. (ranged _ _ (tabulates _ c.read_words.result w.field-0 w.files w.workers c.read_words.ensures w.is w.field-0-is)).below

pub returns-in-Some-Winners : goal.returns-in-Some-Winners
returns-in-Some-Winners g c =
    let w = c.in-Some-Winners in
    c.end-in-Some-Winners.ensures _ _ c.requires
    (plain_as _ _ _ _ _ _ c.or_no_reply-in-Some-Winners.ensures (c.winners_by-listed.ensures _ w.workers (tabulates _ c.read_words.result w.field-0 w.files w.workers c.read_words.ensures w.is w.field-0-is)))
