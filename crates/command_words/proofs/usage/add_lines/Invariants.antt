-- The lines of the forms so far.
use Rattle.std.proofs.Common.{◌≡◌, ◌++◌, take}
use Rattle.std.specs.List.{flat_map}
use Rattle.command_words.specs.Forms.{form_of, usage_line}
use Rattle.command_words.proofs.usage.add_lines.Given as goal

abbrev pub invariant-loop-form : goal.invariant-loop-form
invariant-loop-form l =
    l.text.items ≡ l.initial.text.items ++ flat_map (λ form. usage_line l.before (form_of form)) (take l.form-index l.forms)
