-- Each row of the table is a form.
use Rattle.std.proofs.Common.{refl, ◌∙◌, ap}
use Rattle.std.specs.Prelude.{map, string_bytes}
use Rattle.std.specs.Option.{option_map}
use Rattle.command_words.specs.Forms.{form_of, is_of}
use Rattle.command_words.proofs.FormLemmas.{verb_by_rows}
use Rattle.command_words.proofs.form.verb_in.Goals as goal

pub returns-in-Some : goal.returns-in-Some
returns-in-Some c =
    let found = rw c.in-Some.is at c.find_form.ensures in
    ap (option_map (λ row. row.0)) found ∙ verb_by_rows form_of (λ row. row.0) (λ row. refl) (λ form. is_of form (map string_bytes c.args.words.now)) c.args.forms.now

pub returns-in-None : goal.returns-in-None
returns-in-None c =
    let found = rw c.in-None.is at c.find_form.ensures in
    ap (option_map (λ row. row.0)) found ∙ verb_by_rows form_of (λ row. row.0) (λ row. refl) (λ form. is_of form (map string_bytes c.args.words.now)) c.args.forms.now
