use Rattle.std.proofs.Common.{◌≡◌, List, not, map, ap, refl, ◌∙◌}
use Rattle.std.specs.List.{list_any}
use Rattle.bom_reader.specs.Rows.{Row}
use Rattle.offer_reader.specs.Terms.{same_term}
use Rattle.offer_reader.specs.TermRows.{key_of, key_texts, row_of, with_key}
use Rattle.offer_reader.proofs.KeyFacts.{keys_are, repeats_are}
use Rattle.offer_reader.proofs.term_row.TermKeys.insert.Goals as goal

pub returns-clause-fresh : goal.returns-clause-fresh
returns-clause-fresh c =
    let row = row_of c.args.row.now in
    let is : key_texts (c.in_ok-kind.kind, c.in_ok-supplier.supplier, c.in_ok-part.part) ≡ key_of row = rw (c.in_ok-kind.ensures.ok, c.in_ok-supplier.ensures.ok, c.in_ok-part.ensures.ok) refl in
    c.in_ok-insert.ensures.added ∙ ap not (repeats_are c.self.inside.keys.keys (c.in_ok-kind.kind, c.in_ok-supplier.supplier, c.in_ok-part.part) row is)
    ∙ ap (λ (keys : List Row). not (list_any (same_term row) keys)) c.self.view_is

pub returns-clause-keys : goal.returns-clause-keys
returns-clause-keys c =
    let row = row_of c.args.row.now in
    let is : key_texts (c.in_ok-kind.kind, c.in_ok-supplier.supplier, c.in_ok-part.part) ≡ key_of row = rw (c.in_ok-kind.ensures.ok, c.in_ok-supplier.ensures.ok, c.in_ok-part.ensures.ok) refl in
    ap (map key_texts) c.in_ok-insert.ensures.keys ∙ keys_are c.self.inside.keys.keys (c.in_ok-kind.kind, c.in_ok-supplier.supplier, c.in_ok-part.part) row is
    ∙ ap (λ (keys : List Row). with_key keys row) c.self.view_is
