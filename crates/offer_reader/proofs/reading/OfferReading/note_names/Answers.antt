use Rattle.std.proofs.Common.{rules, ◌≡◌, not, ap, ◌∙◌}
use Rattle.std.specs.List.{list_any}
use Rattle.offer_reader.specs.Reading.{row_of}
use Rattle.offer_reader.specs.Steps.{key_in, same_key, with_names_of}
use Rattle.offer_reader.proofs.KeyFacts.{key_there}
use Rattle.offer_reader.proofs.reading.OfferReading.note_names.Goals as goal

pub returns-clause-fresh : goal.returns-clause-fresh
returns-clause-fresh c =
    let same : not (list_any (same_key (c.in_ok-seller.seller, c.args.from, c.in_ok-part.part)) c.self.inside.keys.keys)
    ≡ not (list_any (same_key (key_in (with_names_of c.args.self.now (row_of c.args.row.now)) (row_of c.args.row.now) c.args.from)) c.args.self.now.keys) = search rules in
    c.in_ok-insert.ensures.added ∙ (ap not (key_there c.self.inside.keys.keys (c.in_ok-seller.seller, c.args.from, c.in_ok-part.part)) ∙ same)
