use Rattle.std.proofs.Common.{ap, ◌∙◌}
use Rattle.std.specs.Prelude.{is_some}
use Rattle.offer_reader.proofs.KnownNames.{known}
use Rattle.offer_reader.proofs.book.has_name.Goals as goal

pub returns : goal.returns
returns c = c.is_some.ensures ∙ ap is_some c.number.ensures ∙ known c.args.names.now c.args.name.now
