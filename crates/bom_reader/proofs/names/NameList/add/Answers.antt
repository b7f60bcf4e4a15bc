use Rattle.std.proofs.Common.{sym}
use Rattle.bom_reader.proofs.NameFacts.{with_name-known}
use Rattle.bom_reader.proofs.names.NameList.add.Goals as goal

pub returns-in-Some-clause-names : goal.returns-in-Some-clause-names
returns-in-Some-clause-names c = sym (with_name-known c.args.self.now c.args.name.now c.in-Some.n (sym c.in-Some.ensures))
