use Rattle.search_book.proofs.Dues.{due_falls}
use Rattle.search_book.proofs.laws.due_size_falls.Goals as goal

pub returns : goal.returns
returns c = due_falls
