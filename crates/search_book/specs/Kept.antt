-- What a book keeps of its state and its counts.
use Rattle.std.specs.Prelude.{ℕ, ◌≡◌, ◌≢◌, ◌<◌, ◌≤◌, length}
use Rattle.search_book.specs.declared.node.Phase.TheVariants.{Open}
use Rattle.search_book.specs.Nodes.{phase_of}
use Rattle.search_book.specs.BookState.{BookState}
use Rattle.search_book.specs.Counts.{open_count, taken_count}
use Rattle.search_book.specs.Covered.{IsCovered}

-- the state is covered, the counts are those of its Open and Taken nodes, and no node below `first_open` is Open
pub record IsKept (s : BookState) (open_nodes taken_nodes first_open : ℕ) : Type 0 where
  pub covered : IsCovered s
  pub open_is : open_nodes ≡ open_count s
  pub taken_is : taken_nodes ≡ taken_count s
  pub within : first_open ≤ length s.nodes
  pub none_below : (n : ℕ) → n < first_open → phase_of s.nodes n ≢ Open
