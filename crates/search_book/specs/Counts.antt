-- Counts of the nodes of a book, and sums over them.
use Rattle.std.specs.Prelude.{ℕ, ◌-◌, ◌*◌, ◌+◌, ◌≡◌, ◌<◌, ◌==◌, if◌then◌else◌, Bool, true, false, List, sum_by, count_by}
use Rattle.interval_box.specs.Size.{size}
use Rattle.search_book.specs.declared.node.Node.{Node}
use Rattle.search_book.specs.declared.node.Phase.{Phase}
use Rattle.search_book.specs.declared.node.Phase.TheVariants.{Open, Taken, Split, Closed}
use Rattle.search_book.specs.BookState.{BookState}
use Rattle.search_book.specs.Events.{Event, take_node, improve, close_node, split_node, give_back, release}

abbrev pub is_open : Phase → Bool
is_open Open = true
is_open Taken = false
is_open (Split low high i at) = false
is_open (Closed leaf) = false

abbrev pub is_taken : Phase → Bool
is_taken Open = false
is_taken Taken = true
is_taken (Split low high i at) = false
is_taken (Closed leaf) = false

abbrev pub is_split : Phase → Bool
is_split Open = false
is_split Taken = false
is_split (Split low high i at) = true
is_split (Closed leaf) = false

abbrev pub is_closed : Phase → Bool
is_closed Open = false
is_closed Taken = false
is_closed (Split low high i at) = false
is_closed (Closed leaf) = true

abbrev pub open_count : BookState → ℕ
open_count s = count_by (λ node. is_open node.phase) s.nodes

abbrev pub taken_count : BookState → ℕ
taken_count s = count_by (λ node. is_taken node.phase) s.nodes

abbrev pub split_count : BookState → ℕ
split_count s = count_by (λ node. is_split node.phase) s.nodes

abbrev pub closed_count : BookState → ℕ
closed_count s = count_by (λ node. is_closed node.phase) s.nodes

-- how often a node names node n as that of one of its halves
abbrev pub names : ℕ → Phase → ℕ
names n Open = 0
names n Taken = 0
names n (Split low high i at) = (if low == n then 1 else 0) + (if high == n then 1 else 0)
names n (Closed leaf) = 0

-- how often node n is named as that of a half
unfoldable pub naming_count : List Node → ℕ → ℕ
naming_count nodes n = sum_by (λ node. names n node.phase) nodes

-- a number of a node that is Open or Taken, and 0 of any other
abbrev pub if_waiting : Phase → ℕ → ℕ
if_waiting Open number = number
if_waiting Taken number = number
if_waiting (Split low high i at) number = 0
if_waiting (Closed leaf) number = 0

-- the size of the box less 1, over all nodes that are Open or Taken: half of how many nodes may still be added
unfoldable pub room : BookState → ℕ
room s = sum_by (λ node. if_waiting node.phase (size s.job node.area - 1)) s.nodes

-- twice the size of the box less 1, over all nodes that are Open or Taken: at most so many events may still close or
-- split a node
unfoldable pub due_size : BookState → ℕ
due_size s = sum_by (λ node. if_waiting node.phase (2 * size s.job node.area - 1)) s.nodes

-- what an event leaves of the size that is due: less where it closes a node, 1 less where it splits one, else as much
abbrev pub DueAfter : Event → ℕ → ℕ → Type 0
DueAfter (take_node n) before after = after ≡ before
DueAfter (improve plan amount) before after = after ≡ before
DueAfter (close_node n leaf) before after = after < before
DueAfter (split_node n i at keep_low) before after = after + 1 ≡ before
DueAfter (give_back n) before after = after ≡ before
DueAfter release before after = after ≡ before
