use Rattle.search_book.proofs.book.Book.+area.Given as goal

-- the node above has a smaller number
abbrev pub decreases-area : goal.decreases-area
decreases-area l = l.n
