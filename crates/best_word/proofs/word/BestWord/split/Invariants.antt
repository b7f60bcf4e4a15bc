use Rattle.best_word.proofs.word.BestWord.split.Given as goal

-- the new seat gets the parts that were asked for
abbrev pub ghosts-cut : goal.ghosts-cut
ghosts-cut a = record { parts = a._parts }
