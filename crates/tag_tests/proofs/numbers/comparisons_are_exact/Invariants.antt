use Rattle.tag_tests.proofs.numbers.comparisons_are_exact.Given as goal

abbrev pub ghosts-compared : goal.ghosts-compared
ghosts-compared g a = record { name = a.blank.name; parts = a.blank.parts }
