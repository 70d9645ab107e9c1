use Rattle.text_tests.proofs.calculations.value_in.Given as goal

abbrev pub ghosts-last_value : goal.ghosts-last_value
ghosts-last_value g a = record { name = a.blank.name; parts = a.blank.parts }
