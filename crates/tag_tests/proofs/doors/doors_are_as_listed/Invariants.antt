use Rattle.tag_tests.proofs.doors.doors_are_as_listed.Given as goal

abbrev pub ghosts-walked : goal.ghosts-walked
ghosts-walked g a = record { name = a.blank.name; parts = a.blank.parts }
