use Rattle.group_tests.proofs.sheets.tell.Given as goal

-- the ledger is that of the blank
abbrev pub ghosts-tell_on : goal.ghosts-tell_on
ghosts-tell_on a = record { name = a.blank.name; parts = a.blank.parts }
