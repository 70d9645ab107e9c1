use Rattle.device_tests.proofs.recovery.put.Given as goal

-- the ledger is that of the blank
abbrev pub ghosts-keep : goal.ghosts-keep
ghosts-keep g a = record { name = a.blank.name; parts = a.blank.parts }
