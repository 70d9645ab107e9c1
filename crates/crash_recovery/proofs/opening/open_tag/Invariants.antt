use Rattle.crash_recovery.proofs.opening.open_tag.Given as goal

-- the ledger is that of the blank
abbrev pub ghosts-read_tag : goal.ghosts-read_tag
ghosts-read_tag g a = record { name = a.blank.name; parts = a.blank.parts }
