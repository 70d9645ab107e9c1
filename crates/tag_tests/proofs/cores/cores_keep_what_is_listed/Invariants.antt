use Rattle.tag_tests.proofs.cores.cores_keep_what_is_listed.Given as goal

-- the ledger is that of the blank
abbrev pub ghosts-all_told : goal.ghosts-all_told
ghosts-all_told g a = record { name = a.blank.name; parts = a.blank.parts }
