use Rattle.pack_command.proofs.packer.pack.Given as goal

-- the ledger is that of the blank
abbrev pub ghosts-read_input : goal.ghosts-read_input
ghosts-read_input g a = record { name = a.blank.name; parts = a.blank.parts }
