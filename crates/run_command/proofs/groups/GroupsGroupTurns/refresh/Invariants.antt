use Rattle.run_command.proofs.groups.GroupsGroupTurns.refresh.Given as goal

-- the ledger is that of the blank
abbrev pub ghosts-refresh_on : goal.ghosts-refresh_on
ghosts-refresh_on g a = record { name = a.blank.name; parts = a.blank.parts }
