use Rattle.tag_cell.proofs.cell.Cell.take.Given as goal

-- the ledger is that of the blank
abbrev pub ghosts-take_value : goal.ghosts-take_value
ghosts-take_value g a = record { name = a.blank.name; parts = a.blank.parts }
