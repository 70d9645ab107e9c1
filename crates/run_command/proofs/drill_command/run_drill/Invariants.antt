use Rattle.disk_model.specs.{trace_at}
use Rattle.branded_disk.specs.{told_of}
use Rattle.run_command.proofs.drill_command.run_drill.Given as goal

-- what the devices were is what the store has now
abbrev pub ghosts-hold_in : goal.ghosts-hold_in
ghosts-hold_in g a = record { before = told_of (trace_at a.store.now.devices) }
