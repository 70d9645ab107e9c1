use Rattle.branded_disk.specs.{told_of}
use Rattle.run_command.proofs.run.run_read.Given as goal

-- what the devices were is what the store has now
abbrev pub ghosts-run_given : goal.ghosts-run_given
ghosts-run_given g a = record { before = told_of (g.S.Store.device_at a.store.now) }
