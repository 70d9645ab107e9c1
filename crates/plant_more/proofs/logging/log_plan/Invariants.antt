use Rattle.branded_disk.specs.{told_of}
use Rattle.plant_more.proofs.logging.log_plan.Given as goal

-- what the devices were is what the store has now
abbrev pub ghosts-log_read : goal.ghosts-log_read
ghosts-log_read g a = record { before = told_of (g.S.Store.device_at a.store.now) }
