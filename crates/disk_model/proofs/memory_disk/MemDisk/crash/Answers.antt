use Rattle.std.proofs.Common.{arith}
use Rattle.disk_model.proofs.Logs.{picked_image}
use Rattle.disk_model.proofs.memory_disk.MemDisk.crash.Goals as goal

pub returns-clause-image : goal.returns-clause-image
returns-clause-image c = grind (arith, picked_image)
