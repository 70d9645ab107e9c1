use Rattle.disk_model.specs.{seen}
use Rattle.archive_file.proofs.head_reader.read_text.Given as goal

-- all bytes of the device
abbrev pub ghosts-read_whole : goal.ghosts-read_whole
ghosts-read_whole g a = record { rest = seen (g.D.Disk.device a.dev.now).trace }
