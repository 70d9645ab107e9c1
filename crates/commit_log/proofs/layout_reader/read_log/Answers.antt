use Rattle.std.proofs.Common.{◌≡◌, ◌+◌, length, arith}
use Rattle.std.proofs.lemmas.Result.{err_from_is_err_and}
use Rattle.disk_model.specs.{Shows}
use Rattle.archive_file.specs.{IsOfText}
use Rattle.commit_log.specs.{letters}
use Rattle.commit_log.proofs.Opened.{block_damage, gate_reached, head_damage}
use Rattle.commit_log.proofs.Openings.{damage_read}
use Rattle.commit_log.proofs.Walks.{if_some}
use Rattle.commit_log.proofs.layout_reader.read_log.Given as given
use Rattle.commit_log.proofs.layout_reader.read_log.Goals as goal
use Rattle.commit_log.proofs.layout_reader.read_log.Goals.{After-len}

-- the text that was read
read : (g : given.Over) (c : After-len g) → Shows (g.D.Disk.device c.args.dev.now).trace (IsOfText letters c.in-Some.text.items)
read g c = grind (arith, if_some)

place : (g : given.Over) (c : After-len g) → 9 + c.len.result ≡ 9 + length c.in-Some.text.items
place g c = omega (arith, c.len.ensures)

pub returns-in_err-text-clause-damaged : goal.returns-in_err-text-clause-damaged
returns-in_err-text-clause-damaged g c = grind (arith, err_from_is_err_and, damage_read, head_damage)

pub read_blocks-requires : goal.read_blocks-requires
read_blocks-requires g c = grind (arith, gate_reached, place, read)

pub returns-in_err-stored-clause-damaged : goal.returns-in_err-stored-clause-damaged
returns-in_err-stored-clause-damaged g c = grind (arith, err_from_is_err_and, damage_read, block_damage, place, read)
