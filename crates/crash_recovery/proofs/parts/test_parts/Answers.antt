use Rattle.std.proofs.Common.{arith}
use Rattle.crash_recovery.proofs.PartsFound.{none_ok, parts_damaged}
use Rattle.crash_recovery.proofs.parts.test_parts.Goals as goal

pub returns-in_default-clause-parts : goal.returns-in_default-clause-parts
returns-in_default-clause-parts g c = none_ok _ _ _ _ (c.requires.none c.in_default.is)

pub returns-clause-cause : goal.returns-clause-cause
returns-clause-cause g c def slots same_step found = rw (c.damaged.ensures, c.place-2.ensures)
    (parts_damaged def (g.D.Disk.device c.args.dev.now).trace slots _ c.args.stored.now c.in-Some.slot c.args.step _ same_step c.place.ensures c.in-Some.is
    (λ ok. grind arith) c.in_ok-first.ensures.len c.in_ok-first.ensures.bytes found)
