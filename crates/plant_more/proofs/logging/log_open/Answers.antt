use Rattle.std.proofs.Common.{length}
use Rattle.branded_disk.specs.{branded}
use Rattle.commit_log.specs.{log_name}
use Rattle.plant_more.specs.{row_lists_of}
use Rattle.plant_more.proofs.LogBranded.{began_at, unbranded}
use Rattle.plant_more.proofs.LogRuns.{is_run, rows_known}
use Rattle.plant_more.proofs.logging.log_open.Goals as goal

pub reported-requires-clause-rows : goal.reported-requires-clause-rows
reported-requires-clause-rows g c =
    rows_known (branded g.S.Dev.Disk.device g.K.Begun.before) _ c.in-Ok.field-0 c.args.known.now (length c.args.base.now.tags.items) _ _ c.in-Ok.ensures.ended c.requires.tags

pub returns-in-Ok-clause-run : goal.returns-in-Ok-clause-run
returns-in-Ok-clause-run g c old others begun was =
    is_run g.S.Dev.Disk.device c.args.base.now (row_lists_of c.args.rows.now) c.args.known.now c.args.log c.in-Ok.field-0 old
    (g.S.Store.device_at c.args.store.now) (g.S.Store.device_at c.give_back.new.store) (g.S.Store.fault_count c.args.store.now)
    (g.S.Store.fault_count c.give_back.new.store) _ _ _
    (unbranded g.S.Dev.Disk.device g.K.Begun.before _ _ _ _ c.in-Ok.field-0 c.in-Ok.ensures.ended) was c.requires.kept c.requires.plant c.requires.tags others
    c.give_back.ensures.others (c.give_back.ensures.told c.in-Ok.ensures.named) c.give_back.ensures.counted c.reported.ensures
    (began_at g.S.Dev.Disk.device g.K.Begun.before c.in-Ok.field-0.dev log_name _ _ _ _ (old log_name) c.in-Ok.ensures.named
    c.give_back.ensures.named begun c.in-Ok.ensures.since)
