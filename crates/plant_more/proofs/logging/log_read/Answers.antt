use Rattle.std.proofs.Common.{◌∙◌, ℕ, List, Result, String, Vec, ap, length, refl, subst, sym}
use Rattle.std.specs.Prelude.{IfErr, IfSome}
use Rattle.std.specs.declared.alloc.Global.{Global}
use Rattle.plant_status.specs.declared.status.Status.{Status}
use Rattle.value_rows.specs.{RawRow}
use Rattle.branded_disk.proofs.Pasts.{unused}
use Rattle.plant_more.specs.{row_lists_of, total_rows, plant_text}
use Rattle.plant_more.specs.LogHeadline.{IsRun, IsUnopened}
use Rattle.commit_log.specs.{log_name}
use Rattle.plant_more.proofs.LogKept.{gains_none, kept_ready, opened_for, synced_ready, unready_for, untouched}
use Rattle.plant_more.proofs.logging.log_read.Goals as goal

pub returns-in-Err-clause-unopened : goal.returns-in-Err-clause-unopened
returns-in-Err-clause-unopened g c = λ none.
    let old = g.S.Store.device_at c.args.store.now in
    let faults = g.S.Store.fault_count c.args.store.now in
    let base = c.args.read.now.base in
    let total = total_rows (row_lists_of c.args.read.now.rows.items) in
    subst (λ (r : Result (String Global) Status). IfErr r (IsUnopened base total old old faults faults)) (sym c.refused.ensures.answer)
    (unready_for base total old old faults faults (untouched _ _ old old (λ n. refl)) (gains_none (old log_name) (old log_name) refl))

pub returns-in-Err-known_of-clause-unopened : goal.returns-in-Err-known_of-clause-unopened
returns-in-Err-known_of-clause-unopened g c = λ none.
    let old = g.S.Store.device_at c.args.store.now in
    let mid = g.S.Store.device_at c.take_log.new.store in
    let new = g.S.Store.device_at c.unready.new.store in
    let before = g.S.Store.fault_count c.args.store.now in
    let now = g.S.Store.fault_count c.unready.new.store in
    let base = c.args.read.now.base in
    let total = total_rows (row_lists_of c.args.read.now.rows.items) in
    let opened = opened_for g.S.Dev.Disk.device _ _ _ _ _ _ (old log_name) c.in-Ok-take_log.log
    (c.deref-2.ensures.value ∙ c.in-Ok.ensures.text) c.in-Ok.ensures.tags (c.in-Ok.ensures.room ∙ ap (λ (l : List (Vec RawRow Global)). total_rows (row_lists_of l)) c.deref.ensures.value)
    c.in-Ok-take_log.ensures.opened in
    subst (λ (r : Result (String Global) Status). IfErr r (IsUnopened base total old new before now)) (sym c.unready.ensures.answer)
    (unready_for base total old new before now
    (kept_ready g.S.Dev.Disk.device (plant_text base.tags.items) (length base.tags.items) total old mid new
    (g.S.Store.fault_count c.take_log.new.store) now c.in-Ok-take_log.log opened
    c.in-Ok-take_log.ensures.others c.unready.ensures.back)
    (synced_ready g.S.Dev.Disk.device (plant_text base.tags.items) (length base.tags.items) total old mid new
    (g.S.Store.fault_count c.take_log.new.store) now c.in-Ok-take_log.log opened c.unready.ensures.back))

pub returns-in-Ok-known_of-clause-unopened : goal.returns-in-Ok-known_of-clause-unopened
returns-in-Ok-known_of-clause-unopened g c = λ none.
    let old = g.S.Store.device_at c.args.store.now in
    let mid = g.S.Store.device_at c.take_log.new.store in
    let new = g.S.Store.device_at c.log_open.new.store in
    let before = g.S.Store.fault_count c.args.store.now in
    let now = g.S.Store.fault_count c.log_open.new.store in
    let base = c.args.read.now.base in
    let total = total_rows (row_lists_of c.args.read.now.rows.items) in
    let opened = opened_for g.S.Dev.Disk.device _ _ _ _ _ _ (old log_name) c.in-Ok-take_log.log
    (c.deref-2.ensures.value ∙ c.in-Ok.ensures.text) c.in-Ok.ensures.tags (c.in-Ok.ensures.room ∙ ap (λ (l : List (Vec RawRow Global)). total_rows (row_lists_of l)) c.deref.ensures.value)
    c.in-Ok-take_log.ensures.opened in
    subst (λ (r : Result (String Global) Status). IfErr r (IsUnopened base total old new before now)) (sym (c.log_open.ensures.answer none))
    (unready_for base total old new before now
    (kept_ready g.S.Dev.Disk.device (plant_text base.tags.items) (length base.tags.items) total old mid new
    (g.S.Store.fault_count c.take_log.new.store) now c.in-Ok-take_log.log opened
    c.in-Ok-take_log.ensures.others (c.log_open.ensures.back none))
    (synced_ready g.S.Dev.Disk.device (plant_text base.tags.items) (length base.tags.items) total old mid new
    (g.S.Store.fault_count c.take_log.new.store) now c.in-Ok-take_log.log opened (c.log_open.ensures.back none)))

pub returns-in-Ok-known_of-clause-run : goal.returns-in-Ok-known_of-clause-run
returns-in-Ok-known_of-clause-run g c =
    let device = g.S.Dev.Disk.device in
    let old = g.S.Store.device_at c.args.store.now in
    let base = c.args.read.now.base in
    let total = λ (l : List (Vec RawRow Global)). total_rows (row_lists_of l) in
    subst (λ (rows : List (Vec RawRow Global)). IfSome c.log_open.result.log (IsRun device base (row_lists_of rows)
    old (g.S.Store.device_at c.log_open.new.store) (g.S.Store.fault_count c.args.store.now) (g.S.Store.fault_count c.log_open.new.store)
    (g.P.Passes.stops c.args.passes.now) (g.P.Passes.stops c.log_open.new.passes) c.log_open.result.answer))
    c.deref-in-Ok-known_of.ensures.value
    (subst (λ (n : ℕ). IfSome c.log_open.result.log (IsRun device base (row_lists_of c.deref-in-Ok-known_of.result.now)
    old (g.S.Store.device_at c.log_open.new.store) n (g.S.Store.fault_count c.log_open.new.store)
    (g.P.Passes.stops c.args.passes.now) (g.P.Passes.stops c.log_open.new.passes) c.log_open.result.answer))
    c.in-Ok-take_log.ensures.faultless
    (c.log_open.ensures.run old c.in-Ok-take_log.ensures.others (c.requires.begun log_name)
    (opened_for device _ _ _ _ _ _ (old log_name) c.in-Ok-take_log.log
    (c.deref-2.ensures.value ∙ c.in-Ok.ensures.text) c.in-Ok.ensures.tags
    (c.in-Ok.ensures.room ∙ (ap total c.deref.ensures.value ∙ sym (ap total c.deref-in-Ok-known_of.ensures.value))) c.in-Ok-take_log.ensures.opened)))

pub take_log-requires-clause-unused : goal.take_log-requires-clause-unused
take_log-requires-clause-unused g c κs within = unused g.K.Begun.before (g.S.Store.device_at c.args.store.now) c.requires.begun log_name
