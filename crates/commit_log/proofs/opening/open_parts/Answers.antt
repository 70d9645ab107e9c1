use Rattle.std.proofs.Common.{[], List, Err, IfErr, refl, sym, arith, subst}
use Rattle.disk_model.specs.{Shows, During, seen}
use Rattle.archive_file.proofs.Beginnings.{not_new, opens_begun, opens_kept}
use Rattle.std.proofs.lemmas.Result.{err_from_is_err_and}
use Rattle.commit_log.specs.{LogRow, LogsNothing, StandsForRows, IsLogCause, IsLogLeftOrSame, IsLeftOrStands, StandsSame}
use Rattle.archive_file.proofs.ReadImages.{during_same, left_synced, shown_before}
use Rattle.commit_log.proofs.Opened.{begun_same, begun_stands, found_many, found_new, found_stands, found_stores}
use Rattle.commit_log.proofs.Openings.{ok_rows, on_err, on_ok, parts_cause, read_cause}
use Rattle.commit_log.proofs.opening.open_parts.Given as given
use Rattle.commit_log.proofs.opening.open_parts.Goals as goal
use Rattle.commit_log.proofs.opening.open_parts.Goals.{After-read_log}

-- what the reading leaves is what was there, or stands for the same
left_same : (g : given.Over) (c : After-read_log g)
    → let o = (g.D.Disk.device c.args.dev.now).trace in
    During o (g.D.Disk.device c.read_log.new.dev).trace (IsLogLeftOrSame c.args.plant.now c.args.tags o)
left_same g c =
    let o = (g.D.Disk.device c.args.dev.now).trace in
    let mid = (g.D.Disk.device c.sync.new.self).trace in
    during_same o mid (g.D.Disk.device c.read_log.new.dev).trace (IsLogLeftOrSame c.args.plant.now c.args.tags o) c.read_log.ensures.same
    (left_synced (StandsSame c.args.plant.now c.args.tags (seen o)) c.sync.result o mid c.sync.ensures.noted)

pub returns-in_default-clause-any_moment_refused : goal.returns-in_default-clause-any_moment_refused
returns-in_default-clause-any_moment_refused g c =
    left_synced (StandsSame c.args.plant.now c.args.tags (seen (g.D.Disk.device c.args.dev.now).trace)) c.sync.result _ _ c.sync.ensures.noted

pub returns-in_err-stored-clause-any_moment_refused : goal.returns-in_err-stored-clause-any_moment_refused
returns-in_err-stored-clause-any_moment_refused g c =
    on_err c.from_residual.result _ (left_same g (goal.at.returns-in_err-stored-clause-any_moment_refused g c).After-read_log)

pub returns-in_err-stored-clause-cause : goal.returns-in_err-stored-clause-cause
returns-in_err-stored-clause-cause g c =
    let x = c.args in
    let is_cause = IsLogCause x.plant.now x.tags x.room (g.D.Disk.device x.dev.now).trace in
    let out = err_from_is_err_and c.from_residual.result c.from_residual.ensures.1 in
    let read = c.in_err-stored.ensures in
    subst (λ r. IfErr r is_cause) (sym out.1) (subst is_cause (sym out.2)
    (read_cause x.plant.now x.tags x.room (g.D.Disk.device x.dev.now).trace (g.D.Disk.device c.sync.new.self).trace
    (Err c.in_err-stored.field-0.0) c.in_err-stored.field-0.0 refl c.in-Ok.ensures.noted
    read.damaged read.other read.not_many))

pub returns-in-Some-clause-stood : goal.returns-in-Some-clause-stood
returns-in-Some-clause-stood g c =
    let x = c.args in
    let o = (g.D.Disk.device x.dev.now).trace in
    let rows = c.in-Some.stored.rows.items in
    ok_rows c.parts_of.result rows (λ (l : List LogRow). Shows o (λ i. StandsForRows x.plant.now x.tags i l)) c.parts_of.ensures.rows
    (shown_before o (g.D.Disk.device c.sync.new.self).trace (λ i. StandsForRows x.plant.now x.tags i rows) c.in-Ok.ensures.noted
    (found_stands x.plant.now x.tags (g.D.Disk.device c.sync.new.self).trace c.in_ok-stored.field-0 c.in-Some.stored c.in-Some.is c.in_ok-stored.ensures.found))

pub returns-in-Some-clause-any_moment : goal.returns-in-Some-clause-any_moment
returns-in-Some-clause-any_moment g c =
    let x = c.args in
    let o = (g.D.Disk.device x.dev.now).trace in
    let new = (g.D.Disk.device c.read_log.new.dev).trace in
    let rows = c.in-Some.stored.rows.items in
    ok_rows c.parts_of.result rows (λ (l : List LogRow). During o new (IsLeftOrStands x.plant.now x.tags l o)) c.parts_of.ensures.rows
    (during_same o _ new (IsLeftOrStands x.plant.now x.tags rows o) c.read_log.ensures.same
    (left_synced (λ i. StandsForRows x.plant.now x.tags i rows) c.sync.result _ _ c.sync.ensures.noted))

pub returns-in-Some-clause-any_moment_refused : goal.returns-in-Some-clause-any_moment_refused
returns-in-Some-clause-any_moment_refused g c =
    on_err c.parts_of.result _ (left_same g (goal.at.returns-in-Some-clause-any_moment_refused g c).After-read_log)

pub returns-in-Some-clause-cause : goal.returns-in-Some-clause-cause
returns-in-Some-clause-cause g c = grind (arith, parts_cause, shown_before, found_many)

pub returns-in-None-clause-any_moment : goal.returns-in-None-clause-any_moment
returns-in-None-clause-any_moment g c =
    let x = c.args in
    let o = (g.D.Disk.device x.dev.now).trace in
    let new = (g.D.Disk.device c.begin.new.dev).trace in
    ok_rows c.begin.result [] (λ (l : List LogRow). During o new (IsLeftOrStands x.plant.now x.tags l o)) c.begin.ensures.rows
    (begun_stands x.plant.now x.tags [] o (g.D.Disk.device c.sync.new.self).trace new refl
    (left_synced (λ i. StandsForRows x.plant.now x.tags i []) c.sync.result _ _ c.sync.ensures.noted)
    (subst (λ t. During t new (LogsNothing x.plant.now)) c.read_log.ensures.same c.begin.ensures.any_moment))

pub returns-in-None-clause-any_moment_refused : goal.returns-in-None-clause-any_moment_refused
returns-in-None-clause-any_moment_refused g c =
    let x = c.args in
    let o = (g.D.Disk.device x.dev.now).trace in
    let new = (g.D.Disk.device c.begin.new.dev).trace in
    on_err c.begin.result _ (begun_same x.plant.now x.tags o (g.D.Disk.device c.sync.new.self).trace new c.in-Ok.ensures.noted
    (found_new x.plant.now x.tags (g.D.Disk.device c.sync.new.self).trace c.in_ok-stored.field-0 c.in-None.is c.in_ok-stored.ensures.found)
    (left_synced (StandsSame x.plant.now x.tags (seen o)) c.sync.result _ _ c.sync.ensures.noted)
    (subst (λ t. During t new (LogsNothing x.plant.now)) c.read_log.ensures.same c.begin.ensures.any_moment))

pub returns-in-Some-clause-moment : goal.returns-in-Some-clause-moment
returns-in-Some-clause-moment g c = grind (arith, on_ok, opens_kept, found_stores, not_new)

pub returns-in-None-clause-moment : goal.returns-in-None-clause-moment
returns-in-None-clause-moment g c = grind (arith, opens_begun, shown_before, found_new)

pub returns-in-None-clause-synced : goal.returns-in-None-clause-synced
returns-in-None-clause-synced g c = grind (arith, on_ok, shown_before, found_new)
