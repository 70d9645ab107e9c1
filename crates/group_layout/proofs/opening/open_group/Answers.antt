use Rattle.std.proofs.Common.{arith, subst}
use Rattle.std.proofs.lemmas.Result.{err_from_is_err_and}
use Rattle.disk_model.specs.{During, seen}
use Rattle.group_layout.specs.{IsGroupDamage, StandsFor, IsLeftOrSame, SavesNothing, StandsSame, block_lists_of}
use Rattle.archive_file.proofs.FieldLaws.{told_through}
use Rattle.archive_file.proofs.ReadImages.{during_same, left_synced, shown_before}
use Rattle.group_layout.proofs.Openings.{found_unsaved, gains_nothing, gains_sync, left_begun, read_of, read_stands, saved_is, unsaved_stands}
use Rattle.archive_file.proofs.Beginnings.{opens_begun, opens_kept}
use Rattle.group_layout.proofs.opening.open_group.Goals as goal

pub returns-in_default-clause-any_moment : goal.returns-in_default-clause-any_moment
returns-in_default-clause-any_moment g c =
    left_synced (StandsSame c.args.text.now c.args.inputs c.args.calcs (seen (g.D.Disk.device c.args.dev.now).trace))
    c.sync.result _ _ c.sync.ensures.noted

pub returns-in_err-saved-clause-any_moment : goal.returns-in_err-saved-clause-any_moment
returns-in_err-saved-clause-any_moment g c =
    during_same _ _ _ (IsLeftOrSame c.args.text.now c.args.inputs c.args.calcs (g.D.Disk.device c.args.dev.now).trace) c.read_group.ensures.same
    (left_synced (StandsSame c.args.text.now c.args.inputs c.args.calcs (seen (g.D.Disk.device c.args.dev.now).trace))
    c.sync.result _ _ c.sync.ensures.noted)

pub returns-in_err-saved-clause-damaged : goal.returns-in_err-saved-clause-damaged
returns-in_err-saved-clause-damaged g c = λ a byte told.
    let out = err_from_is_err_and c.from_residual.result c.from_residual.ensures.1 in
    shown_before _ _ (λ x. IsGroupDamage c.args.text.now c.args.inputs c.args.calcs x a byte) c.in-Ok.ensures.noted
    (c.in_err-saved.ensures.damaged a byte (told_through c.from_residual.result out.0 _ a byte out.1 out.2 told))

pub returns-in-Saved-clause-stood : goal.returns-in-Saved-clause-stood
returns-in-Saved-clause-stood g c =
    let x = c.args in
    let saved = c.in-Saved.saved in
    let mid = (g.D.Disk.device c.sync.new.self).trace in
    shown_before _ mid (λ l. StandsFor x.text.now x.inputs x.calcs l saved.versions.items (block_lists_of saved.rows.items)) c.in-Ok.ensures.noted
    (read_stands x.text.now x.inputs x.calcs mid c.in_ok-saved.field-0 saved c.in-Saved.is c.in_ok-saved.ensures.found)

pub returns-in-Saved-clause-any_moment : goal.returns-in-Saved-clause-any_moment
returns-in-Saved-clause-any_moment g c =
    during_same _ _ _ (IsLeftOrSame c.args.text.now c.args.inputs c.args.calcs (g.D.Disk.device c.args.dev.now).trace) c.read_group.ensures.same
    (left_synced (StandsSame c.args.text.now c.args.inputs c.args.calcs (seen (g.D.Disk.device c.args.dev.now).trace))
    c.sync.result _ _ c.sync.ensures.noted)

pub returns-clause-stood : goal.returns-clause-stood
returns-clause-stood g c = grind (arith, unsaved_stands, shown_before, found_unsaved)

pub returns-clause-any_moment : goal.returns-clause-any_moment
returns-clause-any_moment g c =
    let x = c.args in
    let mid = (g.D.Disk.device c.sync.new.self).trace in
    left_begun x.text.now x.inputs x.calcs _ mid _ c.in-Ok.ensures.noted
    (found_unsaved x.text.now x.inputs x.calcs mid c.in_ok-saved.field-0 c.in-New.is c.in_ok-saved.ensures.found)
    (left_synced (StandsSame x.text.now x.inputs x.calcs (seen (g.D.Disk.device x.dev.now).trace)) c.sync.result _ _ c.sync.ensures.noted)
    (subst (λ o. During o (g.D.Disk.device c.begin.new.dev).trace (SavesNothing x.text.now)) c.read_group.ensures.same c.begin.ensures.any_moment)

pub returns-in_err-saved-clause-synced : goal.returns-in_err-saved-clause-synced
returns-in_err-saved-clause-synced g c = grind (arith, gains_sync)

pub returns-in-Saved-clause-synced : goal.returns-in-Saved-clause-synced
returns-in-Saved-clause-synced g c = grind (arith, gains_sync)

pub returns-clause-synced : goal.returns-clause-synced
returns-clause-synced g c = grind (arith, gains_nothing, shown_before, found_unsaved)

pub returns-in-Saved-clause-moment : goal.returns-in-Saved-clause-moment
returns-in-Saved-clause-moment g c = grind (arith, opens_kept, read_of, saved_is)

pub returns-clause-moment : goal.returns-clause-moment
returns-clause-moment g c = grind (arith, opens_begun, shown_before, found_unsaved)
