use Rattle.std.proofs.Common.{◌<◌, [], map, arith}
use Rattle.std.proofs.lemmas.Result.{err_from_is_err_and}
use Rattle.group_layout.specs.{last_of, parts_of, unsaved}
use Rattle.group_layout.proofs.Beginnings.{nothing_yet}
use Rattle.archive_file.proofs.FieldLaws.{told_through}
use Rattle.group_layout.proofs.Openings.{no_rows, none_shape}
use Rattle.group_layout.proofs.opening.begin.Goals as goal

pub returns-in_err-saved-clause-any_moment : goal.returns-in_err-saved-clause-any_moment
returns-in_err-saved-clause-any_moment g c =
    nothing_yet c.args.text.now _ c.requires.unsaved c.requires.settled

pub returns-in_err-saved-clause-undamaged : goal.returns-in_err-saved-clause-undamaged
returns-in_err-saved-clause-undamaged g c = λ a byte told.
    let out = err_from_is_err_and c.from_residual.result c.from_residual.ensures.1 in
    let missing = c.in_err-saved.ensures.damaged a byte (told_through c.from_residual.result out.0 _ a byte out.1 out.2 told) in
    let none : missing.window < (last_of (unsaved c.args.inputs) (map parts_of [])).windows
    = grind arith in
    absurd (omega (arith, none))

pub returns-in-Ok-clause-rows : goal.returns-in-Ok-clause-rows
returns-in-Ok-clause-rows g c = grind (arith, no_rows)

pub returns-in-Ok-clause-shape : goal.returns-in-Ok-clause-shape
returns-in-Ok-clause-shape g c = grind (arith, none_shape)
