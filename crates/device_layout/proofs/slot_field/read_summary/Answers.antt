use Rattle.std.proofs.Common.{All, arith, subst}
use Rattle.std.proofs.lemmas.Result.{err_from_is_err_and}
use Rattle.archive_file.specs.{BreaksFirst, Keeps}
use Rattle.archive_file.proofs.FieldLaws.{told_through}
use Rattle.archive_file.proofs.FirstFields.{broken_within}
use Rattle.device_layout.proofs.SlotWhole.{spells_one}
use Rattle.device_layout.proofs.slot_field.read_summary.Goals as goal

pub returns-in_err-check-clause-broken : goal.returns-in_err-check-clause-broken
returns-in_err-check-clause-broken c = λ a byte told.
    let out = err_from_is_err_and c.from_residual.result c.from_residual.ensures.1 in
    subst (λ fs. BreaksFirst c.args.b.now fs a byte) c.summary_fields.ensures
    (c.in_err-check.ensures.damaged a byte (told_through c.from_residual.result out.0 _ a byte out.1 out.2 told))

pub returns-in_err-check-clause-within : goal.returns-in_err-check-clause-within
returns-in_err-check-clause-within c = λ a byte told.
    let out = err_from_is_err_and c.from_residual.result c.from_residual.ensures.1 in
    omega (
      arith,
      broken_within c.args.b.now _ a byte
          (c.in_err-check.ensures.damaged a byte (told_through c.from_residual.result out.0 _ a byte out.1 out.2 told)),
      c.told-b,
    )

pub unreachable-requires : goal.unreachable-requires
unreachable-requires c =
    let kept = subst (All (Keeps c.args.b.now)) c.summary_fields.ensures c.in_ok-check.ensures.kept in
    let (s, fine, is) = spells_one c.args.b.now c.told-b c.fits-b kept in
    c.in_default.not-Some s ((c.summary_of.ensures s).1 (fine, is))
