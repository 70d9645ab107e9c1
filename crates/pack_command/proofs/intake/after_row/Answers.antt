use Rattle.std.proofs.Common.{refl, sym, ◌∙◌, subst}
use Rattle.std.proofs.lemmas.Bool.{false≢true}
use Rattle.pack_command.specs.{HasCome}
use Rattle.pack_command.specs.declared.intake.Standing.TheVariants.{Taken, Full}
use Rattle.pack_command.proofs.Coming.{row_taken, row_full, row_after_full, row_refused}
use Rattle.pack_command.proofs.intake.after_row.Goals as goal

pub returns-in-Ok-take-clause-come : goal.returns-in-Ok-take-clause-come
returns-in-Ok-take-clause-come g c = λ further o bytes rest after come next.
    let was : HasCome further o bytes rest c.args.core.now c.args.rows Taken =
    subst (HasCome further o bytes rest c.args.core.now c.args.rows) c.in-Taken.is come in
    let taken = c.in-Ok-take.ensures in
    row_taken further o bytes rest after c.args.core.now c.take.new.self c.args.rows c.args.read c.in-Ok.p was next c.requires.ready.few
    (sym c.point_of_row.ensures ∙ c.in-Ok.is) taken.one.step (λ h kind stands. taken.stands o h kind stands)
    (λ full. absurd (false≢true (taken.one.full.1 full)))

pub returns-in-Err-take-clause-come : goal.returns-in-Err-take-clause-come
returns-in-Err-take-clause-come g c = λ further o bytes rest after come next.
    let was : HasCome further o bytes rest c.args.core.now c.args.rows Taken =
    subst (HasCome further o bytes rest c.args.core.now c.args.rows) c.in-Taken.is come in
    row_full further o bytes rest after c.args.core.now c.take.new.self c.args.rows c.args.read c.in-Ok.p c.in-Err-take.full.records was next
    c.requires.ready.few (sym c.point_of_row.ensures ∙ c.in-Ok.is) (c.in-Err-take.ensures.one.full.0 refl) c.in-Err-take.ensures.one.full_records

pub returns-in-Err-clause-come : goal.returns-in-Err-clause-come
returns-in-Err-clause-come g c = λ further o bytes rest after come next.
    let was : HasCome further o bytes rest c.args.core.now c.args.rows Taken =
    subst (HasCome further o bytes rest c.args.core.now c.args.rows) c.in-Taken.is come in
    row_refused further bytes rest after was.0 c.args.rows c.args.read c.in-Err.why was.1 next was.2 c.requires.ready.few
    (sym c.point_of_row.ensures ∙ c.in-Err.is)

pub returns-in-Ok-point_of_row-clause-come : goal.returns-in-Ok-point_of_row-clause-come
returns-in-Ok-point_of_row-clause-come g c = λ further o bytes rest after come next.
    let was : HasCome further o bytes rest c.args.core.now c.args.rows (Full c.in-Full.records) =
    subst (HasCome further o bytes rest c.args.core.now c.args.rows) c.in-Full.is come in
    row_after_full further o bytes rest after c.args.core.now c.args.core.now c.args.rows c.args.read c.in-Ok-point_of_row.field-0 c.in-Full.records was
    next c.requires.ready.few (sym c.point_of_row-in-Full.ensures ∙ c.in-Ok-point_of_row.is)

pub returns-in-Err-point_of_row-clause-come : goal.returns-in-Err-point_of_row-clause-come
returns-in-Err-point_of_row-clause-come g c = λ further o bytes rest after come next.
    let was : HasCome further o bytes rest c.args.core.now c.args.rows (Full c.in-Full.records) =
    subst (HasCome further o bytes rest c.args.core.now c.args.rows) c.in-Full.is come in
    row_refused further bytes rest after was.0 c.args.rows c.args.read c.in-Err-point_of_row.why was.1 next was.2 c.requires.ready.few
    (sym c.point_of_row-in-Full.ensures ∙ c.in-Err-point_of_row.is)
