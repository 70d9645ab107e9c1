use Rattle.std.proofs.Common.{ℕ, sym, subst}
use Rattle.trend_num.specs.declared.refusal.What.TheVariants.{Records}
use Rattle.plant_status.specs.declared.status.Status.TheVariants.{Limit}
use Rattle.pack_command.specs.{IsPackRefusal, origin_of, IsAllRead}
use Rattle.pack_command.proofs.Ending.{ends_printed, ends_full, ends_refused}
use Rattle.pack_command.proofs.packer.pack.Goals as goal

pub returns-in-Taken-clause-printed : goal.returns-in-Taken-clause-printed
returns-in-Taken-clause-printed g c =
    let before = g.I.Source.meaning c.args.input.now in
    let now = g.I.Source.meaning c.read_input.new.input in
    let intake = c.in_ok-intake.intake in
    ends_printed c.args.tuning before now intake.core intake.rows c.of.result
    (subst (IsAllRead (origin_of c.args.tuning) before now intake.core intake.rows) c.in-Taken.is c.in_ok-intake.ensures.read) c.of.ensures

pub returns-in-Full-clause-refused : goal.returns-in-Full-clause-refused
returns-in-Full-clause-refused g c =
    let before = g.I.Source.meaning c.args.input.now in
    let now = g.I.Source.meaning c.read_input.new.input in
    let intake = c.in_ok-intake.intake in
    subst (λ (n : ℕ). IsPackRefusal c.args.tuning before now (Limit Records n)) (sym c.from.ensures)
    (ends_full c.args.tuning before now intake.core intake.rows c.in-Full.records
    (subst (IsAllRead (origin_of c.args.tuning) before now intake.core intake.rows) c.in-Full.is c.in_ok-intake.ensures.read))

pub returns-in-Refused-clause-refused : goal.returns-in-Refused-clause-refused
returns-in-Refused-clause-refused g c =
    let before = g.I.Source.meaning c.args.input.now in
    let now = g.I.Source.meaning c.read_input.new.input in
    let intake = c.in_ok-intake.intake in
    subst (IsPackRefusal c.args.tuning before now) (sym c.status_of_rows.ensures)
    (ends_refused c.args.tuning before now intake.core intake.rows c.in-Refused.why
    (subst (IsAllRead (origin_of c.args.tuning) before now intake.core intake.rows) c.in-Refused.is c.in_ok-intake.ensures.read))
