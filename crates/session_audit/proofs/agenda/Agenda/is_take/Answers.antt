use Rattle.std.proofs.Common.{◌≡◌, ◌↔◌, ◌∙◌, IsTrue, Some, ap, arith, get_or, refl, subst}
use Rattle.plant_status.specs.declared.mismatch.Seen.TheVariants.{Take}
use Rattle.session_audit.specs.Agendas.{take_item}
use Rattle.session_audit.proofs.Leaving.{left, never, no_take}
use Rattle.session_audit.proofs.Numbers.{take_there, takes_length}
use Rattle.session_audit.proofs.agenda.Agenda.is_take.Goals as goal

pub returns-in-Takes : goal.returns-in-Takes
returns-in-Takes c =
    let a = c.args.self.now in
    let rows = c.in-Takes.rows in
    let earlier = c.in-Takes.earlier in
    let here = take_there a rows earlier c.args.place _ c.in-Takes.is (omega (arith, c.requires.within, takes_length a rows earlier c.in-Takes.is)) in
    subst (λ o. IsTrue c.takes.result ↔ (o ≡ Some (Take c.args.collector c.args.row c.args.point)))
    (ap left (ap (λ n. take_item a.worker n (get_or rows.now c.args.place _)) c.number_in-number.ensures ∙ here)) c.takes.ensures

pub returns-in_default : goal.returns-in_default
returns-in_default c =
    never _ _ refl (no_take c.args.self.now.worker c.args.place c.args.collector c.args.row c.args.point c.args.self.now.rows c.in_default.not-Takes)
