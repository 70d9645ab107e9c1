use Rattle.std.proofs.Common.{◌≡◌, ◌↔◌, IsTrue, Some, ap, arith, refl, subst}
use Rattle.plant_status.specs.declared.mismatch.Seen.TheVariants.{Ask}
use Rattle.session_audit.proofs.Leaving.{left, never, no_ask}
use Rattle.session_audit.proofs.Numbers.{ask_there, asks_length}
use Rattle.session_audit.proofs.agenda.Agenda.is_ask.Goals as goal

pub returns-in-Asks : goal.returns-in-Asks
returns-in-Asks c =
    let a = c.args.self.now in
    let queries = c.in-Asks.queries in
    let here = ask_there a queries c.args.place _ c.in-Asks.is (omega (arith, c.requires.within, asks_length a queries c.in-Asks.is)) in
    subst (λ o. IsTrue c.asks.result ↔ (o ≡ Some (Ask c.args.reader c.args.row c.args.query.now))) (ap left here) c.asks.ensures

pub returns-in_default : goal.returns-in_default
returns-in_default c =
    never _ _ refl (no_ask c.args.self.now.worker c.args.place c.args.reader c.args.row c.args.query.now c.args.self.now.rows c.in_default.not-Asks)
