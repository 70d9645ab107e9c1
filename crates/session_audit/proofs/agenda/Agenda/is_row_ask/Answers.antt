use Rattle.std.proofs.Common.{◌≡◌, ◌↔◌, IsTrue, Some, ap, arith, refl, subst}
use Rattle.plant_status.specs.declared.mismatch.Seen.TheVariants.{Row}
use Rattle.session_audit.proofs.Leaving.{left, never, no_row_ask}
use Rattle.session_audit.proofs.Numbers.{row_ask_there, row_asks_length}
use Rattle.session_audit.proofs.agenda.Agenda.is_row_ask.Goals as goal

pub returns-in-RowAsks : goal.returns-in-RowAsks
returns-in-RowAsks c =
    let a = c.args.self.now in
    let queries = c.in-RowAsks.queries in
    let here = row_ask_there a queries c.args.place _ c.in-RowAsks.is (omega (arith, c.requires.within, row_asks_length a queries c.in-RowAsks.is)) in
    subst (λ o. IsTrue c.asks_row.result ↔ (o ≡ Some (Row c.args.reader c.args.row c.args.calc c.args.k))) (ap left here) c.asks_row.ensures

pub returns-in_default : goal.returns-in_default
returns-in_default c =
    never _ _ refl (no_row_ask c.args.self.now.worker c.args.place c.args.reader c.args.row c.args.calc c.args.k c.args.self.now.rows
    c.in_default.not-RowAsks)
