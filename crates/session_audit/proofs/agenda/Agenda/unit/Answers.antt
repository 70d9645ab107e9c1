use Rattle.std.proofs.Common.{◌+◌, ◌∙◌, ap, arith}
use Rattle.std.specs.Option.{option_map}
use Rattle.session_audit.specs.{Item}
use Rattle.session_audit.proofs.Numbers.{ask_there, asks_length, row_ask_there, row_asks_length, take_there, takes_length}
use Rattle.session_audit.proofs.agenda.Agenda.unit.Goals as goal

pub returns-in-Takes : goal.returns-in-Takes
returns-in-Takes c =
    let a = c.args.self.now in
    let rows = c.in-Takes.rows in
    let earlier = c.in-Takes.field-1 in
    ap (option_map (λ (i : Item). i.unit)) (take_there a rows earlier c.args.place _ c.in-Takes.is
    (omega (arith, c.requires.within, takes_length a rows earlier c.in-Takes.is)))

pub returns-in-Asks : goal.returns-in-Asks
returns-in-Asks c =
    let a = c.args.self.now in
    let queries = c.in-Asks.queries in
    c.ask_unit.ensures a.worker (c.args.place + 1)
    ∙ ap (option_map (λ (i : Item). i.unit)) (ask_there a queries c.args.place _ c.in-Asks.is
    (omega (arith, c.requires.within, asks_length a queries c.in-Asks.is)))

pub returns-in-RowAsks : goal.returns-in-RowAsks
returns-in-RowAsks c =
    let a = c.args.self.now in
    let queries = c.in-RowAsks.queries in
    c.row_unit.ensures a.worker (c.args.place + 1)
    ∙ ap (option_map (λ (i : Item). i.unit)) (row_ask_there a queries c.args.place _ c.in-RowAsks.is
    (omega (arith, c.requires.within, row_asks_length a queries c.in-RowAsks.is)))
