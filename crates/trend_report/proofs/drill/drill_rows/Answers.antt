use Rattle.std.proofs.Common.{◌≡◌, ◌∙◌, ap, arith}
use Rattle.std.proofs.lemmas.List.Elements.{All-push, All-same}
use Rattle.trend_num.specs.{InRange}
use Rattle.trend_report.specs.{drill_points}
use Rattle.trend_report.proofs.Drilling.{next_signal, one_event_more}
use Rattle.trend_report.proofs.drill.drill_rows.Goals as goal

pub loop-place-preserved : goal.loop-place-preserved
loop-place-preserved c =
    let before = c.loop-place.invariant in
    let pushed = c.in_ok-push.ensures.items in
    let place = c.loop-place.place in
    record {
      rows = one_event_more c.args.number c.args.tag place _ _ _ _ before.rows before.signal c.event.ensures.event pushed;
      signal = next_signal c.args.number c.args.tag place _ _ before.signal c.event.ensures.signal;
      near = c.event.ensures.near;
      in_range = All-same InRange _ _ pushed (All-push InRange _ _ before.in_range c.event.ensures.in_range);
    }

pub returns-clause-points : goal.returns-clause-points
returns-clause-points c =
    let done : c.loop-place.place ≡ c.args.events = omega arith in
    c.loop-place.invariant.rows ∙ ap (drill_points c.args.number c.args.tag) done
