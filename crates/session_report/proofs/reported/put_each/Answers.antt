use Rattle.std.proofs.Common.{ℕ, List, [], string_bytes}
use Rattle.std.specs.List.{slice_get}
use Rattle.std.specs.Option.{option_map_or}
use Rattle.session_report.proofs.Placed.{text_more}
use Rattle.session_report.proofs.reported.put_each.Goals as goal

pub loop-place-preserved : goal.loop-place-preserved
loop-place-preserved g c =
    let lines : ℕ → g.row.T-Def.Denot → List ℕ = λ place def. option_map_or (g.T.Reported.lines def) (slice_get c.args.histories.now place) [] in
    text_more lines c.args.defs.now c.loop-place.place c.index-defs-place.result (string_bytes c.args.text.now)
    (string_bytes c.loop-place.text) (string_bytes c.put_one.new.text) c.loop-place-test.true c.index-defs-place.is
    c.loop-place.invariant c.in_ok-put_one.ensures
