use Rattle.std.proofs.Common.{string_bytes}
use Rattle.plant_more.specs.{tag_lines}
use Rattle.plant_more.proofs.ShiftWindows.{window_more}
use Rattle.plant_more.proofs.shift_line.lines_of.Goals as goal

pub loop-window-preserved : goal.loop-window-preserved
loop-window-preserved c =
    let added = c.in_ok-put_window.ensures in
    window_more (tag_lines c.args.measure c.args.tags.now) c.args.windows.now c.loop-window.window-index _ added.0
    (string_bytes c.loop-window.text) (string_bytes c.put_window.new.text) c.loop-window-test.true c.loop-window.invariant
    added.1 added.2
