use Rattle.std.proofs.Common.{List, string_bytes, subst, w32}
use Rattle.std.proofs.lemmas.Int.{to_z-of_z}
use Rattle.std.proofs.lemmas.Result.{IfOk-weaker}
use Rattle.shift_calendar.specs.{AreWindows, shifts_over, ShiftWindow}
use Rattle.plant_more.specs.{AreLines, AreShiftLines, AreShiftTags, tag_lines}
use Rattle.plant_more.proofs.ShiftTags.{lines_told}
use Rattle.plant_more.proofs.shift_figures.shift_lines.Goals as goal

pub returns : goal.returns
returns c =
    let defs = c.args.tags.now in
    let cores = c.args.cores.now in
    let cal = c.args.calendar.now in
    let tags = c.in_ok-told.told.items in
    let windows = c.in_ok-windows.windows.items in
    IfOk-weaker c.lines_of.result
    (λ text. AreLines (tag_lines c.measure.result c.deref.result.now) c.deref-2.result.now (string_bytes text))
    (λ text. (ws : List ShiftWindow) × AreWindows cal.zone (shifts_over cal.starts c.args.day c.args.days) ws
    × AreShiftLines defs cores cal ws (string_bytes text))
    (λ text told. (
      windows,
      subst (λ day. AreWindows cal.zone (shifts_over cal.starts day c.args.days) windows) (to_z-of_z w32 c.args.day c.ranges.day)
          c.in_ok-windows.ensures.windows,
      lines_told defs cores cal tags c.deref.result.now windows c.deref-2.result.now c.measure.result (string_bytes text)
          (subst (λ l. AreShiftTags defs cores l tags) c.tags-places.ensures c.in_ok-told.ensures) c.measure.ensures c.deref.ensures.value
          c.deref-2.ensures.value told,
    ))
    c.lines_of.ensures
