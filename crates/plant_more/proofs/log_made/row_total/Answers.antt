use Rattle.std.proofs.Common.{◌≡◌, Vec, length, get_or, ap, arith}
use Rattle.std.specs.declared.alloc.Global.{Global}
use Rattle.value_rows.specs.{RawRow}
use Rattle.plant_more.proofs.LogRows.{total_front}
use Rattle.plant_more.proofs.log_made.row_total.Goals as goal

pub overflow_add-total : goal.overflow_add-total
overflow_add-total c =
    let v = c.file-item.result in
    let here : length v.items ≡ length (get_or c.args.files.now c.loop-file.file-index v).items =
    ap (λ (w : Vec RawRow Global). length w.items) c.file-item.is in
    omega (
      arith,
      here,
      c.loop-file.invariant,
      c.requires.small,
      c.len.ensures,
      v.ok,
      total_front c.args.files.now c.loop-file.file-index v c.loop-file-test.true,
    )
