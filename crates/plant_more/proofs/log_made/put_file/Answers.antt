use Rattle.std.proofs.Common.{◌≡◌, Vec, length, sym, ap, ◌∙◌, arith}
use Rattle.std.specs.declared.alloc.Global.{Global}
use Rattle.value_rows.specs.{RawRow}
use Rattle.plant_more.specs.{row_lists_of}
use Rattle.plant_more.specs.LogFinding.{rows_in}
use Rattle.plant_more.proofs.LogRows.{file_length}
use Rattle.plant_more.proofs.log_made.put_file.Goals as goal

pub put_next-requires-clause-lacks : goal.put_next-requires-clause-lacks
put_next-requires-clause-lacks g c =
    let v = c.index-files-collector.result in
    let long : length (rows_in (row_lists_of c.args.files.now) c.args.collector) ≡ length v.items =
    file_length c.args.files.now c.args.collector v c.requires.known ∙ sym (ap (λ (w : Vec RawRow Global). length w.items) c.index-files-collector.is) in
    omega (arith, long, c.loop-place.invariant.at, c.loop-place-test.true, c.len-place-end.ensures, v.ok)

pub returns-clause-all : goal.returns-clause-all
returns-clause-all g c =
    let v = c.index-files-collector.result in
    let long : length (rows_in (row_lists_of c.args.files.now) c.args.collector) ≡ length v.items =
    file_length c.args.files.now c.args.collector v c.requires.known ∙ sym (ap (λ (w : Vec RawRow Global). length w.items) c.index-files-collector.is) in
    omega (
      arith,
      long,
      c.loop-place.invariant.at,
      c.loop-place-test.false,
      c.len-place-end.ensures,
      v.ok,
      c.loop-place.invariant.found.within c.args.collector,
    )
