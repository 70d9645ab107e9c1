use Rattle.std.proofs.Common.{refl, Some, arith}
use Rattle.std.specs.Prelude.{slice_index}
use Rattle.plant_more.specs.{row_lists_of}
use Rattle.plant_more.proofs.LogCounting.{few_puts}
use Rattle.plant_more.proofs.LogRows.{files_length, next_is}
use Rattle.plant_more.proofs.LogPutting.{row_found, row_good}
use Rattle.plant_more.proofs.log_made.put_next.Goals as goal

pub put_row-requires-clause-point : goal.put_row-requires-clause-point
put_row-requires-clause-point g c =
    (row_good c.args.files.now c.args.collector c.in-Some.row (slice_index c.args.next.now c.args.collector) c.requires.known
    (next_is c.args.files.now c.args.collector _ c.index-files-collector.result c.deref.result.now (Some c.in-Some.row) c.requires.known
    c.index-files-collector.is c.deref.ensures.value c.in-Some.ensures.row) c.args.log.now.tags c.requires.rows).point

pub put_row-requires-clause-tag : goal.put_row-requires-clause-tag
put_row-requires-clause-tag g c =
    (row_good c.args.files.now c.args.collector c.in-Some.row (slice_index c.args.next.now c.args.collector) c.requires.known
    (next_is c.args.files.now c.args.collector _ c.index-files-collector.result c.deref.result.now (Some c.in-Some.row) c.requires.known
    c.index-files-collector.is c.deref.ensures.value c.in-Some.ensures.row) c.args.log.now.tags c.requires.rows).tag

pub put_row-requires-clause-fewer : goal.put_row-requires-clause-fewer
put_row-requires-clause-fewer g c =
    omega (
      arith,
      c.requires.total,
      few_puts (row_lists_of c.args.files.now) c.args.log.now.tape c.args.next.now c.args.collector c.requires.found
          (omega (arith, files_length c.args.files.now, c.requires.known)) c.requires.lacks,
    )

pub overflow_add-next : goal.overflow_add-next
overflow_add-next g c =
    omega (arith, c.in-Some.ensures.within, c.deref.ensures.len, c.index-files-collector.result.ok, c.index-files-collector.result.small)

pub returns-clause-found : goal.returns-clause-found
returns-clause-found g c =
    row_found c.args.files.now c.args.collector c.in-Some.row (slice_index c.args.next.now c.args.collector) c.requires.known
    (next_is c.args.files.now c.args.collector _ c.index-files-collector.result c.deref.result.now (Some c.in-Some.row) c.requires.known
    c.index-files-collector.is c.deref.ensures.value c.in-Some.ensures.row) c.args.log.now c.put_row.new.log c.args.next.now _
    c.requires.rows c.requires.found refl c.in_ok-put_row.ensures.put refl
