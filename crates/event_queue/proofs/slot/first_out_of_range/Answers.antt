use Rattle.std.proofs.Common.{arith, ◌*◌, drop}
use Rattle.std.proofs.lemmas.List.Elements.{All-push}
use Rattle.trend_num.specs.{InRange}
use Rattle.archive_file.specs.{point_at}
use Rattle.event_queue.specs.{slot_points}
use Rattle.event_queue.proofs.Batches.{points_in_more, points_behind}
use Rattle.event_queue.proofs.slot.first_out_of_range.Goals as goal

pub loop-i-preserved : goal.loop-i-preserved
loop-i-preserved c =
    let bytes = c.args.bytes.now in
    let i = c.loop-i.i in
    let inside : InRange (point_at (drop (16 * i) bytes)) = grind arith in
    record {
      rest = points_behind i bytes _ _ c.loop-i.invariant.rest c.take_point.ensures.rest;
      before = rw (points_in_more i bytes)
          (All-push InRange (slot_points i bytes) _ c.loop-i.invariant.before inside);
    }
