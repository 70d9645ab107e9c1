use Rattle.std.proofs.Common.{◌≡◌, ◌+◌, ◌*◌, ◌-◌, ◌≤◌, length, drop}
use Rattle.std.specs.List.{flat_map}
use Rattle.point_text.specs.{record_line}
use Rattle.point_text.proofs.printer.print_records.Given as goal

abbrev pub invariant-loop-rec : goal.invariant-loop-rec
invariant-loop-rec l = record {
  can_next : (goal.iterator-loop-rec).can_next l.rec-iterator;
  is_finite : (goal.iterator-loop-rec).is_finite l.rec-iterator;
  room : 48 * length l.recs ≤ l.start + 48 * length l.yielded;
  within : l.start ≤ length l.piece;
  lines : drop l.start l.piece ≡ flat_map record_line (drop (length l.recs - length l.yielded) l.recs);
}
