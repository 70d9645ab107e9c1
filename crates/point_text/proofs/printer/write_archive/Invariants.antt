use Rattle.std.proofs.Common.{◌-◌, ◌≤◌, length, take}
use Rattle.std.specs.List.{flat_map}
use Rattle.byte_io.specs.Outside.{IsWritten}
use Rattle.point_text.specs.{record_line}
use Rattle.point_text.proofs.printer.write_archive.Given as goal

abbrev pub invariant-loop-done : goal.invariant-loop-done
invariant-loop-done g l = record {
  within : l.done ≤ length l.recs;
  written : IsWritten (g.O.Sink.meaning l.initial.out) (g.O.Sink.meaning l.out) (flat_map record_line (take l.done l.recs));
}

abbrev pub decreases-loop-done : goal.decreases-loop-done
decreases-loop-done g l = length l.recs - l.done
