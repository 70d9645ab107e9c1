use Rattle.std.proofs.Common.{◌≡◌, length}
use Rattle.std.specs.Io.KnownBytes.{Keeps}
use Rattle.byte_io.proofs.retry.read_again.Given as goal

abbrev pub invariant-loop : goal.invariant-loop
invariant-loop g l = record {
  same_length : length l.buf ≡ length l.initial.buf;
  none_taken : Keeps (g.R.Read.remaining l.initial.reader) (g.R.Read.remaining l.reader);
}
