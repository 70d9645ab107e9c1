use Rattle.std.proofs.Common.{arith, ◌∙◌}
use Rattle.byte_io.proofs.Piece.{Gains-piece}
use Rattle.byte_io.proofs.transfer.write_all.Goals as goal

pub loop-at-preserved : goal.loop-at-preserved
loop-at-preserved g c =
    let meaning = g.O.Sink.meaning in
    record {
      in_range = omega (arith, c.in-Ok.ensures.bound);
      sent = Gains-piece (meaning c.args.out.now) (meaning c.loop-at.out) (meaning c.write.new.self) c.args.bytes.now c.loop-at.at c.in-Ok.count
          c.loop-at.invariant.sent c.in-Ok.ensures.bytes;
      no_fault = c.in-Ok.ensures.no_fault ∙ c.loop-at.invariant.no_fault;
    }
