use Rattle.std.proofs.Common.{◌≡◌, ◌+◌, ◌≤◌, ◌++◌, ℕ, true, take, subst, arith}
use Rattle.pack_command.specs.{HasCome}
use Rattle.pack_command.proofs.Pieces.{come_piece, long_refused, taken_piece}
use Rattle.pack_command.proofs.input.read_pieces.Goals as goal

pub returns-then-count-eq0-clause-read : goal.returns-then-count-eq0-clause-read
returns-then-count-eq0-clause-read g c = λ o start.
    let meaning = g.I.Source.meaning in
    let before = meaning c.args.input.now in
    let at = meaning c.loop-count.input in
    let now = meaning c.read_after.new.input in
    let new = c.read_after.new.buffer in
    let begun = c.loop-count.begun in
    let so_far = c.loop-count.invariant.read in
    let read = c.in-Ok.ensures.read in
    let was = c.loop-count.intake in
    let all = so_far.0 ++ read.piece in
    let taken = taken_piece before at now so_far.0 c.loop-count.buffer new c.loop-count.total begun c.in-Ok.count so_far.1 read in
    let come = come_piece o at now so_far.0 c.loop-count.buffer new begun c.in-Ok.count was.core was.rows was.standing read (so_far.2 o start) in
    let front : begun + c.in-Ok.count ≡ begun = omega (arith, c.if-count-eq0.true) in
    record {
      bytes = all;
      whole = record { taken = taken.taken; ended = read.ended c.if-count-eq0.true };
      no_fault = taken.no_fault;
      within = omega (arith, taken.counted, c.if-count-eq0.true, c.loop-count.invariant.within);
      few = c.take_last.ensures.ready.few;
      come = c.take_last.ensures.come o all (subst (λ (k : ℕ). HasCome true o all (take k new) was.core was.rows was.standing) front come);
    }

pub returns-then-count-room-clause-refused : goal.returns-then-count-room-clause-refused
returns-then-count-room-clause-refused g c = λ tuning.
    let meaning = g.I.Source.meaning in
    let before = meaning c.args.input.now in
    let at = meaning c.loop-count.input in
    let now = meaning c.read_after.new.input in
    let so_far = c.loop-count.invariant.read in
    let read = c.in-Ok.ensures.read in
    let asked : c.in-Ok.count ≤ c.min.result + 1 = omega (arith, c.in-Ok.ensures.few) in
    let many : c.loop-count.total + c.in-Ok.count ≡ 67108864 + 1 = omega arith in
    long_refused tuning before now (so_far.0 ++ read.piece) (c.loop-count.total + c.in-Ok.count)
    (taken_piece before at now so_far.0 c.loop-count.buffer c.read_after.new.buffer c.loop-count.total c.loop-count.begun c.in-Ok.count so_far.1 read) many

pub loop-count-preserved : goal.loop-count-preserved
loop-count-preserved g c =
    let meaning = g.I.Source.meaning in
    let before = meaning c.args.input.now in
    let at = meaning c.loop-count.input in
    let now = meaning c.read_after.new.input in
    let new = c.read_after.new.buffer in
    let so_far = c.loop-count.invariant.read in
    let read = c.in-Ok.ensures.read in
    let was = c.loop-count.intake in
    record {
      within = omega arith;
      short = c.take_piece-begun.ensures.short;
      ready = c.take_piece-begun.ensures.ready;
      one = c.take_piece-begun.ensures.begun;
      read = (
        so_far.0 ++ read.piece,
        taken_piece before at now so_far.0 c.loop-count.buffer new c.loop-count.total c.loop-count.begun c.in-Ok.count so_far.1 read,
        λ o start. c.take_piece-begun.ensures.come o (so_far.0 ++ read.piece)
            (come_piece o at now so_far.0 c.loop-count.buffer new c.loop-count.begun c.in-Ok.count was.core was.rows was.standing read (so_far.2 o start)),
      );
    }
