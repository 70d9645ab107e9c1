use Rattle.std.proofs.Common.{◌≡◌, ◌+◌, ◌≤◌, ℕ, length, arith, subst, length-take}
use Rattle.byte_io.specs.Outside.{TakesExactly}
use Rattle.byte_io.proofs.Piece.{TakesExactly-piece, TakesSome-exact}
use Rattle.byte_io.proofs.transfer.read_all.Goals as goal

-- The piece that went past the limit is one byte more than there was room for.
pub returns-then-count-room-clause-too_long : goal.returns-then-count-room-clause-too_long
returns-then-count-room-clause-too_long g c _ =
    let meaning = g.S.Source.meaning in
    let before = meaning c.args.src.now in
    let now = meaning c.read.new.self in
    let taken = TakesExactly-piece before (meaning c.loop-count.src) now c.loop-count.all.items c.read.new.buf c.in-Ok.count
    c.loop-count.invariant.taken c.in-Ok.ensures.bytes.0 c.in-Ok.ensures.bound in
    let asked : c.in-Ok.count ≤ c.min.result + 1 = omega (arith, c.in-Ok.ensures.bound, c.read.auto.buf, length-take {A = ℕ}) in
    let total : length c.loop-count.all.items + c.in-Ok.count ≡ c.args.limit + 1 = omega arith in
    subst (TakesExactly before now) total taken

-- The piece that found no memory was some bytes, and within the limit.
pub returns-then-is_err-clause-want_of_memory : goal.returns-then-is_err-clause-want_of_memory
returns-then-is_err-clause-want_of_memory g c _ =
    let meaning = g.S.Source.meaning in
    let before = meaning c.args.src.now in
    let now = meaning c.read.new.self in
    let total = length c.loop-count.all.items + c.in-Ok.count in
    let taken : TakesExactly before now total = TakesExactly-piece before (meaning c.loop-count.src) now c.loop-count.all.items c.read.new.buf c.in-Ok.count
    c.loop-count.invariant.taken c.in-Ok.ensures.bytes.0 c.in-Ok.ensures.bound in
    TakesSome-exact before now total c.args.limit taken (omega arith) (omega arith)
