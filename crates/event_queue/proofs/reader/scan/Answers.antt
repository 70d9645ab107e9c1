use Rattle.std.proofs.Common.{◌≡◌, ◌+◌, ◌*◌, ◌≤◌, min, subst, ◌∙◌, arith}
use Rattle.event_queue.specs.{IsLaneDamage, IsWithin}
use Rattle.event_queue.proofs.{Pieces.handed_on, Scans.moved, Scans.with_piece, Scans.read_all, Scans.read_first}
use Rattle.event_queue.proofs.reader.scan.Goals as goal

pub loop-j-init : goal.loop-j-init
loop-j-init g c =
    let none : 0 ≡ min 0 c.used_of-used.result = omega arith in
    let s = c.in_ok-scanned.scanned in
    record {
      same = c.in_ok-gates.ensures.same;
      faults = c.in_ok-gates.ensures.cause.passed;
      handed = c.in_ok-gates.ensures.handed;
      slots_same = c.in_ok-scanned.ensures.within.slots_same;
      within = subst (λ n. IsWithin c.args.slots c.args.taken n s) none c.in_ok-scanned.ensures.within;
      read = read_first (g.D.Disk.device c.args.dev.now).trace c.args.slots c.args.taken _ s none
          c.in_ok-scanned.ensures.read;
      long = λ some. c.in-Ok.ensures.len ∙ omega (arith, c.min.ensures);
    }

pub returns-in_err-take_piece-clause-damaged : goal.returns-in_err-take_piece-clause-damaged
returns-in_err-take_piece-clause-damaged g c = λ a byte told.
    let o = (g.D.Disk.device c.args.dev.now).trace in
    let used = c.used_of-used.result in
    let from = 64 * c.loop-j.j in
    let s = c.loop-j.scanned in
    let start : min from used ≡ from = omega arith in
    let was = handed_on c.from_residual-in_err-take_piece.result c.take_piece.result
    c.in_err-take_piece.field-0.0 _
    c.from_residual-in_err-take_piece.ensures.1 c.in_err-take_piece.was told in
    with_piece o c.args.slots c.args.taken (min from used) from c.in_ok-gates.gates.items
    c.refill.new.piece.items c.deref-in-loop-j.result.now
    c.deref-in-loop-j-2.result.now s (λ n bytes. IsLaneDamage n bytes c.args.taken a byte) start
    c.loop-j.invariant.slots_same
    c.in_ok-gates.ensures.len c.in_ok-gates.ensures.reads c.deref-in-loop-j.ensures.value
    (grind (arith, moved))
    c.deref-in-loop-j-2.ensures.value c.loop-j.invariant.read (c.take_piece.ensures.damaged a byte was)

pub loop-j-preserved : goal.loop-j-preserved
loop-j-preserved g c =
    let o = (g.D.Disk.device c.args.dev.now).trace in
    let slots = c.args.slots in
    let used = c.used_of-used.result in
    let from = 64 * c.loop-j.j in
    let s = c.loop-j.scanned in
    let new = c.take_piece.new.self in
    let behind = from + c.min-count.result in
    let start : min from used ≡ from = omega arith in
    let next : behind ≡ min (64 * (c.loop-j.j + 1)) used = omega (arith, c.min-count.ensures) in
    let within = rw c.loop-j.invariant.slots_same at
    c.in_ok-take_piece.ensures.within in
    record {
      same = c.refill.ensures.same ∙ c.loop-j.invariant.same;
      faults = c.in-Ok-refill.ensures.cause.passed ∙ c.loop-j.invariant.faults;
      handed = c.refill.ensures.handed ∙ c.loop-j.invariant.handed;
      slots_same = within.slots_same;
      within = rw next at within;
      read = grind (arith, with_piece, moved);
      long = λ more. c.in-Ok-refill.ensures.len ∙ omega (arith, c.min-count.ensures);
    }

pub returns-clause-ok : goal.returns-clause-ok
returns-clause-ok g c =
    let used = c.used_of-used.result in
    let all : min (64 * c.loop-j.j) used ≡ used = omega (arith, c.div_ceil-j-end.ensures) in
    let bound : used ≤ c.args.slots = grind arith in
    read_all (g.D.Disk.device c.args.dev.now).trace c.args.slots c.args.taken (min (64 * c.loop-j.j) used) used
    c.in_ok-gates.gates.items c.deref.result.now c.loop-j.scanned all
    bound c.in_ok-gates.ensures.len c.in_ok-gates.ensures.reads c.deref.ensures.value
    c.used_of-used.ensures.none_behind c.loop-j.invariant.read
