use Rattle.std.proofs.Common.{◌+◌, arith, sym, subst}
use Rattle.event_queue.specs.{IsRead}
use Rattle.event_queue.proofs.Pieces.{handed_on, slot_in, taken_none, taken_shut, taken_open}
use Rattle.event_queue.proofs.reader.Scanned.take_piece.Goals.{then-gates-k+in_ok-take_slot, else-gates-k}
use Rattle.event_queue.proofs.reader.Scanned.take_piece.Goals as goal

pub returns-in_err-take_slot-clause-damaged : goal.returns-in_err-take_slot-clause-damaged
returns-in_err-take_slot-clause-damaged c = λ a byte told bytes at_piece read.
    let slots = c.args.self.now.lane.slots in
    let from = c.args.from in
    let i = c.loop-i.i in
    let same = c.loop-i.invariant.slots_same in
    let at_slot = slot_in slots bytes c.args.gates.now from c.args.piece.now at_piece i c.slot_of.result.now
    (omega arith) c.if-gates-k.true (omega arith) c.slot_of.ensures.value in
    let read_so_far = c.loop-i.invariant.read bytes at_piece read in
    let was = handed_on c.from_residual.result c.take_slot.result c.in_err-take_slot.field-0.0 _
    c.from_residual.ensures.1 c.in_err-take_slot.was told in
    rw same at (c.take_slot.ensures.damaged a byte was bytes
    (rw same at_slot)
    (subst (λ n. IsRead n c.args.taken bytes (from + i) c.loop-i.self) (sym same) read_so_far))

pub loop-i-init : goal.loop-i-init
loop-i-init c = grind (arith, taken_none)

pub loop-i-preserved : goal.loop-i-preserved
loop-i-preserved c =
    let slots = c.args.self.now.lane.slots in
    let from = c.args.from in
    let i = c.loop-i.i in
    elim c.if-gates-k.branch [
      | then-gates-k+in_ok-take_slot w ↦
          taken_open slots c.args.taken c.args.gates.now from c.args.piece.now c.args.self.now i c.loop-i.self
          _ c.loop-i.invariant (omega arith)
          w.slot_of.result.now w.take_slot.new.self w.if-gates-k.true (omega arith) w.slot_of.ensures.value
          w.in_ok-take_slot.ensures.within
          w.in_ok-take_slot.ensures.read w.self-is
      | else-gates-k w ↦
          taken_shut slots c.args.taken c.args.gates.now from c.args.piece.now c.args.self.now i c.loop-i.self
          _ c.loop-i.invariant (omega arith)
          w.if-gates-k.false w.self-is
    ]
