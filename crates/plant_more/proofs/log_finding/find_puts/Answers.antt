use Rattle.plant_more.specs.{row_lists_of}
use Rattle.plant_more.proofs.LogFound.{other_turn, put_turn}
use Rattle.plant_more.proofs.log_finding.find_puts.Goals as goal
use Rattle.plant_more.proofs.log_finding.find_puts.Goals.{in-Put+in_default-follow, in_default}

pub loop-place-preserved : goal.loop-place-preserved
loop-place-preserved c = elim c.match-tape-place.branch [
  | in-Put+in_default-follow w ↦ rw w.next-is
      (put_turn (row_lists_of c.args.files.now) c.args.tape.now c.loop-place.place _ w.in-Put.row c.loop-place.next _ c.loop-place-test.true
      w.in-Put.is c.loop-place.invariant w.in_default-follow.ensures.followed)
  | in_default w ↦ rw w.next-is
      (other_turn (row_lists_of c.args.files.now) c.args.tape.now c.loop-place.place _ c.loop-place.next c.loop-place-test.true
      w.in_default.not-Put c.loop-place.invariant)
]
