use Rattle.std.proofs.Common.{refl, ◌∙◌, arith}
use Rattle.event_frames.proofs.Changing.{changes_more, changes_none}
use Rattle.event_frames.proofs.frames.put_changes.Goals as goal

pub put-requires-clause-window : goal.put-requires-clause-window
put-requires-clause-window c = c.loop-change.invariant.0.next c.loop-change-test.true

pub put-requires-clause-room : goal.put-requires-clause-room
put-requires-clause-room c = grind arith

pub loop-change-init : goal.loop-change-init
loop-change-init c = (changes_none c.args.levels.now.truths c.args.changes.now c.requires.changes, refl)

pub loop-change-preserved : goal.loop-change-preserved
loop-change-preserved c = (
  changes_more c.args.levels.now.truths c.loop-change.levels.truths c.put.new.self.truths c.args.changes.now
      c.loop-change.change-index c.is_true.result c.requires.changes c.loop-change-test.true c.is_true.ensures c.put.ensures.truths
      c.loop-change.invariant.0,
  c.put.ensures.room ∙ c.loop-change.invariant.1,
)
