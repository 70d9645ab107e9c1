use Rattle.std.proofs.Common.{get_or}
use Rattle.std.proofs.lemmas.List.{get_or_default}
use Rattle.run_command.proofs.settle.any_wanted.Goals as goal

pub returns-in-WantOfMemory : goal.returns-in-WantOfMemory
returns-in-WantOfMemory c =
    let at = c.loop-place.place in
    let notes = c.args.notes.now in
    (at, get_or notes at _, c.loop-place-test.true, get_or_default notes at _ _ c.loop-place-test.true, c.in-WantOfMemory.is)
