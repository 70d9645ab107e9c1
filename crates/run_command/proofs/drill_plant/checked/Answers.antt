use Rattle.run_command.proofs.DrillFormulas.{memory_alone}
use Rattle.run_command.proofs.drill_plant.checked.Goals as goal

pub unreachable-requires : goal.unreachable-requires
unreachable-requires c =
    let memory = memory_alone _ _ _ c.in_ok-defs.defs.items _ c.requires c.deref.ensures.value c.in_ok-inputs.ensures
    c.in_ok-defs.ensures.known c.in-Err-UnknownName.ensures.fault in
    cc (memory, c.in-Err-UnknownName.field-0-is)

pub unreachable-requires-in-Err-Forward : goal.unreachable-requires-in-Err-Forward
unreachable-requires-in-Err-Forward c =
    let memory = memory_alone _ _ _ c.in_ok-defs.defs.items _ c.requires c.deref.ensures.value c.in_ok-inputs.ensures
    c.in_ok-defs.ensures.known c.in-Err-Forward.ensures.fault in
    cc (memory, c.in-Err-Forward.field-0-is)
