use Rattle.std.proofs.Common.{◌≡◌, ◌∙◌, ℕ, [], ap, subst, List}
use Rattle.disk_model.specs.{Devices, named, trace_at, Trace}
use Rattle.branded_disk.specs.{branded, told_of}
use Rattle.run_command.proofs.Results.{err_weaker}
use Rattle.run_command.proofs.Told.{some_weaker}
use Rattle.run_command.specs.{IsDrillUnopened, IsRunInPhases, device_seen}
use Rattle.run_command.proofs.DrillUnopened.{wants_memory}
use Rattle.run_command.proofs.drill_command.run_drill.Goals as goal

pub returns-clause-session : goal.returns-clause-session
returns-clause-session g c =
    let drill = c.args.drill.now in
    let none : c.new-store.result.devices ≡ [] = c.new-store.ensures.devices ∙ ap named c.new.ensures.items in
    let new : List ℕ → Trace = trace_at c.hold_in.new.store.devices in
    some_weaker c.hold_in.result.session (λ s is. (
      new,
      c.hold_in.new.store.faults,
      subst (λ (ds : Devices). IsRunInPhases (branded device_seen (told_of (trace_at ds))) drill.base drill.first drill.second
          (trace_at ds) new 0 c.hold_in.new.store.faults (g.P.Passes.stops c.args.passes.now)
          (g.P.Passes.stops c.hold_in.new.passes) c.hold_in.result.answer s) none
          (subst (λ (n : ℕ). IsRunInPhases (branded device_seen (told_of (trace_at c.new-store.result.devices))) drill.base drill.first drill.second
          (trace_at c.new-store.result.devices) new n c.hold_in.new.store.faults (g.P.Passes.stops c.args.passes.now)
          (g.P.Passes.stops c.hold_in.new.passes) c.hold_in.result.answer s) c.new-store.ensures.faults is),
    )) c.hold_in.ensures.session

pub returns-clause-unheld : goal.returns-clause-unheld
returns-clause-unheld g c = λ no.
    let none : c.new-store.result.devices ≡ [] = c.new-store.ensures.devices ∙ ap named c.new.ensures.items in
    let new : List ℕ → Trace = trace_at c.hold_in.new.store.devices in
    err_weaker c.hold_in.result.answer (λ why is.
    wants_memory c.args.drill.now.base new c.hold_in.new.store.faults why
    (subst (λ (ds : Devices). IsDrillUnopened c.args.drill.now.base (trace_at ds) new 0 c.hold_in.new.store.faults why) none
    (subst (λ (n : ℕ). IsDrillUnopened c.args.drill.now.base (trace_at c.new-store.result.devices) new n
    c.hold_in.new.store.faults why) c.new-store.ensures.faults is)))
    (c.hold_in.ensures.unheld no)
