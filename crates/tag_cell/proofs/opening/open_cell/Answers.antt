use Rattle.std.proofs.Common.{◌≡◌, ◌∙◌, ◌<◌, ◌^◌, [], ap, sym, subst, arith}
use Rattle.std.specs.Prelude.{vec_capacity}
use Rattle.std.specs.Arc.{arc_value}
use Rattle.trend_num.specs.{Summary}
use Rattle.trend_model.specs.State.{State}
use Rattle.crash_recovery.specs.{AllRecover, IsOpenedAs, RecoversThen}
use Rattle.device_layout.specs.{Recovers}
use Rattle.disk_model.specs.{Shows, FitsName}
use Rattle.tag_cell.specs.{device_name, TagOpening, opened}
use Rattle.tag_cell.proofs.Openings.{same_state, open_replayed, open_in_step, open_has_room, open_waits, open_kept, open_safe, open_posted}
use Rattle.tag_cell.proofs.Begun.{began_well}
use Rattle.tag_cell.proofs.opening.open_cell.Goals as goal

pub invariant_of-result : goal.invariant_of-result
invariant_of-result g c =
    let def = c.args.def.now in
    let found = c.in_ok-journal.field-0 in
    let told = c.in_ok-journal.ensures in
    let o : TagOpening = record { recs = c.in-Ok-from_slice.recs; summary = c.summary-summary.result; moment = c.clock.result; faults = c.faults.result } in
    let tape = c.in-Ok-with_capacity.tape.items in
    let none : tape ≡ [] = c.in-Ok-with_capacity.ensures.items in
    let dev = found.journal.dev in
    let trace = (g.D.Disk.device dev).trace in
    let summary : o.summary ≡ found.core.state.summary = c.summary-summary.ensures.value in
    let records : o.recs.items ≡ found.core.state.records = c.in-Ok-from_slice.ensures.items ∙ c.recs.ensures.value in
    let is : found.core.state ≡ opened o = same_state found.core.state o records summary in
    let count : found.core.state.summary.taken ≡ o.summary.taken = ap (λ (s : Summary). s.taken) (sym summary) in
    let recovers : o.summary.taken < 10 ^ 18 → AllRecover def trace (opened o) =
    λ few. subst (AllRecover def trace) is (told.recovers_now (omega (arith, few, count))) in (
      open_replayed def o tape found.core.state found.journal.acked none (ap (λ (s : Summary). s.tuning) summary ∙ told.tuning) is
          (told.acked ∙ count),
      open_in_step def o tape found.core c.in-Ok.content.records none told.step is c.in-Ok.ensures.content,
      open_has_room o tape (vec_capacity c.in-Ok-with_capacity.tape) c.args.room found.core.spare c.in-Ok.content.spare none
          (omega (arith, c.in-Ok-with_capacity.ensures.capacity)) told.room c.in-Ok.ensures.room (omega (arith, told.countable, count)),
      open_waits o tape c.record_count-durable.result found.journal.acked none
          (c.record_count-durable.ensures.value ∙ ap Rattle.std.proofs.Common.length (sym records)) (told.acked ∙ count),
      open_kept def o tape found.journal.failed (g.D.Disk.device dev) none told.usable recovers c.clock.ensures c.faults.ensures,
      open_safe def o tape trace none c.clock.ensures recovers,
      open_posted (arc_value c.args.board) c.args.poster c.post.new.poster c.summary-summary.result found.core.state c.requires.here
          c.post.ensures summary,
      subst (FitsName (device_name def.name)) (sym told.handed) c.requires.named,
      began_well def o (g.D.Disk.device c.args.dev) (g.D.Disk.device dev) c.requires.unused told.handed told.any_moment
          (subst (RecoversThen def (g.D.Disk.device c.args.dev).trace trace) is told.recovers) c.clock.ensures,
    )

pub returns-clause-opened : goal.returns-clause-opened
returns-clause-opened g c =
    let def = c.args.def.now in
    let found = c.in_ok-journal.field-0 in
    let o : TagOpening = record { recs = c.in-Ok-from_slice.recs; summary = c.summary-summary.result; moment = c.clock.result; faults = c.faults.result } in
    let records : o.recs.items ≡ found.core.state.records = c.in-Ok-from_slice.ensures.items ∙ c.recs.ensures.value in
    let is : found.core.state ≡ opened o = same_state found.core.state o records c.summary-summary.ensures.value in
    subst (λ (x : State). Shows (g.D.Disk.device c.args.dev).trace (λ seen. (s : State) × Recovers def seen s × IsOpenedAs def s x)) is
    c.in_ok-journal.ensures.opened
