use Rattle.std.proofs.Common.{◌∙◌, refl, ap, arith, length, drop, rules}
use Rattle.archive_file.specs.{recs_image}
use Rattle.disk_model.proofs.Moments.{after_both}
use Rattle.device_layout.specs.{summary_gate}
use Rattle.crash_recovery.specs.{log_end, spare_slot}
use Rattle.crash_recovery.proofs.{DeviceReads.shown_now, Places.reaches_on, Logged.put_moments, Logged.gates_torn, Logged.log_moments, Logged.log_laid, Logged.ready_on, Calls.log_counted, Calls.log_front, Calls.log_gates}
use Rattle.crash_recovery.proofs.seat.Seat.log_records.Goals as goal

pub returns-in_err-put_new_records-clause-any_moment : goal.returns-in_err-put_new_records-clause-any_moment
returns-in_err-put_new_records-clause-any_moment g c = λ def s all.
    let p = c.args.self.now in
    put_moments p (length (recs_image (drop p.records c.args.recs.now))) (summary_gate (spare_slot p.counts))
    refl _ _ c.requires.laid c.put_new_records.ensures.any_moment def s all

pub put_new_records-requires : goal.put_new_records-requires
put_new_records-requires g c = record { room = reaches_on c.args.self.now _ (log_end c.args.self.now) c.requires.laid (omega arith) }

pub close_gates-requires-clause-room : goal.close_gates-requires-clause-room
close_gates-requires-clause-room g c =
    let p = c.args.self.now in
    let gate = c.gate.ensures ∙ ap summary_gate c.spare_slot.ensures in
    let n = length (recs_image (drop p.records c.args.recs.now)) in
    (shown_now (g.D.Disk.device c.put_new_records.new.dev).trace _
    (gates_torn p n c.gate.result gate _ _ c.requires.laid c.put_new_records.ensures.any_moment)).there

pub close_gates-requires-clause-gates : goal.close_gates-requires-clause-gates
close_gates-requires-clause-gates g c =
    let p = c.args.self.now in
    let gate = c.gate.ensures ∙ ap summary_gate c.spare_slot.ensures in
    let n = length (recs_image (drop p.records c.args.recs.now)) in
    gates_torn p n c.gate.result gate _ _ c.requires.laid c.put_new_records.ensures.any_moment

pub returns-in-Ok : goal.returns-in-Ok
returns-in-Ok g c =
    let p = c.args.self.now in
    let gate = c.gate.ensures ∙ ap summary_gate c.spare_slot.ensures in
    let n = length (recs_image (drop p.records c.args.recs.now)) in
    record {
      any_moment = λ def s all. log_moments p n c.gate.result gate _ _ c.requires.laid
          c.put_new_records.ensures.any_moment _ c.close_gates.ensures.any_moment def s all;
      laid = log_laid p n c.gate.result gate _ _ c.requires.laid c.put_new_records.ensures.any_moment _
          c.close_gates.ensures.any_moment c.requires.within c.in-Ok.ensures.settled;
      ready = ready_on p c.gate.result c.args.recs.now _ _ _ _ _ gate c.requires.laid
          c.put_new_records.ensures.any_moment c.close_gates.ensures.any_moment
          c.in_ok-put_new_records.ensures.reads c.in-Ok.ensures.reads c.in-Ok.ensures.shut;
      gates = log_gates p (recs_image (drop p.records c.args.recs.now)) c.gate.result _ _ _ gate c.requires.laid
          c.put_new_records.ensures.any_moment.later c.in_ok-put_new_records.ensures.reads c.close_gates.ensures.any_moment.later
          c.in-Ok.ensures.reads;
      calls = log_counted p (length c.args.recs.now) _ _ _ c.gate.result _ _ gate
          (log_front p (recs_image (drop p.records c.args.recs.now)) _ _ c.requires.laid c.put_new_records.ensures.any_moment.later
          c.in_ok-put_new_records.ensures.reads) c.in_ok-put_new_records.ensures.calls c.in-Ok.ensures.calls;
      unwritten = search rules;
      cause = search rules;
      continues = after_both _ _ _ c.put_new_records.ensures.any_moment.later c.close_gates.ensures.any_moment.later;
      handed = search rules;
      later = search rules;
    }

pub returns-in-Err-clause-any_moment : goal.returns-in-Err-clause-any_moment
returns-in-Err-clause-any_moment g c = λ def s all.
    let p = c.args.self.now in
    let gate = c.gate.ensures ∙ ap summary_gate c.spare_slot.ensures in
    let n = length (recs_image (drop p.records c.args.recs.now)) in
    log_moments p n c.gate.result gate _ _ c.requires.laid c.put_new_records.ensures.any_moment _
    c.close_gates.ensures.any_moment def s all

pub returns-in_err-put_new_records-clause-continues : goal.returns-in_err-put_new_records-clause-continues
returns-in_err-put_new_records-clause-continues g c = c.put_new_records.ensures.any_moment.later

pub returns-in-Err-clause-continues : goal.returns-in-Err-clause-continues
returns-in-Err-clause-continues g c =
    after_both _ _ _ c.put_new_records.ensures.any_moment.later c.close_gates.ensures.any_moment.later
