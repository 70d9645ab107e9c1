use Rattle.std.proofs.Common.{◌∙◌, length, sym, ap, subst, rules, arith}
use Rattle.std.proofs.lemmas.Bool.{ltb-true}
use Rattle.std.specs.Prelude.{nat_lt}
use Rattle.archive_file.specs.{summary_image}
use Rattle.device_layout.specs.{summary_place, summary_gate}
use Rattle.crash_recovery.specs.{LaidOn, OverrunOn}
use Rattle.crash_recovery.proofs.Checkpoints.{IsFit, fit_of, none_used, summed_as, summary_moments, summary_durable, summary_overrun, summary_laid}
use Rattle.crash_recovery.proofs.{DeviceReads.now_shown, Places.settled_on, Calls.put_gates, seat.Seat.put_summary.Goals.After-write_guarded}
use Rattle.device_layout.proofs.SlotNumbers.{length-summary_image}
use Rattle.crash_recovery.proofs.seat.Seat.put_summary.Given as given
use Rattle.crash_recovery.proofs.seat.Seat.put_summary.Goals as goal

-- the tuning that is written is the core's, and its parts fit
fit : (g : given.Over) (c : After-write_guarded g) → IsFit c.tuning-tuning.result c.args.core.now.step c.args.core.now.state
fit g c = grind (arith, fit_of)

pub write_guarded-requires-clause-shut : goal.write_guarded-requires-clause-shut
write_guarded-requires-clause-shut g c = grind (arith, now_shown, settled_on)

pub returns-in_default-clause-any_moment : goal.returns-in_default-clause-any_moment
returns-in_default-clause-any_moment g c = λ def s all goes.
    let fit = fit g (goal.at.returns-in_default-clause-any_moment g c).After-write_guarded in
    let at = c.place.ensures ∙ ap summary_place c.spare_slot-slot.ensures in
    let gate = c.gate.ensures ∙ ap summary_gate c.spare_slot-slot.ensures in
    let bytes = c.summary_bytes.ensures ∙ ap summary_image c.summary-summary.ensures.value in
    summary_moments c.args.self.now _ _ _ fit c.requires.fresh c.requires.within c.requires.more _ _ c.requires.laid
    c.requires.ready c.place.result c.gate.result c.summary_bytes.result at gate bytes c.write_guarded.ensures.any_moment
    def s all goes

pub returns : goal.returns
returns g c =
    let p = c.args.self.now in
    let r = c.args.core.now.state in
    let value = c.summary-summary.ensures.value in
    let fit = fit g (goal.at.returns g c).After-write_guarded in
    let at = c.place.ensures ∙ ap summary_place c.spare_slot-slot.ensures in
    let gate = c.gate.ensures ∙ ap summary_gate c.spare_slot-slot.ensures in
    let bytes = c.summary_bytes.ensures ∙ ap summary_image value in
    let stale = nat_lt 0 p.lane.used in
    let new = (g.D.Disk.device c.write_guarded.new.dev).trace in
    let same = sym (summed_as p stale r c.spare_slot-slot.result c.summary-summary.result
    c.spare_slot-slot.ensures value) in
    record {
      any_moment = λ def s all goes. summary_moments p _ _ r fit c.requires.fresh c.requires.within
          c.requires.more _ _ c.requires.laid
          c.requires.ready c.place.result c.gate.result c.summary_bytes.result at gate bytes
          c.write_guarded.ensures.any_moment def s all goes;
      durable = λ def s all goes. summary_durable p _ _ r fit c.requires.fresh c.requires.within
          c.requires.more _ _ c.requires.laid
          c.requires.ready c.place.result c.gate.result c.summary_bytes.result at gate bytes
          c.write_guarded.ensures.any_moment c.in-Ok.ensures.settled c.in-Ok.ensures.reads def s all goes;
      overrun = λ def s all goes. subst (λ q. OverrunOn q new) same
          (summary_overrun p _ _ r fit c.requires.fresh c.requires.within c.requires.more _ _ c.requires.laid
          c.requires.ready c.place.result c.gate.result c.summary_bytes.result at gate bytes
          c.write_guarded.ensures.any_moment c.in-Ok.ensures.settled c.in-Ok.ensures.reads stale def s all
          goes);
      laid = subst (λ q. LaidOn q new) same (summary_laid p _ _ r fit c.requires.fresh c.requires.within
          c.requires.more _ _ c.requires.laid
          c.requires.ready c.place.result c.gate.result c.summary_bytes.result at gate bytes
          c.write_guarded.ensures.any_moment c.in-Ok.ensures.settled c.in-Ok.ensures.reads
          stale (none_used p.lane.used));
      number = ap (λ x. x.taken) value;
      same_lane = search rules;
      stale = none_used p.lane.used;
      taken = ap (λ x. x.taken) value;
      overtaken = ltb-true 0 p.lane.used;
      gates = put_gates p c.place.result c.gate.result c.summary_bytes.result _ _ at gate
          (ap length bytes ∙ length-summary_image r.summary) c.requires.laid c.write_guarded.ensures.any_moment.later c.in-Ok.ensures.reads;
      clock = search rules;
      later = search rules;
      cause = search rules;
      continues = c.write_guarded.ensures.any_moment.later;
      handed = search rules;
    }

pub returns-in_default-clause-continues : goal.returns-in_default-clause-continues
returns-in_default-clause-continues g c = c.write_guarded.ensures.any_moment.later
