use Rattle.std.proofs.Common.{◌<◌, ◌+◌, ap, Err, subst, length, take, map, arith}
use Rattle.trend_num.specs.{most_records}
use Rattle.trend_model.specs.{History.Raw, State.replay}
use Rattle.device_layout.specs.{AllFit}
use Rattle.crash_recovery.specs.{HoldsValue, IsOverfull}
use Rattle.device_layout.proofs.{Shows.shows_after, Reading.cause_of_scan}
use Rattle.crash_recovery.proofs.{Cores.queue_shown, Cores.holds_shown, Cores.overfull_cause, Cores.recovered_shown, Cores.seated_shown, Numbered.numbered_read}
use Rattle.crash_recovery.proofs.replay.read_core.Goals as goal

pub returns-in-Err-clause-cause : goal.returns-in-Err-clause-cause
returns-in-Err-clause-cause g c def same_step read =
    let no = c.in-Err.ensures in
    cause_of_scan def (g.D.Disk.device c.args.dev.now).trace _ _ c.refusal_of.ensures
    (λ at byte is. queue_shown def (g.D.Disk.device c.args.dev.now).trace c.args.slots c.args.stored at byte read (no.damaged at byte (ap Err is)))

pub returns-in-Err-replay-clause-cause : goal.returns-in-Err-replay-clause-cause
returns-in-Err-replay-clause-cause g c def same_step read =
    let scan = c.in-Ok.ensures in
    let s = c.in-Ok.scanned in
    let made = c.in-Ok-from_records.ensures in
    let core = c.in-Ok-from_records.core in
    let no = c.in-Err-replay.ensures in
    let n = c.in-Err-replay.number in
    let points = c.deref.ensures.value in
    overfull_cause def (g.D.Disk.device c.args.dev.now).trace c.args.slots c.args.stored s c.args.step core.state n c.overfull.result scan.within read
    scan.ok same_step made.records made.summary
    (subst (λ k. AllFit k core.state (map Raw (take n s.points.items))) made.step
    (subst (λ l. AllFit core.step core.state (map Raw (take n l))) points no.fit_before))
    (subst (λ k. most_records < length (replay k core.state (map Raw (take n s.points.items))).records + 2) made.step
    (subst (λ l. most_records < length (replay core.step core.state (map Raw (take n l))).records + 2) points no.full))
    (subst (λ o. IsOverfull o c.args.slots c.args.stored.summary.taken n c.overfull.result) scan.same
    (c.overfull.ensures.value c.args.stored.summary.taken
    (shows_after _ _ (HoldsValue c.args.slots c.args.stored.summary.taken s.lane.used n) scan.same
    (holds_shown def (g.D.Disk.device c.args.dev.now).trace c.args.slots c.args.stored s n scan.within read scan.ok (subst
    (λ l. n < length l) points no.within)))))

pub returns-clause-recovered : goal.returns-clause-recovered
returns-clause-recovered g c def same_step read = grind (arith, recovered_shown)

pub returns-clause-seat : goal.returns-clause-seat
returns-clause-seat g c def read =
    seated_shown def (g.D.Disk.device c.args.dev.now).trace c.args.slots c.args.stored c.in-Ok.scanned c.in-Ok.ensures.within read c.in-Ok.ensures.ok

pub returns-clause-numbered : goal.returns-clause-numbered
returns-clause-numbered g c = grind (arith, numbered_read)
