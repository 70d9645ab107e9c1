use Rattle.std.proofs.Common.{◌≡◌, ◌+◌, ◌-◌, ◌∙◌, min, arith, ap, sym, subst}
use Rattle.event_queue.specs.{slot_at, count_in}
use Rattle.device_layout.proofs.Shows.{shows, shows_before}
use Rattle.crash_recovery.proofs.LanePlaces.{IsCountedTo, more_shown, value_shown, never_shown}
use Rattle.crash_recovery.proofs.replay.value_place.Goals as goal

pub returns-then-rest-count-clause-place : goal.returns-then-rest-count-clause-place
returns-then-rest-count-clause-place g c taken holds =
    let slots = c.args.slots in
    let j = c.loop-j.j in
    let count = shows_before _ _ (λ c'. c.in_ok-count_at.field-0 ≡ min 64 (count_in (slot_at slots c' j)))
    c.loop-j.invariant.same c.in_ok-count_at.ensures.count in
    value_shown (g.D.Disk.device c.args.dev.now).trace slots taken c.args.used c.args.number j c.loop-j.rest c.in_ok-count_at.field-0 _ c.requires.within
    (omega arith) holds count (omega (arith, c.if-rest-count.true, c.from-count.ensures))
    (c.loop-j.invariant.counted taken holds) c.value_start.ensures

pub loop-j-preserved : goal.loop-j-preserved
loop-j-preserved g c =
    let slots = c.args.slots in
    let j = c.loop-j.j in
    let m = c.in_ok-count_at.field-0 in
    let read = c.in_ok-count_at.ensures in
    let so_far = c.loop-j.invariant in
    let count = shows_before _ _ (λ c'. m ≡ min 64 (count_in (slot_at slots c' j))) so_far.same read.count in
    record {
      same = read.same ∙ so_far.same;
      faults = read.counts.passed ∙ so_far.faults;
      handed = read.handed ∙ so_far.handed;
      counted = λ taken holds. shows (g.D.Disk.device c.args.dev.now).trace _ (IsCountedTo slots taken c.args.number (j + 1)
          (c.loop-j.rest - c.from-count.result))
          (λ c' so. subst (λ k. IsCountedTo slots taken c.args.number (j + 1) k c') (ap (λ k. c.loop-j.rest - k)
          (sym c.from-count.ensures)) so)
          (more_shown (g.D.Disk.device c.args.dev.now).trace slots taken c.args.used c.args.number j c.loop-j.rest m c.requires.within
          (omega arith) holds count
          (omega (arith, c.if-rest-count.false, c.from-count.ensures)) (so_far.counted taken holds));
    }

pub returns-clause-place : goal.returns-clause-place
returns-clause-place g c taken holds =
    never_shown (g.D.Disk.device c.args.dev.now).trace c.args.slots taken c.args.used c.args.number c.loop-j.j c.loop-j.rest _
    c.requires.within c.loop-j-test.false (omega arith) holds (c.loop-j.invariant.counted taken holds)
