use Rattle.std.proofs.Common.{◌≡◌, ◌+◌, ◌≤◌, ◌∙◌, false, sym, subst, arith}
use Rattle.trend_model.specs.State.{State, nothing_taken}
use Rattle.disk_model.specs.{Gates.IsNew, Calls.Shows, Traces.Synced, Traces.noted, Traces.moment}
use Rattle.device_layout.specs.{IsRecovered}
use Rattle.crash_recovery.specs.{HasSlots, OpensAs, IsTagLeftOrSame, IsReadAs, IsSeat, HasFreeAtFirst, free_in}
use Rattle.crash_recovery.proofs.Openings.{synced_during, during_same, made_during, made_as, read_as, slots_made, slots_kept, cause_synced}
use Rattle.crash_recovery.proofs.Afterwards.{free_kept, free_made, begun_before, new_before, shown_always}
use Rattle.crash_recovery.proofs.{Places.seated_again, DeviceReads.shown_so, Turns.on_ok, Turns.ok_always}
use Rattle.disk_model.proofs.Images.{settled}
use Rattle.device_layout.proofs.Shows.{shows_after, if_ok, if_ok₂, if_err}
use Rattle.crash_recovery.proofs.opening.read_tag.Goals as goal

pub returns-in_default-clause-any_moment : goal.returns-in_default-clause-any_moment
returns-in_default-clause-any_moment g c = synced_during _ c.args.def.now _ _ c.sync.ensures.noted

pub returns-in-Ok-true-clause-any_moment : goal.returns-in-Ok-true-clause-any_moment
returns-in-Ok-true-clause-any_moment g c =
    let def = c.args.def.now in
    let same = c.in-Ok-true.ensures.same in
    let blank = shows_after _ _ IsNew same (c.in-Ok-true.ensures.new c.in-Ok-true.field-0-test) in
    made_during def _ _ _ (same ∙ c.in-Ok.ensures.noted) blank (during_same _ _ _ (IsTagLeftOrSame def _) same
    (synced_during _ def _ _ c.sync.ensures.noted)) c.made.ensures.any_moment

pub returns-in-Ok-true-clause-opened : goal.returns-in-Ok-true-clause-opened
returns-in-Ok-true-clause-opened g c =
    let def = c.args.def.now in
    let same = c.in-Ok-true.ensures.same in
    let blank = shows_after _ _ IsNew same (c.in-Ok-true.ensures.new c.in-Ok-true.field-0-test) in
    if_ok₂ c.made.result (λ r. r.core.state ≡ nothing_taken def.tuning) (λ r. r.retuned ≡ false)
    (λ r. IsReadAs def (g.D.Disk.device c.args.dev.now).trace (g.D.Disk.device c.made.new.dev).trace r.retuned r.core.state)
    (λ r core retuned. subst (λ b. IsReadAs def (g.D.Disk.device c.args.dev.now).trace
    (g.D.Disk.device c.made.new.dev).trace b r.core.state) (sym retuned) (made_as def _ _ _ r.core.state (same
    ∙ c.in-Ok.ensures.noted) blank c.made.ensures.any_moment core)) c.made.ensures.core c.made.ensures.retuned

pub returns-in-Ok-true-clause-lane : goal.returns-in-Ok-true-clause-lane
returns-in-Ok-true-clause-lane g c = grind (arith, shows_after, if_ok, slots_made)

pub returns-in-Ok-false-clause-any_moment : goal.returns-in-Ok-false-clause-any_moment
returns-in-Ok-false-clause-any_moment g c =
    let def = c.args.def.now in
    during_same _ _ _ (IsTagLeftOrSame def _) (c.read_back.ensures.same ∙ c.in-Ok-false.ensures.same)
    (synced_during _ def _ _ c.sync.ensures.noted)

pub returns-in-Ok-false-clause-opened : goal.returns-in-Ok-false-clause-opened
returns-in-Ok-false-clause-opened g c =
    let def = c.args.def.now in
    let o = (g.D.Disk.device c.args.dev.now).trace in
    let mid = (g.D.Disk.device c.is_new.new.dev).trace in
    let new = (g.D.Disk.device c.read_back.new.dev).trace in
    let is = c.in-Ok-false.ensures.same ∙ c.in-Ok.ensures.noted in
    if_ok c.read_back.result
    (λ r. Shows mid (λ x. (s : State) × IsRecovered def x s × OpensAs def r.retuned s r.core.state))
    (λ r. IsReadAs def o new r.retuned r.core.state)
    (λ r opened. subst (λ x. IsReadAs def o x r.retuned r.core.state) (sym c.read_back.ensures.same)
    (read_as def o mid r.retuned r.core.state is opened)) c.read_back.ensures.opened

pub returns-in-Ok-false-clause-lane : goal.returns-in-Ok-false-clause-lane
returns-in-Ok-false-clause-lane g c =
    let o = (g.D.Disk.device c.args.dev.now).trace in
    let mid = (g.D.Disk.device c.is_new.new.dev).trace in
    let is = c.in-Ok-false.ensures.same ∙ c.in-Ok.ensures.noted in
    if_ok c.read_back.result (λ r. Shows mid (IsSeat r.seat))
    (λ r. Shows o (HasSlots c.args.lane_slots r.seat.lane.slots))
    (λ r seat. slots_kept o mid _ r.seat is seat) c.read_back.ensures.seat

pub returns-in-Ok-false-clause-cause : goal.returns-in-Ok-false-clause-cause
returns-in-Ok-false-clause-cause g c = grind (arith, if_err, cause_synced)

pub returns-clause-any_moment : goal.returns-clause-any_moment
returns-clause-any_moment g c =
    let def = c.args.def.now in
    during_same _ _ _ (IsTagLeftOrSame def _) c.in-Err.ensures.same (synced_during _ def _ _ c.sync.ensures.noted)

pub returns-in-Ok-true-clause-free : goal.returns-in-Ok-true-clause-free
returns-in-Ok-true-clause-free g c = grind (arith, shows_after, if_ok, free_made)

pub returns-in-Ok-true-clause-made : goal.returns-in-Ok-true-clause-made
returns-in-Ok-true-clause-made g c = grind (arith, on_ok, shown_always)

pub returns-in-Ok-true-clause-synced : goal.returns-in-Ok-true-clause-synced
returns-in-Ok-true-clause-synced g c =
    let o = (g.D.Disk.device c.args.dev.now).trace in
    let mid = (g.D.Disk.device c.is_new.new.dev).trace in
    let new = (g.D.Disk.device c.made.new.dev).trace in
    let same = c.in-Ok-true.ensures.same in
    let blank = shows_after _ _ IsNew same (c.in-Ok-true.ensures.new c.in-Ok-true.field-0-test) in
    on_ok c.made.result (λ made. new_before o mid (new ≡ noted Synced o) (same ∙ c.in-Ok.ensures.noted) blank)
    c.made.ensures.made

pub returns-in-Ok-false-clause-free : goal.returns-in-Ok-false-clause-free
returns-in-Ok-false-clause-free g c =
    let o = (g.D.Disk.device c.args.dev.now).trace in
    let mid = (g.D.Disk.device c.is_new.new.dev).trace in
    let is = c.in-Ok-false.ensures.same ∙ c.in-Ok.ensures.noted in
    if_ok₂ c.read_back.result (λ r. Shows mid (IsSeat r.seat)) (λ r. r.seat.lane.used ≤ r.seat.lane.slots)
    (λ r. Shows o (HasFreeAtFirst r.seat.lane.slots (free_in r.seat)))
    (λ r seat within. free_kept o mid r.seat is within seat) c.read_back.ensures.seat c.read_back.ensures.used

pub returns-in-Ok-false-clause-made : goal.returns-in-Ok-false-clause-made
returns-in-Ok-false-clause-made g c = grind (arith, shows_after, ok_always, begun_before)

pub returns-in-Ok-false-clause-synced : goal.returns-in-Ok-false-clause-synced
returns-in-Ok-false-clause-synced g c = grind (arith, ok_always, shown_always)

pub returns-in-Ok-false-clause-new_calls : goal.returns-in-Ok-false-clause-new_calls
returns-in-Ok-false-clause-new_calls g c = grind (arith, shows_after, ok_always, shown_so, begun_before)

pub returns-in-Ok-false-clause-calls : goal.returns-in-Ok-false-clause-calls
returns-in-Ok-false-clause-calls g c = grind (arith, ok_always, shown_always)

pub returns-in-Ok-true-clause-calls : goal.returns-in-Ok-true-clause-calls
returns-in-Ok-true-clause-calls g c =
    let o = (g.D.Disk.device c.args.dev.now).trace in
    let mid = (g.D.Disk.device c.is_new.new.dev).trace in
    let same = c.in-Ok-true.ensures.same in
    let blank = shows_after _ _ IsNew same (c.in-Ok-true.ensures.new c.in-Ok-true.field-0-test) in
    ok_always c.made.result (new_before o mid (moment (g.D.Disk.device c.made.new.dev).trace ≡ moment o + 1) (same ∙ c.in-Ok.ensures.noted) blank)

pub returns-in-Ok-false-clause-seated : goal.returns-in-Ok-false-clause-seated
returns-in-Ok-false-clause-seated g c = grind (arith, settled, if_ok, seated_again, shows_after)
