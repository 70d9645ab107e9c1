use Rattle.std.proofs.Common.{◌≡◌, ◌∙◌, refl, sym, subst, arith}
use Rattle.std.proofs.lemmas.Result.{err_from_is_err_and}
use Rattle.trend_model.specs.State.{State}
use Rattle.device_layout.specs.{Readings.HasLayout, Readings.IsReadFrom, Recovery.IsRecovered, declared.header.Header.Header, declared.layout_reader.Stored.Stored}
use Rattle.device_layout.proofs.{Reading.cause_before, Shows.shows_after, Shows.shows_before, Shows.if_ok}
use Rattle.disk_model.specs.{Calls.Shows, Traces.Trace}
use Rattle.trend_num.specs.{TagDef}
use Rattle.crash_recovery.specs.{IsSeat, OpensAs}
use Rattle.crash_recovery.proofs.Openings.{cause_full, counts_full, counts_on}
use Rattle.crash_recovery.proofs.opening.read_back.Goals.{After-tuned}
use Rattle.crash_recovery.proofs.opening.read_back.Given as given
use Rattle.crash_recovery.proofs.opening.read_back.Goals as goal

pub returns-in_err-stored-clause-cause : goal.returns-in_err-stored-clause-cause
returns-in_err-stored-clause-cause g c =
    let def = c.args.def.now in
    let o = (g.D.Disk.device c.args.dev.now).trace in
    let h = c.in_ok-header.header in
    let same = c.in_ok-header.ensures.same in
    let p = err_from_is_err_and c.from_residual-in_err-stored.result c.from_residual-in_err-stored.ensures.1 in
    rw (p.1, p.2) (cause_before def o _ _ same (c.in_err-stored.ensures.cause def refl
    (shows_after o _ (HasLayout def h.slots h.def.tuning) same c.in_ok-header.ensures.layout)))

-- what was read of the parts is still on the device
parts_left : (def : TagDef) (o p q : Trace) (h : Header) (x : Stored) → p ≡ o → q ≡ p
    → (Shows p (HasLayout def h.slots h.def.tuning) → Shows p (IsReadFrom def h.slots x)) → Shows o (HasLayout def h.slots h.def.tuning)
    → Shows q (IsReadFrom def h.slots x)
parts_left def o p q h x first second read layout = grind (arith, shows_after)

pub returns-in_err-seat-clause-cause : goal.returns-in_err-seat-clause-cause
returns-in_err-seat-clause-cause g c =
    let def = c.args.def.now in
    let read = parts_left def (g.D.Disk.device c.args.dev.now).trace _ _ c.in_ok-header.header c.in_ok-stored.stored c.in_ok-header.ensures.same
    c.in_ok-stored.ensures.same (c.in_ok-stored.ensures.stored def refl) c.in_ok-header.ensures.layout in
    let p = err_from_is_err_and c.from_residual-in_err-seat.result c.from_residual-in_err-seat.ensures.1 in
    rw (p.1, p.2) (cause_before def (g.D.Disk.device c.args.dev.now).trace _ _ (c.in_ok-stored.ensures.same ∙ c.in_ok-header.ensures.same)
    (c.in_err-seat.ensures.cause def refl read))

pub returns-in_err-seat-clause-counts : goal.returns-in_err-seat-clause-counts
returns-in_err-seat-clause-counts g c = grind (arith, err_from_is_err_and, counts_on)

-- what was read of the parts, once the tag is tuned
read : (g : given.Over) (c : After-tuned g) → Shows (g.D.Disk.device c.read_parts.new.dev).trace
    (IsReadFrom c.args.def.now c.in_ok-header.header.slots c.in_ok-stored.stored)
read g c = parts_left c.args.def.now (g.D.Disk.device c.args.dev.now).trace _ _ c.in_ok-header.header c.in_ok-stored.stored
    c.in_ok-header.ensures.same c.in_ok-stored.ensures.same (c.in_ok-stored.ensures.stored c.args.def.now refl) c.in_ok-header.ensures.layout

-- the state of the tag is what the device recovers
recovered : (g : given.Over) (c : After-tuned g) → Shows (g.D.Disk.device c.args.dev.now).trace (λ x. IsRecovered c.args.def.now x c.in_ok-seat.core.state)
recovered g c =
    shows_before (g.D.Disk.device c.args.dev.now).trace _ (λ x. IsRecovered c.args.def.now x c.in_ok-seat.core.state)
    (c.in_ok-stored.ensures.same ∙ c.in_ok-header.ensures.same) (c.in_ok-seat.ensures.recovered c.args.def.now refl (read g c))

pub returns-clause-opened : goal.returns-clause-opened
returns-clause-opened g c =
    let def = c.args.def.now in
    let o = (g.D.Disk.device c.args.dev.now).trace in
    let s = c.in_ok-seat.core.state in
    if_ok c.tuned.result (λ r. OpensAs def r.retuned s r.core.state)
    (λ r. Shows o (λ x. (t : State) × IsRecovered def x t × OpensAs def r.retuned t r.core.state))
    (λ r opens. (s, recovered g c, opens)) c.tuned.ensures.opened

pub returns-clause-seat : goal.returns-clause-seat
returns-clause-seat g c =
    let o = (g.D.Disk.device c.args.dev.now).trace in
    let placed = shows_before o _ (IsSeat c.in_ok-seat.seat) (c.in_ok-stored.ensures.same ∙ c.in_ok-header.ensures.same)
    (c.in_ok-seat.ensures.seat c.args.def.now (read g c)) in
    if_ok c.tuned.result (λ r. r.seat ≡ c.in_ok-seat.seat) (λ r. Shows o (IsSeat r.seat))
    (λ r same. subst (λ p. Shows o (IsSeat p)) (sym same) placed) c.tuned.ensures.seat

pub returns-clause-cause : goal.returns-clause-cause
returns-clause-cause g c =
    cause_full c.args.def.now (g.D.Disk.device c.args.dev.now).trace c.in_ok-seat.core.state c.tuned.result (recovered g c) c.tuned.ensures.full
    c.tuned.ensures.many c.tuned.ensures.other

pub returns-clause-counts : goal.returns-clause-counts
returns-clause-counts g c = grind (arith, counts_full)
