use Rattle.std.proofs.Common.{◌≡◌, ◌∙◌, ◌+◌, ◌<◌, ◌^◌, IfOk, length, ap, refl, sym, subst, true, false, arith}
use Rattle.disk_model.specs.{Gates.IsNew, Calls.Shows, Moments.During, Synced, noted, moment, Trace}
use Rattle.crash_recovery.specs.{checkpoint_calls, AllRecover, GoesOnFrom, HasSlots, IsTagLeftOrSame, IsOpenedAs, StaysSame, RecoversThen, IsReadAs, LeavesFree, OpensAt}
use Rattle.trend_num.specs.{TagDef}
use Rattle.trend_model.specs.State.{State}
use Rattle.device_layout.specs.{Recovers}
use Rattle.device_layout.proofs.Shows.{if_ok, if_ok₂, if_err}
use Rattle.crash_recovery.proofs.Openings.{Promises, during_same, opened_shown, recovers_read, stays_retuned, recovers_retuned, stays_read, now_read, now_retuned}
use Rattle.crash_recovery.proofs.Afterwards.{free_read, free_retuned, layout_retuned, opens_read, opens_retuned, synced_read, synced_retuned}
use Rattle.crash_recovery.proofs.opening.open_tag.Goals as goal

-- what was read, where it was retuned, as the device that the journal has shows it, and what a crash left of that on the way
read_retuned : (g : _) (c : goal.After-with_checkpoint g)
    → IsReadAs c.args.def.now (g.D.Disk.device c.args.dev).trace (g.D.Disk.device c.new-2.result.dev).trace true c.in-Ok.read.core.state
read_retuned g c = grind arith

left_retuned : (g : _) (c : goal.After-with_checkpoint g)
    → During (g.D.Disk.device c.args.dev).trace (g.D.Disk.device c.new-2.result.dev).trace
    (IsTagLeftOrSame c.args.def.now (g.D.Disk.device c.args.dev).trace)
left_retuned g c = grind (arith, during_same)

-- what the checkpoint promises of each image until then
stays : (g : _) (c : goal.After-with_checkpoint g) (x : Trace)
    → Promises (g.D.Disk.device c.new-2.result.dev).trace x c.in-Ok.read.core.step c.in-Ok.read.core.state
    → StaysSame c.args.def.now (g.D.Disk.device c.args.dev).trace x
stays g c x promise = stays_retuned _ _ _ x c.in-Ok.read.core.step c.in-Ok.read.core.state c.in-Ok.ensures.step (read_retuned g c)
    (left_retuned g c) promise

pub returns-then-read-clause-any_moment : goal.returns-then-read-clause-any_moment
returns-then-read-clause-any_moment g c =
    if_ok c.with_checkpoint.result _ _ (λ x promise. stays g c (g.D.Disk.device x.journal.dev).trace promise)
    c.with_checkpoint.ensures.any_moment

pub returns-then-read-clause-any_moment_refused : goal.returns-then-read-clause-any_moment_refused
returns-then-read-clause-any_moment_refused g c =
    if_err c.with_checkpoint.result _ _ (λ x promise. stays g c (g.D.Disk.device x.dev).trace promise)
    c.with_checkpoint.ensures.any_moment_refused

pub returns-then-read-clause-opened : goal.returns-then-read-clause-opened
returns-then-read-clause-opened g c =
    let def = c.args.def.now in
    let o = (g.D.Disk.device c.args.dev).trace in
    let core = c.in-Ok.read.core in
    if_ok c.with_checkpoint.result (λ x. x.core ≡ core)
    (λ x. Shows o (λ y. (s : State) × Recovers def y s × IsOpenedAs def s x.core.state))
    (λ x same. subst (λ k. Shows o (λ y. (s : State) × Recovers def y s × IsOpenedAs def s k.state)) (sym same)
    (opened_shown def o (g.D.Disk.device c.read_tag.new.dev).trace c.in-Ok.read.retuned core.state c.in-Ok.ensures.opened))
    c.with_checkpoint.ensures.core

-- what holds once a checkpoint has made the retuned tag durable
then_kept : (g : _) (c : goal.After-with_checkpoint g) (P : Trace → State → Type 0)
    → let core = c.in-Ok.read.core in
    ((x : Trace) → (core.state.summary.taken < 10 ^ 18 → (d : TagDef) (s : State)
    → AllRecover d (g.D.Disk.device c.new-2.result.dev).trace s → GoesOnFrom d s core.step core.state → AllRecover d x core.state)
    → P x core.state)
    → IfOk c.with_checkpoint.result (λ x. P (g.D.Disk.device x.journal.dev).trace x.core.state)
then_kept g c P holds =
    let core = c.in-Ok.read.core in
    if_ok₂ c.with_checkpoint.result (λ x. core.state.summary.taken < 10 ^ 18 → (d : TagDef) (s : State)
    → AllRecover d (g.D.Disk.device c.new-2.result.dev).trace s
    → GoesOnFrom d s core.step core.state → AllRecover d (g.D.Disk.device x.journal.dev).trace core.state)
    (λ x. x.core ≡ core) (λ x. P (g.D.Disk.device x.journal.dev).trace x.core.state)
    (λ x durable kept. subst (λ k. P (g.D.Disk.device x.journal.dev).trace k.state) (sym kept) (holds _ durable))
    c.with_checkpoint.ensures.durable c.with_checkpoint.ensures.core

pub returns-then-read-clause-recovers : goal.returns-then-read-clause-recovers
returns-then-read-clause-recovers g c =
    let core = c.in-Ok.read.core in
    then_kept g c (RecoversThen c.args.def.now (g.D.Disk.device c.args.dev).trace)
    (λ x durable. recovers_retuned _ (g.D.Disk.device c.args.dev).trace _ x core.step core.state c.in-Ok.ensures.step (read_retuned g c) durable)

pub returns-then-read-clause-recovers_now : goal.returns-then-read-clause-recovers_now
returns-then-read-clause-recovers_now g c =
    let core = c.in-Ok.read.core in
    then_kept g c (λ x state. state.summary.taken < 10 ^ 18 → AllRecover c.args.def.now x state)
    (λ x durable small. now_retuned _ (g.D.Disk.device c.args.dev).trace _ x core.step core.state c.in-Ok.ensures.step
    (read_retuned g c) (durable small))

-- what was read, where it was not retuned, as the device that the journal has shows it
read_else : (g : _) (c : goal.Else-read g)
    → IsReadAs c.args.def.now (g.D.Disk.device c.args.dev).trace (g.D.Disk.device c.new-2.result.dev).trace false c.in-Ok.read.core.state
read_else g c =
    let def = c.args.def.now in
    let o = (g.D.Disk.device c.args.dev).trace in
    let state = c.in-Ok.read.core.state in
    subst (λ j. IsReadAs def o (g.D.Disk.device j.dev).trace false state) (sym c.new-2.ensures)
    (subst (λ b. IsReadAs def o (g.D.Disk.device c.read_tag.new.dev).trace b state) c.if-read.false c.in-Ok.ensures.opened)

pub returns-else-read-clause-recovers : goal.returns-else-read-clause-recovers
returns-else-read-clause-recovers g c = grind (arith, recovers_read, read_else)

pub returns-else-read-clause-recovers_now : goal.returns-else-read-clause-recovers_now
returns-else-read-clause-recovers_now g c = grind (arith, now_read, read_else)

pub returns-else-read-clause-any_moment : goal.returns-else-read-clause-any_moment
returns-else-read-clause-any_moment g c = grind (arith, stays_read, during_same)

pub returns-else-read-clause-opened : goal.returns-else-read-clause-opened
returns-else-read-clause-opened g c = grind (arith, opened_shown)

pub returns-then-read-clause-free : goal.returns-then-read-clause-free
returns-then-read-clause-free g c = if_ok c.with_checkpoint.result _ _
    (λ x all. free_retuned c.args.def.now (g.D.Disk.device c.args.dev).trace _ _ x.journal.slots x.journal.free (read_retuned g c) all)
    c.with_checkpoint.ensures.free

pub returns-then-read-clause-made : goal.returns-then-read-clause-made
returns-then-read-clause-made g c = if_ok c.with_checkpoint.result _ _
    (λ x all. layout_retuned c.args.def.now (g.D.Disk.device c.args.dev).trace _ (g.D.Disk.device x.journal.dev).trace _ c.args.lane_slots (read_retuned g c))
    c.with_checkpoint.ensures.free

pub returns-then-read-clause-synced : goal.returns-then-read-clause-synced
returns-then-read-clause-synced g c = if_ok c.with_checkpoint.result _ _
    (λ x all. synced_retuned c.args.def.now _ _ (g.D.Disk.device x.journal.dev).trace _ (read_retuned g c))
    c.with_checkpoint.ensures.free

pub returns-else-read-clause-free : goal.returns-else-read-clause-free
returns-else-read-clause-free g c =
    subst (λ j. Shows (g.D.Disk.device c.args.dev).trace (LeavesFree c.args.def.now j.slots j.free)) (sym c.new-2.ensures)
    (free_read c.args.def.now (g.D.Disk.device c.args.dev).trace _ _ _ _ (read_else g c) c.in-Ok.ensures.free)

pub returns-else-read-clause-made : goal.returns-else-read-clause-made
returns-else-read-clause-made g c = grind arith

pub returns-else-read-clause-synced : goal.returns-else-read-clause-synced
returns-else-read-clause-synced g c = grind (arith, synced_read)

pub returns-then-read-clause-moment : goal.returns-then-read-clause-moment
returns-then-read-clause-moment g c =
    let def = c.args.def.now in
    let old = c.args.dev in
    let o = (g.D.Disk.device old).trace in
    let core = c.in-Ok.read.core in
    let same = sym c.new-2.ensures in
    let mid = c.new-2.result.dev in
    let unacked : c.new-2.result.acked < core.state.summary.taken =
    subst (λ j. j.acked < core.state.summary.taken) same (c.in-Ok.ensures.unacked c.if-read.true) in
    let synced : Shows o (λ b. (IsNew b → ⊥) → (g.D.Disk.device mid).trace ≡ noted Synced o) =
    subst (λ j. Shows o (λ b. (IsNew b → ⊥) → (g.D.Disk.device j.dev).trace ≡ noted Synced o)) same c.in-Ok.ensures.synced in
    let calls : Shows o (λ b. (IsNew b → ⊥) → moment (g.D.Disk.device mid).trace ≡ moment (g.D.Disk.device old).trace + 1) =
    subst (λ j. Shows o (λ b. (IsNew b → ⊥) → moment (g.D.Disk.device j.dev).trace ≡ moment (g.D.Disk.device old).trace + 1)) same c.in-Ok.ensures.calls in
    if_ok c.with_checkpoint.result
    (λ x. c.new-2.result.acked < core.state.summary.taken → Shows (g.D.Disk.device mid).trace
    (λ b. moment (g.D.Disk.device x.journal.dev).trace ≡ moment (g.D.Disk.device mid).trace + checkpoint_calls (length core.state.records) b))
    (λ x. OpensAt def o (moment (g.D.Disk.device x.journal.dev).trace))
    (λ x put. opens_retuned def o (g.D.Disk.device mid).trace core.state (moment (g.D.Disk.device old).trace) (moment (g.D.Disk.device mid).trace)
    (moment (g.D.Disk.device x.journal.dev).trace) refl (read_retuned g c) synced calls (put unacked))
    c.with_checkpoint.ensures.calls

pub returns-else-read-clause-moment : goal.returns-else-read-clause-moment
returns-else-read-clause-moment g c =
    let def = c.args.def.now in
    let o = (g.D.Disk.device c.args.dev).trace in
    subst (λ j. OpensAt def o (moment (g.D.Disk.device j.dev).trace)) (sym c.new-2.ensures)
    (opens_read def o (g.D.Disk.device c.new-2.result.dev).trace c.in-Ok.read.core.state _ _ refl (read_else g c)
    c.in-Ok.ensures.new_calls c.in-Ok.ensures.calls)

pub returns-then-read-clause-slots : goal.returns-then-read-clause-slots
returns-then-read-clause-slots g c =
    let o = (g.D.Disk.device c.args.dev).trace in
    if_ok c.with_checkpoint.result (λ x. x.journal.slots ≡ c.new-2.result.slots) (λ x. Shows o (HasSlots c.args.lane_slots x.journal.slots))
    (λ x same. subst (λ n. Shows o (HasSlots c.args.lane_slots n)) (sym (same ∙ ap (λ j. j.slots) c.new-2.ensures)) c.in-Ok.ensures.lane)
    c.with_checkpoint.ensures.slots
