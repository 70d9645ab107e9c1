-- What a cell's type keeps, after a commit.
use Rattle.std.proofs.Common.{◌≡◌, ℕ, ◌+◌, ◌-◌, ◌<◌, ◌≤◌, ◌^◌, Bool, true, false, List, [], ◌∷◌, ◌++◌, length, map, take, drop, min, nat_eq, if◌then◌else◌, All, Err, le_refl, le_trans, refl, sym, ◌∙◌, ap, subst, arith, length-append}
use Rattle.std.proofs.Common.{length-drop}
use Rattle.std.proofs.lemmas.List.{append-nil, map-append, take-append-le, take-append-drop, take_all}
use Rattle.std.proofs.lemmas.List.Elements.{All-drop}
use Rattle.std.specs.Prelude.{IsErrOf, MatchBool}
use Rattle.std.proofs.Math.Seq.{take-add, drop-append_seam}
use Rattle.trend_num.specs.{Point, TagDef, InRange, Rec}
use Rattle.trend_model.specs.{Event, Raw}
use Rattle.trend_model.specs.State.{State, after, replay}
use Rattle.disk_model.specs.{Trace, moment, Device, CountsFault, Rose, During, LeftSince}
use Rattle.disk_model.proofs.Moments.{weaker}
use Rattle.crash_recovery.specs.{AllRecover, Logged}
use Rattle.device_layout.specs.{AllFit}
use Rattle.crash_recovery.proofs.Replays.{replay_append}
use Rattle.tag_core.specs.Core.{Core}
use Rattle.std.proofs.lemmas.Bool.Decides.{nat_tests}
use Rattle.tag_cell.specs.{Acked, CommitNo, Entry, TagOpening, CellWalk, cell_start, cell_walked, taken, last_records, acked_at, opened, state_after, replayed, IsTapeReplayed, GoesOnBy, IsCountable, IsSafe, RecoversPart, count_written}
use Rattle.tag_cell.specs.{AreTakesAcknowledged, IsCommitted, IsInStep, IsKept, ToldCell, Waits, takes_waiting}
use Rattle.tag_cell.specs.declared.entry.CommitNo.TheVariants as no
use Rattle.tag_cell.specs.declared.entry.Entry.TheVariants.{Commit}
use Rattle.tag_cell.proofs.Tapes.{taken-append, walked-push, fit-push, last_records-append}
use Rattle.tag_cell.proofs.Entries.{countable_before, points-end}
use Rattle.tag_cell.proofs.Crashes.{acked_at-most, part_behind, safe_commit, taken-take}

-- ---- what takes_waiting

-- the values of a tape are those before a place and those from it on
pub taken-parts : (tape rest : List Entry) (next : ℕ) → rest ≡ drop next tape → taken tape ≡ taken (take next tape) ++ taken rest
taken-parts tape rest next is = ap taken (sym (take-append-drop next tape)) ∙ (taken-append (take next tape) (drop next tape)
    ∙ ap (λ l. taken (take next tape) ++ taken l) (sym is))

-- the entries before a place, and some of those from it on
pub take-parts : (tape tape' rest more : List Entry) (next n : ℕ) → rest ≡ drop next tape → next ≤ length tape → n ≤ length rest
    → tape' ≡ tape ++ more → take (next + n) tape' ≡ take next tape ++ take n rest
take-parts tape tape' rest more next n is within few longer =
    let reach : next + n ≤ length tape = omega (arith, ap length is, length-drop next tape, few, within) in
    ap (take (next + n)) longer ∙ (take-append-le (next + n) tape more reach
    ∙ (take-add next n tape ∙ ap (λ l. take next tape ++ take n l) (sym is)))

-- the state after the acknowledged values, from which the waiting ones continue
abbrev pub acked_state : TagDef → TagOpening → List Entry → ℕ → State
acked_state def o tape next = state_after def.step o (taken (take next tape))

-- these values find room after those
fit_behind : (step : Bool) (s : State) (xs ys : List Event) → AllFit step s (xs ++ ys) → AllFit step (replay step s xs) ys
fit_behind step s [] ys fit = fit
fit_behind step s (x ∷ xs) ys fit = fit_behind step (after step s x) xs ys fit.1

-- the state continues by the waiting values
pub goes_by : (def : TagDef) (o : TagOpening) (tape rest : List Entry) (next : ℕ) (core : Core) (content : List Rec) (s : State) (acked : ℕ)
    → IsTapeReplayed def o tape core.state acked → IsInStep def o tape core content → rest ≡ drop next tape
    → GoesOnBy def (acked_state def o tape next) core.step core.state (taken rest)
goes_by def o tape rest next core content s acked is in_step from =
    let all : map Raw (taken tape) ≡ map Raw (taken (take next tape)) ++ map Raw (taken rest) =
    ap (map Raw) (taken-parts tape rest next from) ∙ map-append Raw (taken (take next tape)) (taken rest) in
    record {
      same_step = in_step.same_step;
      fits = fit_behind def.step (opened o) (map Raw (taken (take next tape))) (map Raw (taken rest))
          (subst (AllFit def.step (opened o)) all in_step.fits);
      state = is.stands ∙ (ap (replay def.step (opened o)) all
          ∙ replay_append def.step (opened o) (map Raw (taken (take next tape))) (map Raw (taken rest)));
    }

-- ---- after the commit

-- the tape replays
pub commit_replayed : (def : TagDef) (o : TagOpening) (tape tape' : List Entry) (s : State) (acked acked' m : ℕ)
    → IsTapeReplayed def o tape s acked → acked < acked' → acked' ≤ o.summary.taken + length (taken tape)
    → (cell_walked (cell_start o) tape).moment < m → tape' ≡ tape ++ Commit m acked' ∷ [] → IsTapeReplayed def o tape' s acked'
commit_replayed def o tape tape' s acked acked' m is more within later longer =
    let e : Entry = Commit m acked' in
    subst (λ t. IsTapeReplayed def o t s acked') (sym longer) (record {
      tuning = is.tuning;
      entries = fit-push (replayed def.step o) def.step o (cell_start o) tape e is.entries (record {
        more = omega (arith, is.acked_are);
        within = omega (arith, within, ap length (points-end o tape));
        later = later;
      });
      stands = is.stands ∙ ap (state_after def.step o) (sym (taken-append tape (e ∷ []) ∙ append-nil (taken tape)));
      acked_are = ap (λ (w : CellWalk). w.acked) (sym (walked-push (cell_start o) tape e));
    })

-- the written values wait no more
pub commit_waits : (o : TagOpening) (tape tape' rest more : List Entry) (next n durable durable' acked acked' : ℕ)
    → Waits o tape next durable acked → rest ≡ drop next tape → n ≤ length rest → tape' ≡ tape ++ more
    → acked' ≡ acked + length (taken (take n rest)) → durable' ≡ last_records durable (take n rest)
    → Waits o tape' (next + n) durable' acked'
commit_waits o tape tape' rest more next n durable durable' acked acked' is from few longer acks durables =
    let parts = take-parts tape tape' rest more next n from is.within few longer in
    let all : taken (take (next + n) tape') ≡ taken (take next tape) ++ taken (take n rest) =
    ap taken parts ∙ taken-append (take next tape) (take n rest) in
    record {
      within = omega (arith, is.within, ap length from, length-drop next tape, few, ap length longer, length-append tape more);
      acked_are = omega (arith, acks, is.acked_are, ap length all, length-append (taken (take next tape)) (taken (take n rest)));
      durable_are = durables ∙ (ap (λ (k : ℕ). last_records k (take n rest)) is.durable_are
          ∙ (sym (last_records-append (length o.recs.items) (take next tape) (take n rest))
          ∙ ap (last_records (length o.recs.items)) (sym parts)));
    }

-- the state after the values that are acknowledged then
pub acked_after : (def : TagDef) (o : TagOpening) (tape tape' rest more : List Entry) (next n : ℕ) → rest ≡ drop next tape
    → next ≤ length tape → n ≤ length rest → tape' ≡ tape ++ more
    → replay def.step (acked_state def o tape next) (map Raw (taken (take n rest))) ≡ acked_state def o tape' (next + n)
acked_after def o tape tape' rest more next n from within few longer =
    let all : taken (take (next + n) tape') ≡ taken (take next tape) ++ taken (take n rest) =
    ap taken (take-parts tape tape' rest more next n from within few longer) ∙ taken-append (take next tape) (take n rest) in
    sym (ap (state_after def.step o) all ∙ (ap (replay def.step (opened o)) (map-append Raw (taken (take next tape)) (taken (take n rest)))
    ∙ replay_append def.step (opened o) (map Raw (taken (take next tape))) (map Raw (taken (take n rest)))))

-- a crash during the calls of a commit leaves some of all values, and all that were acknowledged
pub during_commit : (def : TagDef) (o : TagOpening) (tape rest : List Entry) (next durable acked : ℕ) (old new : Trace)
    → Waits o tape next durable acked → rest ≡ drop next tape
    → During old new (RecoversPart def (acked_state def o tape next) (taken rest) 0)
    → During old new (RecoversPart def (opened o) (taken tape) (acked - o.summary.taken))
during_commit def o tape rest next durable acked old new is from during =
    let least : length (taken (take next tape)) ≡ acked - o.summary.taken = omega (arith, is.acked_are) in
    weaker old new (RecoversPart def (acked_state def o tape next) (taken rest) 0) (RecoversPart def (opened o) (taken tape) (acked - o.summary.taken))
    (λ c part. subst (λ (n : ℕ). RecoversPart def (opened o) (taken tape) n c) least
    (subst (λ (ps : List Point). RecoversPart def (opened o) ps (length (taken (take next tape))) c) (sym (taken-parts tape rest next from))
    (part_behind def (opened o) (taken (take next tape)) (taken rest) c part))) during

-- ---- what a commit finds

-- a part of a tape that is borrowed to its end
pub rest_is : (es tape : List Entry) (next : ℕ) → es ≡ tape → take (length es - next) (drop next es) ≡ drop next tape
rest_is es tape next same = take_all (length es - next) (drop next es) (omega (arith, length-drop next es)) ∙ ap (drop next) same

-- a part of it from one place on before another
pub part_is : (es tape : List Entry) (next n upto : ℕ) → es ≡ tape → upto ≡ next + n → take (upto - next) (drop next es) ≡ take n (drop next tape)
part_is es tape next n upto same is = let e : upto - next ≡ n = omega (arith, is) in
    ap (λ (k : ℕ). take k (drop next es)) e ∙ ap (λ l. take n (drop next l)) same

-- so many values wait
pub waiting : (def : TagDef) (o : TagOpening) (tape rest : List Entry) (next durable acked : ℕ) (core : Core) (content : List Rec)
    → IsInStep def o tape core content → Waits o tape next durable acked → rest ≡ drop next tape
    → acked + length (taken rest) ≡ core.state.summary.taken
waiting def o tape rest next durable acked core content in_step is from =
    omega (arith, in_step.counted, is.acked_are, ap length (taken-parts tape rest next from), length-append (taken (take next tape)) (taken rest))

-- all of them are in range
pub rest_range : (def : TagDef) (o : TagOpening) (tape rest : List Entry) (next : ℕ) (core : Core) (content : List Rec)
    → IsInStep def o tape core content → rest ≡ drop next tape → All InRange (taken rest)
rest_range def o tape rest next core content in_step from =
    let front : List Point = taken (take next tape) in
    subst (All InRange) (drop-append_seam front (taken rest))
    (All-drop InRange (length front) (front ++ taken rest)
    (subst (All InRange) (taken-parts tape rest next from) in_step.in_range))

-- at no moment more is acknowledged than now
pub most_acked : (def : TagDef) (o : TagOpening) (tape : List Entry) (s : State) (acked : ℕ) → IsTapeReplayed def o tape s acked
    → (t : ℕ) → acked_at t o.summary.taken tape ≤ acked
most_acked def o tape s acked is t = omega (
  arith,
  is.acked_are,
  acked_at-most (replayed def.step o) def.step o (cell_start o) tape t o.summary.taken (le_refl o.summary.taken) is.entries,
)

-- a crash during the device work of a commit
pub commit_during : (def : TagDef) (o : TagOpening) (tape rest : List Entry) (next durable acked : ℕ) (core : Core) (content : List Rec)
    (failed : Bool) (old new : Device)
    → IsTapeReplayed def o tape core.state acked → IsInStep def o tape core content → Waits o tape next durable acked
    → IsKept def o tape next failed old → failed ≡ false → rest ≡ drop next tape
    → (core.state.summary.taken < 10 ^ 18 → (d : TagDef) (s : State) → AllRecover d old.trace s
    → GoesOnBy d s core.step core.state (taken rest) → During old.trace new.trace (RecoversPart d s (taken rest) 0))
    → IsCountable o tape → During old.trace new.trace (RecoversPart def (opened o) (taken tape) (acked - o.summary.taken))
commit_during def o tape rest next durable acked core content failed old new replays in_step takes_waiting kept fine from work few =
    during_commit def o tape rest next durable acked old.trace new.trace takes_waiting from
    (work (omega (arith, few, in_step.counted)) def (acked_state def o tape next) (kept.recovers fine few)
    (goes_by def o tape rest next core content core.state acked replays in_step from))

-- ---- a refused commit

-- the device keeps what it kept
pub kept_refused : {D : Type 0} (device : D → Device) (def : TagDef) (o : TagOpening) (tape : List Entry)
    (next : ℕ) (old new : Logged D) (e : CommitNo)
    → IsKept def o tape next old.failed (device old.dev) → old.failed ≡ false
    → (IsErrOf {T = ℕ} (Err e) no.Broken → ⊥) → (IsErrOf {T = ℕ} (Err e) no.WantOfMemory → new ≡ old)
    → (IsErrOf {T = ℕ} (Err e) no.DeviceFault → new.failed ≡ true)
    → CountsFault {T = ℕ} (Err e) no.DeviceFault (device old.dev).faults (device new.dev).faults → moment (device old.dev).trace ≤ moment (device new.dev).trace
    → IsKept def o tape next new.failed (device new.dev)
kept_refused device def o tape next old new no.Broken is fine unbroken untouched failed cause later = absurd (unbroken refl)
kept_refused {D} device def o tape next old new no.WantOfMemory is fine unbroken untouched failed cause later =
    subst (λ (j : Logged D). IsKept def o tape next j.failed (device j.dev)) (sym (untouched refl)) is
kept_refused device def o tape next old new no.DeviceFault is fine unbroken untouched failed cause later =
    let broke : new.failed ≡ true = failed refl in
    record {
      recovers = λ whole. cc (broke, whole);
      past = le_trans is.past later;
      opened_before = le_trans is.opened_before later;
      faultless = λ whole. cc (broke, whole);
      cause = λ _. subst (λ (n : ℕ). Rose n (device new.dev).faults) (is.faultless fine) (cause.failed refl);
    }

-- ---- a commit

-- some values are written, and no more than wait
pub written_some : (free n : ℕ) → 0 < n → 0 < count_written free n
written_some free n some = either_some (nat_eq free 0)
  where
    either_some : (b : Bool) → 0 < (if b then n else min 64 n)
    either_some true = some
    either_some false = omega (arith, some)

pub written_most : (free n : ℕ) → count_written free n ≤ n
written_most free n = either_most (nat_eq free 0)
  where
    either_most : (b : Bool) → (if b then n else min 64 n) ≤ n
    either_most true = le_refl n
    either_most false = omega arith

-- the device keeps what is acknowledged then
pub commit_kept : (def : TagDef) (o : TagOpening) (tape tape' rest : List Entry) (next n acked' : ℕ) (failed failed' : Bool)
    (old new : Device) (core : Core) (content : List Rec) (acked : ℕ)
    → IsTapeReplayed def o tape core.state acked → IsInStep def o tape core content → next ≤ length tape
    → IsKept def o tape next failed old → failed ≡ false → failed' ≡ false → rest ≡ drop next tape → n ≤ length rest
    → (core.state.summary.taken < 10 ^ 18 → (d : TagDef) (s : State) → AllRecover d old.trace s
    → GoesOnBy d s core.step core.state (taken rest) → AllRecover d new.trace (replay d.step s (map Raw (taken (take n rest)))))
    → moment old.trace < moment new.trace → new.faults ≡ old.faults → tape' ≡ tape ++ Commit (moment new.trace) acked' ∷ []
    → IsKept def o tape' (next + n) failed' new
commit_kept def o tape tape' rest next n acked' failed failed' old new core content acked replays in_step within kept fine fine' from few_entries work later same longer = record {
  recovers = λ _ few.
      let few' : IsCountable o tape = countable_before o tape tape' (Commit (moment new.trace) acked' ∷ []) longer few in
      subst (AllRecover def new.trace) (acked_after def o tape tape' rest (Commit (moment new.trace) acked' ∷ []) next n from within few_entries longer)
      (work (omega (arith, few', in_step.counted)) def (acked_state def o tape next) (kept.recovers fine few')
      (goes_by def o tape rest next core content core.state acked replays in_step from));
  past = let e : (cell_walked (cell_start o) tape').moment ≡ moment new.trace =
      ap (λ l. (cell_walked (cell_start o) l).moment) longer
      ∙ ap (λ (w : CellWalk). w.moment) (walked-push (cell_start o) tape (Commit (moment new.trace) acked')) in omega (arith, e);
  opened_before = omega (arith, kept.opened_before, later);
  faultless = λ _. same ∙ kept.faultless fine;
  cause = λ broke. cc (broke, fine');
}

-- what a crash leaves is safe then
pub commit_safe : (def : TagDef) (o : TagOpening) (tape tape' : List Entry) (trace : Trace) (next n acked' : ℕ)
    → IsSafe def o tape (LeftSince trace) → tape' ≡ tape ++ Commit (moment trace) acked' ∷ [] → next + n ≤ length tape
    → acked' ≡ o.summary.taken + length (taken (take (next + n) tape'))
    → (IsCountable o tape' → AllRecover def trace (acked_state def o tape' (next + n)))
    → IsSafe def o tape' (LeftSince trace)
commit_safe def o tape tape' trace next n acked' safe longer within are recovers =
    let k : ℕ = next + n in
    let front : take k tape' ≡ take k tape = ap (take k) longer ∙ take-append-le k tape (Commit (moment trace) acked' ∷ []) within in
    let same : taken tape' ≡ taken tape = ap taken longer ∙ (taken-append tape (Commit (moment trace) acked' ∷ []) ∙ append-nil (taken tape)) in
    let count : ℕ = length (taken (take k tape)) in
    let values : taken (take k tape') ≡ take count (taken tape) = ap taken front ∙ taken-take tape k in
    safe_commit def o tape tape' trace acked' count safe longer
    (omega (arith, are, ap (λ l. length (taken l)) front))
    (omega (arith, ap length (ap taken (sym (take-append-drop k tape)) ∙ taken-append (take k tape) (drop k tape)), length-append (taken (take k tape)) (taken (drop k tape))))
    (λ few. subst (λ (ps : List Point). AllRecover def trace (state_after def.step o ps)) values
    (recovers (omega (arith, few, ap length same))))

-- ---- what a commit answers

abbrev pub told : {D : Type 0} → TagDef → TagOpening → State → Logged D → ℕ → List Entry → ToldCell D
told def o state journal room tape = record { def = def; opening = o; tape = tape; state = state; journal = journal; room = room }

-- something waited, and was acknowledged
pub is_committed : {D : Type 0} (before now : ℕ) (a : Acked) (old new : ToldCell D) → 0 < takes_waiting old → AreTakesAcknowledged before now a old new
    → IsCommitted before now a old new
is_committed before now a old new some acked = go (nat_eq (takes_waiting old) 0) refl
  where
    not_none : (n : ℕ) → 0 < n → nat_eq n 0 ≡ true → ⊥
    not_none n less e = grind (arith, nat_tests)

    go : (b : Bool) → nat_eq (takes_waiting old) 0 ≡ b
        → MatchBool b ((new ≡ old) × (a ≡ record { acked = old.journal.acked; waiting = 0 })) (AreTakesAcknowledged before now a old new)
    go true is = absurd (not_none (takes_waiting old) some is)
    go false is = acked

-- a cell with another tape
pub with_tape : {D : Type 0} (def : TagDef) (o : TagOpening) (state : State) (journal : Logged D) (room : ℕ) (tape tape' : List Entry)
    → tape' ≡ tape → told def o state journal room tape' ≡ told def o state journal room tape
with_tape def o state journal room tape tape' same = ap (told def o state journal room) same
