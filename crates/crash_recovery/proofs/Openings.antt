-- What each image recovers while a tag's device is opened.
use Rattle.std.proofs.Common.{◌≡◌, ◌⊎◌, inl, inr, ⊎_elim, ℕ, ◌+◌, ◌^◌, ◌<◌, ◌≤◌, Bool, true, false, List, [], ◌∷◌, ◌≢◌, IfErr, OnErr, length, Option, Some, Result, refl, sym, ◌∙◌, ap, subst, arith}
use Rattle.trend_num.specs.{Limits.most_records}
use Rattle.trend_num.specs.declared.{tuning.Tuning.Tuning, tag_def.TagDef.TagDef}
use Rattle.trend_model.specs.{Event, Tune, Origin}
use Rattle.trend_model.specs.State.{Stands, State, nothing_taken, after, after_under}
use Rattle.trend_model.proofs.StateLaw.{stands_after}
use Rattle.disk_model.specs.{Traces.Trace, Traces.Idle, Traces.seen, Traces.noted, Calls.Shows, Gates.IsNew, Traces.Synced, Images.MayLeave, Moments.During, Calls.CountsFault, Calls.IsNoted}
use Rattle.disk_model.proofs.Images.{synced_now, settled}
use Rattle.disk_model.proofs.Moments.{started, goes_on, weaker, in_turn, during_now}
use Rattle.crash_recovery.specs.{Seat, AllRecover, GoesOnFrom, RecoversEither, IsSeat, IsOpenedAs, IsCountable, RecoversSame, IsTagLeftOrSame, StaysSame, RecoversThen, OpensAs, HasSlots, IsReadAs, ImageStands, StandsOpened}
use Rattle.device_layout.specs.{Recovery.IsRecovered, Recovery.Recovers, Readings.IsCause}
use Rattle.device_layout.specs.declared.failure.OpenNo.{TheVariants.DeviceFault, TheVariants.Full, OpenNo}
use Rattle.device_layout.proofs.OneState.{one_state}

-- ---- the sync at the beginning

-- each image until then is one from before
pub synced_during : {E : Type 0} (r : Result (Unit {0}) E) (def : TagDef) (o new : Trace)
    → IsNoted Synced Idle r o new → During o new (IsTagLeftOrSame def o)
synced_during r def o new is = weaker o new (MayLeave o) (IsTagLeftOrSame def o) (λ c may. inl may)
    (goes_on Synced Idle r o o new (MayLeave o) (started o (MayLeave o) (record { each = λ c may. may })) is
    (record { each = λ c may. synced_now r o new c is may }))

-- a fact on what a read gives is one on what it gave before
pub shown_before : (o mid : Trace) (P : List ℕ → Type 0) → mid ≡ noted Synced o → Shows mid P → Shows o P
shown_before t mid P is shows = subst (λ m. Shows m P) is shows

-- the cause of a refusal is one of the device before
pub cause_synced : (def : TagDef) (o mid : Trace) (why : OpenNo) → mid ≡ noted Synced o
    → IsCause def mid why → IsCause def o why
cause_synced def o mid x4 is cause = grind (arith, shown_before)

-- the same images until a later device that is the same
pub during_same : (o mid new : Trace) (P : List ℕ → Type 0) → new ≡ mid → During o mid P → During o new P
during_same o mid new P same during = subst (λ x. During o x P) (sym same) during

-- ---- a new device

new_seen : (o mid : Trace) → mid ≡ noted Synced o → Shows mid IsNew → IsNew (seen o)
new_seen t mid is new = subst (λ m. Shows m IsNew) is new

pub made_during : (def : TagDef) (o mid new : Trace) → mid ≡ noted Synced o → Shows mid IsNew
    → During o mid (IsTagLeftOrSame def o) → During mid new (λ c. Recovers def c (nothing_taken def.tuning))
    → During o new (IsTagLeftOrSame def o)
made_during def o mid new is blank before made =
    let start = nothing_taken def.tuning in
    in_turn o mid new (IsTagLeftOrSame def o) before
    (weaker mid new (λ c. Recovers def c start) (IsTagLeftOrSame def o)
    (λ c recovers. inr (start, start, inl (new_seen o mid is blank, refl), inl (refl, refl), inl recovers)) made)

pub made_as : (def : TagDef) (o mid new : Trace) (r : State) → mid ≡ noted Synced o → Shows mid IsNew
    → During mid new (λ c. Recovers def c (nothing_taken def.tuning)) → r ≡ nothing_taken def.tuning
    → IsReadAs def o new false r
made_as def t mid new r is blank made same =
    let start = nothing_taken def.tuning in (
      start,
      inl (new_seen t mid is blank, refl),
      during_now mid new (λ c. Recovers def c start) made,
      (refl, same),
    )

-- ---- a device whose layout was finished

pub read_as : (def : TagDef) (o mid : Trace) (retuned : Bool) (r : State) → mid ≡ noted Synced o
    → Shows mid (λ c. (s : State) × IsRecovered def c s × OpensAs def retuned s r) → IsReadAs def o mid retuned r
read_as def t mid retuned r is read =
    let found = subst (λ m. Shows m (λ c. (s : State) × IsRecovered def c s × OpensAs def retuned s r)) is read in (
      found.0,
      inr found.1,
      record {
        each = λ c may. subst (λ x. Recovers def x found.0) (grind (arith, settled)) (inr found.1);
      },
      found.2,
    )

-- ---- what is opened

opens_as : (def : TagDef) (retuned : Bool) (s r : State) → OpensAs def retuned s r → IsOpenedAs def s r
opens_as def x2 s r opens = grind arith

pub opened_shown : (def : TagDef) (o new : Trace) (retuned : Bool) (r : State) → IsReadAs def o new retuned r
    → Shows o (λ c. (s : State) × Recovers def c s × IsOpenedAs def s r)
opened_shown def t new retuned r read = (read.0, read.1, opens_as def retuned read.0 r read.3)

-- without a retuning all is as it was read
pub stays_read : (def : TagDef) (o new : Trace) → During o new (IsTagLeftOrSame def o) → StaysSame def o new
stays_read def t new during = λ countable. during

pub recovers_read : (def : TagDef) (o new : Trace) (r : State) → IsReadAs def o new false r
    → RecoversThen def o new r
recovers_read def t new r read = λ countable. subst (λ s. AllRecover def new s) (sym read.3.1) read.2

-- an event counts one at most
counts_under : (step : Bool) (s : State) (e : Event) (u : Option Tuning)
    → (after_under step s e u).summary.taken ≤ s.summary.taken + 1
counts_under step s e x4 = grind arith

-- what a checkpoint of a retuned core promises
abbrev pub Promises : Trace → Trace → Bool → State → Type 0
Promises mid new step r = r.summary.taken < 10 ^ 18 → (def : TagDef) (s : State) → AllRecover def mid s
    → GoesOnFrom def s step r → During mid new (RecoversEither def s r)

module _ (def : TagDef) (t : Trace) (mid new : Trace) (step : Bool) (r : State) (kind : step ≡ def.step)
    (read : IsReadAs def t mid true r) (countable : IsCountable def (seen t)) where
  -- the core continues from what was recovered
  goes : GoesOnFrom def read.0 step r
  goes = (kind, (Tune def.tuning ∷ [], read.3.1))

  few : r.summary.taken < 10 ^ 18
  few = ⊎_elim (λ tuned. absurd (read.3.0 tuned)) (λ less. grind (arith, counts_under)) (countable read.0 read.1)

  either_same : (c : List ℕ) → RecoversEither def read.0 r c → IsTagLeftOrSame def t c
  either_same c either = inr (read.0, r, read.1, inr read.3, either)

pub stays_retuned : (def : TagDef) (o mid new : Trace) (step : Bool) (r : State) → step ≡ def.step → IsReadAs
    def o mid true r → During o mid (IsTagLeftOrSame def o) → Promises mid new step r → StaysSame def o new
stays_retuned def t mid new step r kind read before promise = λ countable.
    in_turn t mid new (IsTagLeftOrSame def t) before
    (weaker mid new (RecoversEither def read.0 r) (IsTagLeftOrSame def t)
    (either_same def t mid new step r kind read countable)
    (promise (few def t mid new step r kind read countable) def read.0 read.2
    (goes def t mid new step r kind read countable)))

pub recovers_retuned : (def : TagDef) (o mid new : Trace) (step : Bool) (r : State) → step ≡ def.step
    → IsReadAs def o mid true r → (r.summary.taken < 10 ^ 18 → (d : TagDef) (s : State) → AllRecover d mid s
    → GoesOnFrom d s step r → AllRecover d new r) → RecoversThen def o new r
recovers_retuned def t mid new step r kind read promise = λ countable.
    promise (few def t mid new step r kind read countable) def read.0 read.2
    (goes def t mid new step r kind read countable)

-- ---- a tag that has no room to be retuned

-- it is refused as full
pub cause_full : {T : Type 0} (def : TagDef) (o : Trace) (s : State) (r : Result T OpenNo) → Shows o (λ c. IsRecovered def c s)
    → IfErr r (λ why. why ≡ Full (length s.records)) → OnErr r (most_records < length s.records + 2)
    → OnErr r (s.summary.tuning ≢ Some def.tuning) → IfErr r (IsCause def o)
cause_full def o s x4 recovered full many other = grind arith

-- and no fault is counted
pub counts_full : {T : Type 0} (r : Result T OpenNo) (n before now : ℕ) → IfErr r (λ why. why ≡ Full n) → now ≡ before
    → CountsFault r DeviceFault before now
counts_full x1 n before now full same = grind arith

-- as many are counted from where the count was before
pub counts_on : {T U : Type 0} (why : OpenNo) (before mid now : ℕ) → mid ≡ before
    → CountsFault {T = T} (Result.Err why) DeviceFault mid now → CountsFault {T = U} (Result.Err why) DeviceFault before now
counts_on why before mid now same counts = grind arith

-- ---- what is recovered now

pub now_read : (def : TagDef) (o mid : Trace) (r : State) → IsReadAs def o mid false r → AllRecover def mid r
now_read def t mid r read = subst (AllRecover def mid) (sym read.3.1) read.2

pub now_retuned : (def : TagDef) (o mid new : Trace) (step : Bool) (r : State) → step ≡ def.step
    → IsReadAs def o mid true r
    → ((d : TagDef) (s : State) → AllRecover d mid s → GoesOnFrom d s step r → AllRecover d new r)
    → AllRecover def new r
now_retuned def t mid new step r kind read promise =
    promise def read.0 read.2 (kind, (Tune def.tuning ∷ [], read.3.1))

-- ---- how many lane slots there are

pub slots_made : (o mid : Trace) (wanted slots : ℕ) → mid ≡ noted Synced o → slots ≡ wanted → Shows mid IsNew
    → Shows o (HasSlots wanted slots)
slots_made o mid wanted slots is same new = grind (arith, shown_before)

pub slots_kept : (o mid : Trace) (wanted : ℕ) (p : Seat) → mid ≡ noted Synced o → Shows mid (IsSeat p)
    → Shows o (HasSlots wanted p.lane.slots)
slots_kept o mid wanted p is seat = grind (arith, shown_before)

-- ---- for which history it stands

-- what is opened of a state that stands for it
stands_opened : (def : TagDef) (o : Origin) (h : List Event) (s r : State) → o.step ≡ def.step → Stands o h s
    → IsOpenedAs def s r → StandsOpened def o h r
stands_opened def o h s r step stands (inl opened) = grind arith
stands_opened def o h s r step stands (inr opened) = inr (
  λ tuned. opened.0 (stands.tuned ∙ ap Some tuned),
  subst (Stands o (Tune def.tuning ∷ h)) (sym opened.1)
      (subst (λ k. Stands o (Tune def.tuning ∷ h) (after k s (Tune def.tuning))) step (stands_after o h
      (Tune def.tuning) s stands)),
)

-- what the image recovers stands for it, since that is one state
recovered_stands : (def : TagDef) (o : Origin) (h : List Event) (c : List ℕ) (s : State) → ImageStands def o h c
    → Recovers def c s → Stands o h s
recovered_stands def o h c s image recovered =
    subst (Stands o h) (one_state def c image.state s image.recovered recovered) image.stands

pub opened_stands : (def : TagDef) (o : Origin) (h : List Event) (c : List ℕ) (s r : State) → ImageStands def o h c
    → Recovers def c s → IsOpenedAs def s r → StandsOpened def o h r
opened_stands def o h c s r image recovered opened =
    stands_opened def o h s r image.same_step (recovered_stands def o h c s image recovered) opened

pub image_stands : (def : TagDef) (o : Origin) (h : List Event) (before c : List ℕ) → ImageStands def o h before
    → RecoversSame def before c → ImageStands def o h c ⊎ ImageStands def o (Tune def.tuning ∷ h) c
image_stands def o h before c image (s, r, recovered, opened, inl same) = inl (record {
  state = s;
  same_step = image.same_step;
  recovered = same;
  stands = recovered_stands def o h before s image recovered;
})
image_stands def o h before c image (s, r, recovered, opened, inr later) =
    ⊎_elim (λ both. inl (stood h both.1)) (λ both. inr (stood (Tune def.tuning ∷ h) both.1))
    (opened_stands def o h before s r image recovered opened)
  where
    stood : (l : List Event) → Stands o l r → ImageStands def o l c
    stood l stands = grind arith
