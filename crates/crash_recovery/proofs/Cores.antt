-- What was read of a device is what it recovers, and where its lane is broken.
use Rattle.std.proofs.Common.{◌≡◌, inl, inr, ℕ, ◌+◌, ◌*◌, ◌<◌, ◌≤◌, Bool, false, List, [], ◌∷◌, length, take, drop, map, Option, Some, refl, sym, ◌∙◌, ap, ap₂, subst, arith, length-append, length-take, length-drop}
use Rattle.std.proofs.lemmas.Bool.{cases_Bool}
use Rattle.trend_num.specs.{Limits.most_records, declared.archive.Rec.Rec, declared.archive.Summary.Summary, declared.tag_def.TagDef.TagDef}
use Rattle.trend_model.specs.{History.Event, History.Raw, State.State, State.replay}
use Rattle.disk_model.specs.{Traces.Trace, Traces.seen, Gates.IsOpen, Calls.Shows}
use Rattle.archive_file.specs.{Records.recs_image, Records.rec_image, Places.HasRecords}
use Rattle.event_queue.specs.{declared.reader.Scanned.Scanned, Slots.lane_end, Slots.gate_of, Slots.batch_at, Lanes.IsLane, Lanes.IsStale, Lanes.lane_points, Damages.IsLaneDamage, Places.IsFilled, Scans.IsWithin, Scans.IsRead}
use Rattle.event_queue.proofs.Found.{scanned_overtaken, scanned_filled}
use Rattle.device_layout.specs.declared.failure.OpenNo.TheVariants.{DeviceFault, Damaged, OtherTag, Full, WantOfMemory}
use Rattle.device_layout.specs.{header_of, start_of, HasSummary, AllFit, IsRecovered, declared.failure.OpenNo.OpenNo, declared.layout_reader.Stored.Stored, Headers.slots_in, Damages.IsValuePlace, Damages.StandsThere, Damages.IsTagDamage}
use Rattle.device_layout.specs.{Damages.IsTagDamage.BadQueue, Damages.IsTagDamage.BadValue, Readings.IsReadFrom, Readings.IsCause}
use Rattle.crash_recovery.specs.{Seat, IsInUse, IsSeat, HoldsValue, IsOverfull}
use Rattle.crash_recovery.proofs.{Stored.taken_stored, Stored.records_stored, Calls.some_open}

-- a record has 17 bytes
length-recs : (rs : List Rec) → length (recs_image rs) ≡ 17 * length rs
length-recs [] = refl
length-recs (r ∷ rs) = length-append (rec_image r) (recs_image rs) ∙ ap (λ n. 17 + n) (length-recs rs) ∙ omega arith

-- a log that has so many records is so long
log_long : (c : List ℕ) (at n : ℕ) (rs : List Rec) → at ≤ length c → HasRecords c at n rs → at + 17 * n ≤ length c
log_long c at n rs within has =
    let size = ap length has.records.image in
    omega (arith, size, length-recs rs, has.counted, length-take (17 * n) (drop at c), length-drop at c, within)

-- the seat that was read
abbrev pub seat_of : Stored → Scanned → Seat
seat_of x s = record { lane = s.lane; stale = s.stale; counts = x.slot; taken = x.summary.taken; records = x.summary.records }

module _ (def : TagDef) (slots : ℕ) (x : Stored) (c : List ℕ) (read : IsReadFrom def slots x c) (s : Scanned)
    (scanned : IsRead slots x.summary.taken c slots s) (inside : IsWithin slots x.summary.taken slots s) where
  -- where a core begins that was made of this
  start_same : (core : State) → core.records ≡ x.recs.items → core.summary ≡ record x.summary {
    tuning =
        Some x.tuning;
  }
      → core ≡ start_of c x.recs.items x.summary
  start_same core records summary =
      let make : List Rec → Summary → State = λ rs sm. record { records = rs; summary = sm } in
      ap₂ make records (summary ∙ ap (λ u. record x.summary { tuning = Some u }) read.tuning)

  -- the points that were scanned are those of the lane
  points_same : s.points.items ≡ lane_points (slots_in (header_of c)) c x.summary.taken
  points_same = scanned.points ∙ ap (λ n. lane_points n c x.summary.taken) read.slots_are

  pub recovered : (step : Bool) (core new : State) → def.step ≡ step → core.records ≡ x.recs.items
      → core.summary ≡ record x.summary { tuning = Some x.tuning } → AllFit step core (map Raw s.points.items)
      → new ≡ replay step core (map Raw s.points.items) → IsRecovered def c new
  recovered step core new same_step records summary fit state = (
    x.recs.items,
    x.summary,
    read.stored,
    record {
      lane = subst (λ n. IsLane n c x.summary.taken n) read.slots_are scanned.lane;
      fits = subst (λ k. AllFit k (start_of c x.recs.items x.summary) values) (sym same_step)
          (subst (λ st. AllFit step st values) (start_same core records summary)
          (subst (λ l. AllFit step core (map Raw l)) points_same fit));
      state = state ∙ ap (λ l. replay step core (map Raw l)) points_same
          ∙ ap (λ st. replay step st values) (start_same core records summary)
          ∙ ap (λ k. replay k (start_of c x.recs.items x.summary) values) (sym same_step);
    },
  )
    where
      values : List Event
      values = map Raw (lane_points (slots_in (header_of c)) c x.summary.taken)

  -- the lane is in use, or overtaken
  filled : s.stale ≡ false → IsFilled slots x.summary.taken s.lane.used s.lane.next c s.points.items
  filled untold = grind (arith, scanned_filled)

  in_use : s.stale ≡ false → IsInUse slots x.summary.taken s.lane.used s.lane.next c
  in_use fresh = grind (arith, filled)

  pub seated : IsSeat (seat_of x s) c
  seated =
      let slots_same : s.lane.slots ≡ slots_in (header_of c) = inside.slots_same ∙ read.slots_are in
      let summary_there : HasSummary c x.slot x.summary = subst
      (λ o. HasSummary c o x.summary) read.slot read.stored.summary in
      record {
        laid = record {
          opened = read.stored.tag.opened;
          header = read.stored.tag.header;
          slots = slots_same;
          room = record {
            long = subst (λ n. lane_end n ≤ length c) (sym slots_same) read.stored.long;
            shut = λ k low there. scanned.none_behind k low (omega (arith, there, inside.slots_same));
          };
          counts = sym read.slot;
          taken = sym (taken_stored c x.slot x.summary summary_there);
          records = sym (records_stored c x.slot x.summary summary_there);
          long = omega (
            arith,
            log_long c (lane_end s.lane.slots) x.summary.records x.recs.items
                (subst (λ n. lane_end n ≤ length c) (sym slots_same) read.stored.long)
                (subst (λ n. HasRecords c (lane_end n) x.summary.records x.recs.items)
                (sym slots_same) read.stored.records),
          );
          in_use = λ fresh. subst (λ n. IsInUse n x.summary.taken s.lane.used s.lane.next c) (sym inside.slots_same)
              (in_use fresh);
          number = λ is. inside.number ∙ ap (λ l. x.summary.taken + length l) (inside.none_stale is) ∙ omega arith;
        };
        overrun = λ is. record {
          stale = subst (λ n. (k : ℕ) → k < n → IsOpen (gate_of k) c → IsStale x.summary.taken (batch_at n c k))
              (sym inside.slots_same) (scanned_overtaken slots x.summary.taken c s scanned inside is).stale;
        };
        some = λ is.
            let one = scanned.stale.0 is in
            some_open (gate_of 0) s.lane.slots one.0 c (omega (arith, one.1, inside.slots_same)) one.2;
      }

  -- a value that finds no room
  pub value_broken : (step : Bool) (core : State) (n a j i : ℕ) (byte : Option ℕ) → def.step ≡ step
      → core.records ≡ x.recs.items → core.summary ≡ record x.summary { tuning = Some x.tuning }
      → AllFit step core (map Raw (take n s.points.items))
      → most_records < length (replay step core (map Raw (take n s.points.items))).records + 2
      → IsValuePlace slots c x.summary.taken n a j i → StandsThere c a byte → IsTagDamage def c a byte
  value_broken step core n a j i byte same_step records summary fit full place there =
      let points = lane_points (slots_in (header_of c)) c x.summary.taken in
      BadValue x.recs.items x.summary n j i (record {
        stored = read.stored;
        lane = subst (λ k. IsLane k c x.summary.taken k) read.slots_are scanned.lane;
        fit = subst (λ k. AllFit k (start_of c x.recs.items x.summary) (map Raw (take n points))) (sym same_step)
            (subst (λ st. AllFit step st (map Raw (take n points))) (start_same core records summary)
            (subst (λ l. AllFit step core (map Raw (take n l))) points_same fit));
        full = subst (λ k. most_records < length (replay k (start_of c x.recs.items x.summary) (map Raw
            (take n points))).records + 2)
            (sym same_step) (subst (λ st. most_records < length (replay step st (map Raw (take n points))).records + 2)
            (start_same core records summary)
            (subst (λ l. most_records < length (replay step core (map Raw (take n l))).records + 2) points_same full));
        at = subst (λ k. IsValuePlace k c x.summary.taken n a j i) read.slots_are place;
        there = there;
      })

  -- a value of the lane that was scanned
  pub holds_value : (n : ℕ) → n < length s.points.items → HoldsValue slots x.summary.taken s.lane.used n c
  holds_value n below = elim (cases_Bool s.stale) [
    | inl stale ↦ absurd (omega (arith, below, ap length (inside.none_stale stale)))
    | inr fresh ↦ record { next = s.lane.next; held = s.points.items; filled = filled fresh; there = below }
  ]

-- the same of a device
pub recovered_shown : (def : TagDef) (o : Trace) (slots : ℕ) (x : Stored) (s : Scanned) (step : Bool)
    (core new : State) → IsWithin slots x.summary.taken slots s → Shows o (IsReadFrom def slots x)
    → Shows o (λ c. IsRead slots x.summary.taken c slots s) → def.step ≡ step → core.records ≡ x.recs.items
    → core.summary ≡ record x.summary { tuning = Some x.tuning } → AllFit step core (map Raw s.points.items)
    → new ≡ replay step core (map Raw s.points.items) → Shows o (λ c. IsRecovered def c new)
recovered_shown def t slots x s step core new inside read scanned same_step records summary fit state =
    recovered def slots x (seen t) read s scanned inside step core new same_step records summary fit state

pub seated_shown : (def : TagDef) (o : Trace) (slots : ℕ) (x : Stored) (s : Scanned)
    → IsWithin slots x.summary.taken slots s → Shows o (IsReadFrom def slots x)
    → Shows o (λ c. IsRead slots x.summary.taken c slots s) → Shows o (IsSeat (seat_of x s))
seated_shown def t slots x s inside read scanned = seated def slots x (seen t) read s scanned inside

pub queue_shown : (def : TagDef) (o : Trace) (slots : ℕ) (x : Stored) (a : ℕ) (byte : Option ℕ)
    → Shows o (IsReadFrom def slots x) → Shows o (λ c. IsLaneDamage slots c x.summary.taken a byte)
    → Shows o (λ c. IsTagDamage def c a byte)
queue_shown def t slots x a byte read damage = BadQueue x.recs.items x.summary (record {
  stored = read.stored;
  broken = subst (λ n. IsLaneDamage n (seen t) x.summary.taken a byte) read.slots_are damage;
})

pub holds_shown : (def : TagDef) (o : Trace) (slots : ℕ) (x : Stored) (s : Scanned) (n : ℕ)
    → IsWithin slots x.summary.taken slots s → Shows o (IsReadFrom def slots x)
    → Shows o (λ c. IsRead slots x.summary.taken c slots s)
    → n < length s.points.items → Shows o (HoldsValue slots x.summary.taken s.lane.used n)
holds_shown def t slots x s n inside read scanned below =
    holds_value def slots x (seen t) read s scanned inside n below

-- the refusal of a lane of which a value finds no room
pub overfull_cause : (def : TagDef) (o : Trace) (slots : ℕ) (x : Stored) (s : Scanned) (step : Bool)
    (core : State) (n : ℕ)
    (why : OpenNo) → IsWithin slots x.summary.taken slots s → Shows o (IsReadFrom def slots x)
    → Shows o (λ c. IsRead slots x.summary.taken c slots s) → def.step ≡ step → core.records ≡ x.recs.items
    → core.summary ≡ record x.summary { tuning = Some x.tuning } → AllFit step core (map Raw (take n s.points.items))
    → most_records < length (replay step core (map Raw (take n s.points.items))).records + 2
    → IsOverfull o slots x.summary.taken n why → IsCause def o why
overfull_cause def o slots x s step core n DeviceFault inside read scanned same_step records summary fit full over = tt
overfull_cause def t slots x s step core n (Damaged at byte) inside read scanned same_step records summary fit full over =
    value_broken def slots x (seen
    t) read s scanned inside step core n at over.0 over.1 byte same_step records summary fit full
    over.2 over.3
overfull_cause def o slots x s step core n
    (OtherTag found wanted) inside read scanned same_step records summary fit full over = absurd over
overfull_cause def o slots x s step core n
    (Full k) inside read scanned same_step records summary fit full over = absurd over
overfull_cause def o slots x s step core n WantOfMemory inside read scanned same_step records summary fit full over = absurd over
