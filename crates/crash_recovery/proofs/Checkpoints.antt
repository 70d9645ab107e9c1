-- The summary of a core is written after its records.
use Rattle.disk_model.specs.{Shows, Sees, Traces.Trace, Traces.seen, Traces.written, Images.FromOld, Images.IsSettled, Moments.During, Gates.open_byte, Gates.IsOpen, Gates.Holds, Gates.IsGuarded}
use Rattle.std.proofs.Common.{◌≡◌, ◌≢◌, inl, inr, ⊎_elim, ℕ, ◌+◌, ◌*◌, ◌^◌, ◌<◌, ◌≤◌, Bool, false, List, [], ◌∷◌, ◌++◌, length, get_or, take, drop, Some, refl, sym, ◌∙◌, ap, subst, arith, length-take, length-drop, length-append}
use Rattle.std.proofs.{Math.Seq.take-add, lemmas.Bool.cases_eq, lemmas.Bool.cases_lt, lemmas.Grind.flat_map-append, lemmas.List.drop_at, lemmas.List.drop-drop}
use Rattle.std.specs.{Prelude.nat_lt, List.All, Int.w32, Int.w64, Int.from_be_bytes}
use borrow.Author.Tests.{ltb-false}
use Rattle.trend_num.specs.{declared.archive.Rec.Rec, declared.tuning.Tuning.Tuning, Ranges.TuningInRange, declared.archive.Summary.Summary, declared.tag_def.TagDef.TagDef, Ranges.InRange}
use Rattle.trend_model.specs.{Lists.Each, Parts.ArePartsOk, State.State}
use Rattle.archive_file.specs.{rec_image, recs_image, Places.AreInRange, Summaries.summary_image, Summaries.IsSummary}
use Rattle.event_queue.specs.{Slots.gate_of, Slots.lane_end, Slots.batch_at, Lanes.IsStale, Lanes.lane_points, Lanes.IsCounted, Places.HasRoom, Places.IsOvertaken}
use Rattle.event_queue.proofs.{Overtaken.overtaken_none, SameLanes.same_batch}
use Rattle.crash_recovery.specs.{Seat, AllRecover, GoesOnFrom, RecoversEither, IsInUse, log_end, IsLaid, IsOverrun, spare_slot, LaidOn, OverrunOn, IsReady, ReadyOn}
use Rattle.device_layout.specs.{Slot, tuning_in, slots_in, IsHeader, header_of, log_place, summary_place, summary_gate, slot_bytes, taken_in, records_in, counting, recovered_tuning, start_of, IsOfTag, IsStored, values_beyond, IsReplayed}
use Rattle.device_layout.specs.{Recovers}
use Rattle.crash_recovery.proofs.DeviceReads.{now_shown, shown_now, shown_so, shown_both, during_from, shown_from, opened_after}
use Rattle.crash_recovery.proofs.Places.{OnlySpare, apart_lane, slot_within, gate_within, others_kept, front_kept, first_kept, log_kept, only_spare, settled_on, laid_shown, laid_again, reaches_on}
use Rattle.crash_recovery.proofs.Recovered.{filled_ends, recovered_at, goes_beyond, goes_on_records}
use Rattle.crash_recovery.proofs.{Pieces.same_piece, Counting.counting_new, Restarts.in_use_fresh, Appends.filled_of, Logged.same_slots, Logged.lane_kept, Logged.room_kept}
use Rattle.crash_recovery.proofs.Stored.{records_known, not_new, recovers_same}
use Rattle.device_layout.proofs.SlotNumbers.{length-summary_image, taken_spelled, records_spelled, summary_of_parts}

-- records have 17 bytes each
length-recs_image : (rs : List Rec) → length (recs_image rs) ≡ 17 * length rs
length-recs_image [] = refl
length-recs_image (r ∷ rs) = omega (arith, length-recs_image rs)

-- each record is in range, in the other word
in_range_each : (rs : List Rec) → Each (λ (r : Rec). InRange r.point) rs → AreInRange rs
in_range_each [] each = tt
in_range_each (r ∷ rs) each = (each.0, in_range_each rs each.1)

-- bytes that are at a place end within the device
holds_long : (at : ℕ) (bytes c : List ℕ) → at ≤ length c → Holds at bytes c → at + length bytes ≤ length c
holds_long at bytes c le holds = grind (arith, length-take, length-drop)

-- the parts of a core's state fit each other
pub record IsFit (u : Tuning) (step : Bool) (r : State) : Type 0 where
  pub tuned : r.summary.tuning ≡ Some u
  pub tuned_ok : TuningInRange u
  pub parts : ArePartsOk u step r.records r.summary

-- those of a core do
pub fit_of : (u : Tuning) (step : Bool) (r : State) (sm : Summary) → sm ≡ r.summary
    → r.summary.tuning ≡ Some u → TuningInRange u
    → ((v : Tuning) → sm.tuning ≡ Some v → sm.taken < 10 ^ 18 → ArePartsOk v step r.records sm)
    → r.summary.taken < 10 ^ 18 → IsFit u step r
fit_of u step r sm same tuned ok parts countable = record {
  tuned = tuned;
  tuned_ok = ok;
  parts = subst (ArePartsOk u step r.records) same (parts u (ap (λ (x : Summary). x.tuning) same ∙ tuned)
      (omega (arith, ap (λ (x : Summary). x.taken) same, countable)));
}

-- none is used where the test says so
pub none_used : (n : ℕ) → nat_lt 0 n ≡ false → n ≡ 0
none_used n is = omega (arith, ltb-false, is)

-- the place once the summary counts
abbrev pub summed : Seat → Bool → State → Seat
summed p stale r = record {
  lane = record p.lane { next = r.summary.taken };
  stale = stale;
  counts = Some (spare_slot p.counts);
  taken = r.summary.taken;
  records = r.summary.records;
}

-- it is that of a summary that was read of the core
pub summed_as : (p : Seat) (stale : Bool) (r : State) (slot : Slot) (sm : Summary)
    → slot ≡ spare_slot p.counts → sm ≡ r.summary
    → record {
      lane = record { slots = p.lane.slots; used = p.lane.used; next = sm.taken };
      stale = stale;
      counts = Some slot;
      taken = sm.taken;
      records = sm.records;
    } ≡ summed p stale r
summed_as p stale r slot sm same_slot same = grind arith

-- a device on which the summary is to be put
pub record IsLoggedFor (p : Seat) (r : State) (c : List ℕ) : Type 0 where
  pub laid : IsLaid p c
  pub ready : IsReady p (summary_gate (spare_slot p.counts)) r.records c

module _ (p : Seat) (u : Tuning) (step : Bool) (r : State) (fit : IsFit u step r) (fresh : p.stale ≡ false)
    (within : p.lane.used ≤ p.lane.slots) (more : p.taken < r.summary.taken) where
  -- the summary has a spelling
  spelled : IsSummary r.summary
  spelled = summary_of_parts u step r.records r.summary fit.parts fit.tuned fit.tuned_ok

  module _ (a b : List ℕ) (logged : IsLoggedFor p r a) (guarded : IsGuarded (summary_place (spare_slot
      p.counts)) (summary_image r.summary) (summary_gate (spare_slot p.counts)) a b) where
    -- the place is valid on it
    laid : IsLaid p a
    laid = logged.laid

    -- only the slot that does not count has changed
    only : OnlySpare p.counts (log_end p) a b
    only = grind (arith, length-summary_image)

    -- the gate is closed: each image recovers what it recovered
    recovers_before : (def : TagDef) (s : State) → Recovers def a s
        → get_or b (summary_gate (spare_slot p.counts)) 0 ≢ open_byte → Recovers def b s
    recovers_before def s recovers shut =
        recovers_same def p a b s laid (only_spare p a b laid only (inl shut)) (lane_kept p a b laid only)
        recovers

    -- it is open
    module _ (opened : IsOpen (summary_gate (spare_slot p.counts)) b) where
      -- the slot holds the summary
      slot_is : slot_bytes b (spare_slot p.counts) ≡ summary_image r.summary
      slot_is = ap (λ n. take n (drop (summary_place (spare_slot p.counts)) b))
          (sym (length-summary_image r.summary)) ∙ guarded.whole opened

      -- and so its two numbers
      taken_is : taken_in b (spare_slot p.counts) ≡ r.summary.taken
      taken_is = ap (λ l. from_be_bytes w64 (take 8 l)) slot_is ∙ taken_spelled r.summary spelled

      -- both of them
      records_are : records_in b (spare_slot p.counts) ≡ r.summary.records
      records_are = ap (λ l. from_be_bytes w32 (take 4 (drop 8 l))) slot_is
          ∙ records_spelled r.summary spelled

      -- it is the summary that counts
      counts_is : counting b ≡ Some (spare_slot p.counts)
      counts_is = counting_new p.counts a b (sym laid.counts) (others_kept p a b laid only) opened
          (omega (arith, more, laid.taken, taken_is))

      -- the records end within the device
      fresh_long : log_end p + 17 * length (drop p.records r.records) ≤ length a
      fresh_long = grind (arith, holds_long, length-recs_image)

      -- so do all that the summary counts
      all_long : lane_end p.lane.slots + 17 * r.summary.records ≤ length b
      all_long = grind (arith, fresh_long, length-drop)

      -- the place is valid on it
      laid_summed : (stale : Bool) → (stale ≡ false → p.lane.used ≡ 0) → IsLaid (summed p stale r) b
      laid_summed stale used = record {
        opened = first_kept p a b laid only ∙ laid.opened;
        header = subst IsHeader (sym (front_kept p a b laid only 128 (omega arith))) laid.header;
        slots = laid.slots ∙ ap slots_in (sym (front_kept p a b laid only 128 (omega arith)));
        room = room_kept p a b laid only;
        counts = sym counts_is;
        taken = sym taken_is;
        records = sym records_are;
        long = all_long;
        in_use = λ is.
            let none = used is in
            subst (λ n. IsInUse p.lane.slots r.summary.taken n r.summary.taken b) (sym none)
            (in_use_fresh p.lane.slots r.summary.taken r.summary.taken b
            (subst (λ n. HasRoom p.lane.slots n b) none (room_kept p a b laid only)) refl);
        number = λ is. refl;
      }

      module _ (beyond : p.lane.next ≤ r.summary.taken) where
        -- each open slot is overtaken
        all_stale : (k : ℕ) → k < p.lane.slots → IsOpen (gate_of k) b → IsStale r.summary.taken
            (batch_at p.lane.slots b k)
        all_stale k there is_open =
            let slots = same_slots p a b laid only in
            let was = slots.back k there is_open in
            let used : k < p.lane.used = ⊎_elim (λ before. before)
            (λ behind. absurd (laid.room.shut k behind there was)) (cases_lt k p.lane.used) in
            let ends = filled_ends p.lane.slots p.taken p.lane.used p.lane.next a
            (lane_points p.lane.slots a p.taken) within (filled_of p a laid fresh) k used in
            subst (IsStale r.summary.taken) (sym (same_batch p.lane.slots p.taken p.lane.slots a b slots k
            there was)) (omega (arith, ends, beyond))

        -- the lane is overtaken
        overtaken : IsOvertaken p.lane.slots r.summary.taken b
        overtaken = record {
          lane = record {
            sound = λ k there is_open.
                let slots = same_slots p a b laid only in
                let was = slots.back k there is_open in
                let same = sym (same_batch p.lane.slots p.taken p.lane.slots a b slots k there was) in
                let sound = (laid.in_use fresh).lane.sound k there was in
                record {
                  counted = subst IsCounted same sound.counted;
                  follows = inl (record {
                    stale = all_stale k there is_open;
                    before = λ i below i_open. all_stale i (omega (arith, there, below)) i_open;
                  });
                  in_range = subst (λ x. All InRange x.points) same sound.in_range;
                };
          };
          stale = all_stale;
        }

        -- by the place that counts the summary
        overrun_summed : (stale : Bool) → IsOverrun (summed p stale r) b
        overrun_summed stale = record { stale = all_stale }

        -- the image recovers the state of the core
        module _ (def : TagDef) (s : State) (recovers : Recovers def a s) (goes : GoesOnFrom def s step r)
          where
            -- from the records and the summary that were stored
            module _ (rs : List Rec) (sm : Summary) (stored : IsStored def a rs sm) (new : List Rec)
                (grown : r.records ≡ rs ++ new) where
              -- so many records are stored
              count : p.records ≡ length rs
              count = records_known def p a laid rs sm stored ∙ sym stored.records.counted

              -- the new records are those after the log
              new_are : drop p.records r.records ≡ new
              new_are = ap (drop p.records) grown ∙ drop_at rs new p.records (sym count)

              -- they end within the device
              fits : log_end p + 17 * length new ≤ length a
              fits = subst (λ l. log_end p + 17 * length l ≤ length a) new_are fresh_long

              -- both parts of the log
              old_part : recs_image rs ≡ take (17 * p.records) (drop (lane_end p.lane.slots) b)
              old_part = stored.records.records.image ∙ ap (λ n. take (17 * n) (drop (log_place a) a))
                  (sym (records_known def p a laid rs sm stored))
                  ∙ ap (λ n. take (17 * p.records) (drop (lane_end n) a)) (sym laid.slots)
                  ∙ sym (log_kept p a b laid only)

              -- the part that was written after them
              new_part : recs_image new ≡ take (17 * length new) (drop (log_end p) b)
              new_part = grind (arith, length-recs_image, same_piece, fits, apart_lane, length-summary_image, new_are)

              -- the log holds all records of the core
              whole_log : recs_image r.records ≡ take (17 * length r.records) (drop (lane_end p.lane.slots) b)
              whole_log =
                  let all : 17 * p.records + 17 * length new ≡ 17 * length r.records =
                  omega (arith, count, ap length grown, length-append rs new) in
                  ap recs_image grown ∙ flat_map-append rec_image rs new
                  ∙ ap (λ l. l ++ recs_image new) old_part
                  ∙ ap (λ l. take (17 * p.records) (drop (lane_end p.lane.slots) b) ++ l)
                  (new_part ∙ ap (take (17 * length new))
                  (sym (drop-drop (17 * p.records) (lane_end p.lane.slots) b)))
                  ∙ sym (take-add (17 * p.records) (17 * length new) (drop (lane_end p.lane.slots) b))
                  ∙ ap (λ n. take n (drop (lane_end p.lane.slots) b)) all

              -- the header is as it was
              header_same : header_of b ≡ header_of a
              header_same = front_kept p a b laid only 128 (omega arith)

              -- it says how many lane slots there are
              slots_same : p.lane.slots ≡ slots_in (header_of b)
              slots_same = laid.slots ∙ ap slots_in (sym header_same)

              -- the device is this tag's
              tag : IsOfTag def b
              tag = grind (arith, first_kept, laid, only, header_same)

              -- the tuning in force is that of the core
              in_force_is : recovered_tuning (tuning_in (header_of b)) r.summary.tuning ≡ u
              in_force_is = ap (recovered_tuning (tuning_in (header_of b))) fit.tuned

              -- the records and the summary of the core are stored
              now_stored : IsStored def b r.records r.summary
              now_stored = grind (
                arith,
                tag,
                slots_same,
                counts_is,
                spelled,
                slot_is,
                in_range_each,
                whole_log,
                in_force_is,
              )

              -- the lane continues from the state of the core
              start_is : r ≡ start_of b r.records r.summary
              start_is = grind (arith, in_force_is)

              -- and it holds nothing beyond
              now_replayed : IsReplayed def.step b (start_of b r.records r.summary) r.summary.taken r
              now_replayed = grind (arith, overtaken_none, overtaken, slots_same, fits, start_is)

            -- so that state is recovered
            recovers_after : Recovers def b r
            recovers_after = after recovers
              where
                after : Recovers def a s → Recovers def b r
                after (inl is) = absurd (not_new def p a laid is.0)
                after (inr is) =
                    let grown = goes_on_records def p a s step r is.0 is.1 (values_beyond a is.1.taken)
                    is.3.state goes in
                    inr (
                      r.records,
                      r.summary,
                      now_stored is.0 is.1 is.2 grown.0 grown.1,
                      now_replayed is.0 is.1 is.2 grown.0 grown.1,
                    )

  -- a core that continues has taken all that is acknowledged
  beyond_of : (a : List ℕ) → IsLaid p a → (def : TagDef) (s : State) → Recovers def a s
      → GoesOnFrom def s step r → p.lane.next ≤ r.summary.taken
  beyond_of a laid def s recovers goes = omega (
    arith,
    goes_beyond def p.lane.next s step r
        (recovered_at def p a s laid (λ stale. absurd (cc (stale, fresh))) recovers) goes,
  )

  -- ---- the calls

  module _ (o new : Trace) (laid : LaidOn p o)
      (ready : ReadyOn p (summary_gate (spare_slot p.counts)) r.records o) (at gate : ℕ) (bytes : List ℕ)
      (is_at : at ≡ summary_place (spare_slot p.counts)) (is_gate : gate ≡ summary_gate (spare_slot p.counts))
      (is_bytes : bytes ≡ summary_image r.summary) where
    logged_shown : Shows o (IsLoggedFor p r)
    logged_shown = record { laid = laid_shown p o laid; ready = ready }

    -- and what it recovered
    known : (def : TagDef) (s : State) → AllRecover def o s → Shows o (λ c. IsLoggedFor p r c
        × Recovers def c s)
    known def s all = grind (arith, shown_both, logged_shown, shown_now)

    -- the summary, guarded by its gate
    as_guarded : (a b : List ℕ) → IsGuarded at bytes gate a b
        → IsGuarded (summary_place (spare_slot p.counts)) (summary_image r.summary)
        (summary_gate (spare_slot p.counts)) a b
    as_guarded a b guarded = grind arith

    module _ (during : During o new (FromOld o (IsGuarded at bytes gate))) where
      -- each image recovers what it recovered, or the state of the core
      pub summary_moments : (def : TagDef) (s : State) → AllRecover def o s → GoesOnFrom def s step r
          → During o new (RecoversEither def s r)
      summary_moments def s all goes =
          during_from o new (IsGuarded at bytes gate) (λ c. IsLoggedFor p r c × Recovers def c s)
          (RecoversEither def s r) (settled_on p o laid) (known def s all)
          (λ a b q guarded. ⊎_elim (λ opened. inr (recovers_after a b q.0 (as_guarded a b guarded) opened
          (beyond_of a q.0.laid def s q.1 goes) def s q.1 goes))
          (λ shut. inl (recovers_before a b q.0 (as_guarded a b guarded) def s q.1 shut))
          (cases_eq (get_or b (summary_gate (spare_slot p.counts)) 0) open_byte)) during

      module _ (settled : IsSettled new) (reads : Sees new (written (written (seen o) at bytes) gate
          (open_byte ∷ []))) where
        -- once all was done, the gate reads open
        opened_there : Shows new (IsOpen (summary_gate (spare_slot p.counts)))
        opened_there =
            let slot = slot_within (spare_slot p.counts) in
            let before = gate_within (spare_slot p.counts) in
            shown_so new (IsOpen gate) (IsOpen (summary_gate (spare_slot p.counts)))
            (λ c is_open. subst (λ g. IsOpen g c) is_gate is_open)
            (opened_after o new _ at bytes gate (reaches_on p o at laid (omega (arith, is_at, slot)))
            (reaches_on p o gate laid (omega (arith, is_gate, before))) during reads)

        -- each image recovers the state of the core
        pub summary_durable : (def : TagDef) (s : State) → AllRecover def o s → GoesOnFrom def s step r
            → AllRecover def new r
        summary_durable def s all goes = now_shown new (λ c. Recovers def c r) settled
            (shown_from o new (IsGuarded at bytes gate) (λ c. IsLoggedFor p r c × Recovers def c s)
            (IsOpen (summary_gate (spare_slot p.counts)))
            (λ c. Recovers def c r) (settled_on p o laid) (known def s all) opened_there
            (λ a b q guarded opened. recovers_after a b q.0 (as_guarded a b guarded) opened
            (beyond_of a q.0.laid def s q.1 goes) def s q.1 goes) during)

        -- the summary has overtaken the lane
        pub summary_overrun : (stale : Bool) (def : TagDef) (s : State) → AllRecover def o s
            → GoesOnFrom def s step r → OverrunOn (summed p stale r) new
        summary_overrun stale def s all goes =
            shown_from o new (IsGuarded at bytes gate) (λ c. IsLoggedFor p r c × Recovers def c s)
            (IsOpen (summary_gate (spare_slot p.counts)))
            (IsOverrun (summed p stale r)) (settled_on p o laid) (known def s all) opened_there
            (λ a b q guarded opened. overrun_summed a b q.0 (as_guarded a b guarded) opened
            (beyond_of a q.0.laid def s q.1 goes) stale) during

        -- and the place is valid
        pub summary_laid : (stale : Bool) → (stale ≡ false → p.lane.used ≡ 0) → LaidOn (summed p stale r) new
        summary_laid stale used = laid_again (summed p stale r) new settled
            (shown_from o new (IsGuarded at bytes gate) (IsLoggedFor p r)
            (IsOpen (summary_gate (spare_slot p.counts))) (IsLaid (summed p stale r))
            (settled_on p o laid) logged_shown opened_there
            (λ a b logged guarded opened. laid_summed a b logged (as_guarded a b guarded) opened stale used)
            during)
