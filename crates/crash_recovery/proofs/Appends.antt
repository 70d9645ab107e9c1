-- A batch is put into a lane in use.
use Rattle.disk_model.specs.{Calls.Shows, Calls.Sees, Traces.Trace, Traces.seen, Traces.written, Images.IsOutside, Images.FromOld, Images.IsSettled, Moments.During, Gates.open_byte, Gates.IsOpen, Gates.IsGuarded}
use Rattle.std.proofs.Common.{◌≡◌, ◌≢◌, ◌⊎◌, inl, inr, ⊎_elim, ℕ, ◌+◌, ◌^◌, ◌<◌, ◌≤◌, false, List, [], ◌∷◌, ◌++◌, length, get_or, map, refl, ◌∙◌, ap, arith, true}
use Rattle.std.proofs.{lemmas.Bool.cases_eq, lemmas.List.map-append}
use Rattle.std.specs.List.{All}
use Rattle.trend_num.specs.{declared.point.Point.Point, declared.tag_def.TagDef.TagDef, Ranges.InRange}
use Rattle.trend_model.specs.{History.Raw, State.State, State.replay}
use Rattle.event_queue.specs.{Slots.gate_of, Slots.place_of, Slots.lane_end, Slots.batch_bytes, Lanes.lane_points, Places.IsFilled}
use Rattle.event_queue.proofs.{Batches.length-batch_bytes, Filled.absent, Filled.whole}
use Rattle.crash_recovery.specs.{Seat, AllRecover, RecoversEither, SeatedOn, free_in, IsLaid, LaidOn, restarted}
use Rattle.device_layout.specs.{AllFit, IsReplayed, Recovers}
use Rattle.crash_recovery.proofs.Replays.{replay_append, fit_append}
use Rattle.crash_recovery.proofs.Stored.{KeepsStored, lane_replayed, replays, recovers_kept, recovers_same}
use Rattle.crash_recovery.proofs.DeviceReads.{now_shown, shown_now, shown_both, during_from, shown_from, opened_after}
use Rattle.crash_recovery.proofs.Places.{OnlyLane, only_lane, moved, laid_moved, seated_on, settled_on, laid_shown, laid_again, reaches_on}

-- a lane in use, of a place that is not overtaken
pub filled_of : (p : Seat) (c : List ℕ) → IsLaid p c → p.stale ≡ false
    → IsFilled p.lane.slots p.taken p.lane.used p.lane.next c (lane_points p.lane.slots c p.taken)
filled_of p c laid fresh = grind arith

-- the place once the gates of an overtaken lane are closed: a slot is free where one was, and the same number
-- is next
pub record IsCleared (p q : Seat) : Type 0 where
  pub free : q.lane.used < q.lane.slots
  pub number : q.lane.next ≡ p.lane.next

pub cleared : (p q : Seat) → p.lane.used ≤ p.lane.slots → free_in p ≢ 0 → (p.stale ≡ false → q ≡ p)
    → (p.stale ≡ true → q ≡ restarted p) → IsCleared p q
cleared p q within free kept anew = grind arith

-- a batch and its gate lie in the lane
guarded_lane : (slots used next : ℕ) (points : List Point) (a b : List ℕ) → used < slots → length points ≤ 64
    → IsGuarded (place_of slots used) (batch_bytes next points) (gate_of used) a b → OnlyLane slots a b
guarded_lane slots used next points a b free few guarded = record {
  no_shorter = guarded.no_shorter;
  same = λ i there out. guarded.outside i there (outside i out) (apart i out);
}
  where
    outside : (i : ℕ) → (i < 400) ⊎ (lane_end slots ≤ i) → IsOutside (place_of slots used)
        (length (batch_bytes next points)) i
    outside i (inl below) = inl (omega (arith, below))
    outside i (inr above) = inr (omega (arith, above, free, few, length-batch_bytes next points))

    apart : (i : ℕ) → (i < 400) ⊎ (lane_end slots ≤ i) → i ≢ gate_of used
    apart i x2 = grind arith

-- a batch that the place takes
pub record IsTaken (p : Seat) (points : List Point) : Type 0 where
  pub fresh : p.stale ≡ false
  pub free : p.lane.used < p.lane.slots
  pub some : 1 ≤ length points
  pub few : length points ≤ 64
  pub inside : All InRange points
  pub small : p.lane.next + length points < 2 ^ 64

-- one that it took before these gates were closed
pub taken_cleared : (p q : Seat) (points : List Point) → IsCleared p q → q.stale ≡ false → 1 ≤ length points
    → length points ≤ 64 → All InRange points → p.lane.next + length points < 2 ^ 64 → IsTaken q points
taken_cleared p q points clear fresh some few inside small = grind arith

module _ (p : Seat) (points : List Point) (batch : IsTaken p points) where
  module _ (a b : List ℕ) (laid : IsLaid p a) (guarded : IsGuarded (place_of p.lane.slots p.lane.used)
      (batch_bytes p.lane.next points) (gate_of p.lane.used) a b) where
    -- what is stored was kept
    append_keeps : KeepsStored p a b
    append_keeps = only_lane p a b laid (guarded_lane p.lane.slots p.lane.used p.lane.next points a b
        batch.free batch.few guarded)

    -- the gate is closed: the lane is as it was
    left_out : get_or b (gate_of p.lane.used) 0 ≢ open_byte
        → IsFilled p.lane.slots p.taken p.lane.used p.lane.next b (lane_points p.lane.slots a p.taken)
    left_out shut = absent p.lane.slots p.taken p.lane.used p.lane.next (lane_points p.lane.slots a p.taken)
        points a b batch.free
        batch.some batch.few batch.inside batch.small (filled_of p a laid batch.fresh) guarded shut

    -- it is open: the batch is there too
    put_in : IsOpen (gate_of p.lane.used) b → IsFilled p.lane.slots p.taken (p.lane.used + 1)
        (p.lane.next + length points) b (lane_points p.lane.slots a p.taken ++ points)
    put_in opened = whole p.lane.slots p.taken p.lane.used p.lane.next (lane_points p.lane.slots a p.taken)
        points a b batch.free
        batch.some batch.few batch.inside batch.small (filled_of p a laid batch.fresh) guarded opened

    -- so it recovers what it recovered
    recovers_less : (def : TagDef) (s : State) → Recovers def a s
        → get_or b (gate_of p.lane.used) 0 ≢ open_byte → Recovers def b s
    recovers_less def s recovers shut = recovers_same def p a b s laid append_keeps
        (record { lane = λ lane. (left_out shut).lane; points = λ lane. (left_out shut).points }) recovers

    -- so it recovers that and the batch
    recovers_more : (def : TagDef) (s : State) → Recovers def a s → AllFit def.step s (map Raw points)
        → IsOpen (gate_of p.lane.used) b → Recovers def b (replay def.step s (map Raw points))
    recovers_more def s recovers fits opened =
        recovers_kept def p a laid b append_keeps s (replay def.step s (map Raw points)) moves recovers
      where
        all : map Raw (lane_points p.lane.slots b p.taken) ≡ map Raw (lane_points p.lane.slots a p.taken) ++
            map Raw points
        all = ap (map Raw) (put_in opened).points ∙ map-append Raw (lane_points p.lane.slots a p.taken) points

        moves : (start : State) → IsReplayed def.step a start p.taken s
            → IsReplayed def.step b start p.taken (replay def.step s (map Raw points))
        moves start replayed = grind (arith, lane_replayed, replays, append_keeps, put_in, all, fit_append, replay_append)

    -- so it recovers one or the other
    recovers_either : (def : TagDef) (s : State) → Recovers def a s → AllFit def.step s (map Raw points)
        → RecoversEither def s (replay def.step s (map Raw points)) b
    recovers_either def s recovers fits = ⊎_elim (λ opened. inr (recovers_more def s recovers fits opened))
        (λ shut. inl (recovers_less def s recovers shut))
        (cases_eq (get_or b (gate_of p.lane.used) 0) open_byte)

    -- and the place is one further
    laid_behind : IsOpen (gate_of p.lane.used) b
        → IsLaid (moved p false (p.lane.used + 1) (p.lane.next + length points)) b
    laid_behind opened = grind (arith, put_in, laid_moved, append_keeps)

  module _ (o new : Trace) (laid : LaidOn p o) (during : During o new (FromOld o (IsGuarded (place_of
      p.lane.slots p.lane.used) (batch_bytes p.lane.next points) (gate_of p.lane.used)))) where
    -- what is known of what a read gave before
    known : (def : TagDef) (s : State) → AllRecover def o s → Shows o (λ c. IsLaid p c × Recovers def c s)
    known def s all = shown_both o (IsLaid p) (λ c. Recovers def c s) (laid_shown p o laid)
        (shown_now o (λ c. Recovers def c s) all)

    -- each image recovers one or the other
    pub append_moments : (def : TagDef) (s : State) → AllRecover def o s → AllFit def.step s (map Raw points)
        → During o new (RecoversEither def s (replay def.step s (map Raw points)))
    append_moments def s all fits =
        during_from o new (IsGuarded (place_of p.lane.slots p.lane.used) (batch_bytes p.lane.next points)
        (gate_of p.lane.used))
        (λ c. IsLaid p c × Recovers def c s) (RecoversEither def s (replay def.step s (map Raw points)))
        (settled_on p o laid) (known def s all) (λ a b q guarded. recovers_either a b q.0 guarded def s q.1
        fits) during

    module _ (settled : IsSettled new) (reads : Sees new (written (written (seen o) (place_of p.lane.slots
        p.lane.used) (batch_bytes p.lane.next points)) (gate_of p.lane.used) (open_byte ∷ []))) where
      -- once all was done, the gate reads open
      opened : Shows new (IsOpen (gate_of p.lane.used))
      opened = opened_after o new _ (place_of p.lane.slots p.lane.used) (batch_bytes p.lane.next points)
          (gate_of p.lane.used)
          (reaches_on p o (place_of p.lane.slots p.lane.used) laid (omega (arith, batch.free)))
          (reaches_on p o (gate_of p.lane.used) laid (omega (arith, batch.free))) during reads

      -- each image recovers that and the batch
      pub append_durable : (def : TagDef) (s : State) → AllRecover def o s
          → AllFit def.step s (map Raw points) → AllRecover def new (replay def.step s (map Raw points))
      append_durable def s all fits =
          now_shown new (λ c. Recovers def c (replay def.step s (map Raw points))) settled
          (shown_from o new (IsGuarded (place_of p.lane.slots p.lane.used) (batch_bytes p.lane.next points)
          (gate_of p.lane.used)) (λ c. IsLaid p c × Recovers def c s) (IsOpen (gate_of p.lane.used))
          (λ c. Recovers def c (replay def.step s (map Raw points)))
          (settled_on p o laid) (known def s all) opened
          (λ a b q guarded is_open. recovers_more a b q.0 guarded def s q.1 fits is_open) during)

      -- and the place is valid
      pub append_seated : SeatedOn (moved p false (p.lane.used + 1) (p.lane.next + length points)) new
      append_seated =
          let q = moved p false (p.lane.used + 1) (p.lane.next + length points) in
          seated_on q new refl (laid_again q new settled
          (shown_from o new (IsGuarded (place_of p.lane.slots p.lane.used) (batch_bytes p.lane.next points)
          (gate_of p.lane.used))
          (IsLaid p) (IsOpen (gate_of p.lane.used)) (IsLaid q) (settled_on p o laid) (laid_shown p o laid)
          opened (λ a b laid_a guarded is_open. laid_behind a b laid_a guarded is_open) during))
