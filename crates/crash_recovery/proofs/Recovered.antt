-- How many events an image recovers, and which batches end before that.
use Rattle.std.proofs.Common.{◌≡◌, inl, inr, ⊎_elim, ℕ, zero, suc, ◌+◌, ◌-◌, ◌<◌, ◌≤◌, Bool, true, List, ◌++◌, length, map, Some, refl, sym, ap, subst, arith, add-zero, append_assoc, length-append}
use Rattle.std.proofs.lemmas.{Bool.cases_Bool, List.length-map}
use Rattle.trend_num.specs.declared.archive.{Rec.Rec, Summary.Summary}
use Rattle.trend_num.specs.declared.{point.Point.Point, tuning.Tuning.Tuning, tag_def.TagDef.TagDef}
use Rattle.trend_model.specs.{History.Event, History.Raw, State.State, State.replay}
use Rattle.event_queue.specs.{slot_points_of, points_before, lane_points, IsNextBehind, IsSound, IsLane, Slots.batch_at, Places.IsFilled}
use Rattle.event_queue.proofs.{Batches.length-points_in, Overtaken.overtaken_none}
use Rattle.event_queue.proofs.Steps.{beyond_all, points_open, points_more}
use Rattle.crash_recovery.specs.{Seat, GoesOnFrom, IsLaid, IsOverrun}
use Rattle.device_layout.specs.{start_of, IsReplayed, Recovers}
use Rattle.crash_recovery.proofs.Replays.{IsCounted, replay_counted, replay_more}
use Rattle.crash_recovery.proofs.Stored.{taken_known, not_new, lane_replayed}

-- fewer slots hold no more points
fewer_points : (slots taken : ℕ) (c : List ℕ) (k m : ℕ)
    → length (points_before slots c taken k) ≤ length (points_before slots c taken (k + m))
fewer_points slots taken c k zero = grind (arith, add-zero)
fewer_points slots taken c k (suc m) =
    let longer : k + suc m ≡ k + m + 1 = omega arith in
    omega (
      arith,
      fewer_points slots taken c k m,
      ap (λ n. length (points_before slots c taken n)) longer,
      ap length (points_more slots taken c (k + m)),
      length-append (points_before slots c taken (k + m)) (slot_points_of slots c taken (k + m)),
    )

-- each batch of a lane in use ends before the next value's number
pub filled_ends : (slots taken used next : ℕ) (c : List ℕ) (held : List Point) → used ≤ slots
    → IsFilled slots taken used next c held
    → (k : ℕ) → k < used → (batch_at slots c k).first + (batch_at slots c k).count ≤ next
filled_ends slots taken used next c held within filled k below =
    ⊎_elim (λ behind. absurd (omega (arith, behind.stale, filled.beyond k below))) numbered sound.follows
  where
    there : k < slots
    there = omega (arith, below, within)

    sound : IsSound slots c taken k
    sound = filled.lane.sound k there (filled.opened k below)

    here : length (slot_points_of slots c taken k) ≡ (batch_at slots c k).count
    here = grind (arith, points_open, beyond_all, length-points_in)

    numbered : IsNextBehind slots c taken k → (batch_at slots c k).first + (batch_at slots c k).count ≤ next
    numbered behind =
        let rest : k + 1 + (slots - (k + 1)) ≡ slots = omega (arith, there) in
        omega (
          arith,
          behind.numbered,
          here,
          ap length (points_more slots taken c k),
          length-append (points_before slots c taken k) (slot_points_of slots c taken k),
          fewer_points slots taken c (k + 1) (slots - (k + 1)),
          ap (λ n. length (points_before slots c taken n)) rest,
          filled.number,
          ap length filled.points,
        )

-- so many events are recovered, and a tuning is in force
pub record IsAt (n : ℕ) (s : State) : Type 0 where
  pub tuning : Tuning
  pub tuned : s.summary.tuning ≡ Some tuning
  pub taken : s.summary.taken ≡ n

-- as many as the place has acknowledged
pub recovered_at : (def : TagDef) (p : Seat) (a : List ℕ) (s : State) → IsLaid p a
    → (p.stale ≡ true → IsOverrun p a) → Recovers def a s → IsAt p.lane.next s
recovered_at def p a s laid over (inl new) = absurd (not_new def p a laid new.0)
recovered_at def p a s laid over (inr is) =
    let rs = is.0 in
    let sm = is.1 in
    let stored = is.2 in
    let taken : p.taken ≡ sm.taken = taken_known def p a laid rs sm stored in
    let start = start_of a rs sm in
    let was = lane_replayed p a def.step start s laid
    (subst (λ n. IsReplayed def.step a (start_of a rs sm) n s) (sym taken) is.3) in
    let points = lane_points p.lane.slots a p.taken in
    let counted = replay_counted def.step start (map Raw points) _ refl in
    let all : length (map Raw points) ≡ length points = length-map points Raw in
    let now : IsCounted (length (map Raw points)) start s =
    subst (λ x. IsCounted (length (map Raw points)) start x) (sym was.state) counted in
    let next : p.lane.next ≡ p.taken + length points =
    ⊎_elim (λ stale. overtaken p a laid stale (over stale) was.lane) (λ fresh. (laid.in_use fresh).number)
    (cases_Bool p.stale) in
    record { tuning = now.tuning; tuned = now.tuned; taken = omega (arith, now.taken, all, taken, next) }
  where
    overtaken : (p : Seat) (a : List ℕ) → IsLaid p a → p.stale ≡ true → IsOverrun p a → IsLane p.lane.slots a
        p.taken p.lane.slots → p.lane.next ≡ p.taken + length (lane_points p.lane.slots a p.taken)
    overtaken p a laid stale over lane = grind (arith, overtaken_none)

-- a state that continues from there has taken so many more
pub goes_beyond : (def : TagDef) (n : ℕ) (s : State) (step : Bool) (r : State) → IsAt n s
    → (goes : GoesOnFrom def s step r) → r.summary.taken ≡ n + length goes.1.0
goes_beyond def n s step r at goes =
    let counted = replay_counted def.step s goes.1.0 at.tuning at.tuned in
    omega (arith, ap (λ (x : State). x.summary.taken) goes.1.1, counted.taken, at.taken)

-- and keeps the records that are stored
pub goes_on_records : (def : TagDef) (p : Seat) (a : List ℕ) (s : State) (step : Bool) (r : State)
    (rs : List Rec) (sm : Summary) (values : List Event) → s ≡ replay def.step (start_of a rs sm) values
    → GoesOnFrom def s step r → (more : List Rec) × (r.records ≡ rs ++ more)
goes_on_records def p a s step r rs sm values is goes =
    let first = replay_more def.step (start_of a rs sm) values in
    let second = replay_more def.step s goes.1.0 in (grind (arith, append_assoc))
