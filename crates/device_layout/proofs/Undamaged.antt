-- What recovers is not damaged.
use Rattle.std.proofs.Common.{◌≡◌, inl, inr, ℕ, zero, suc, ◌+◌, ◌-◌, ◌*◌, ◌<◌, ◌≤◌, min, Bool, List, [], ◌∷◌, length, get_or, take, drop, map, Option, Some, refl, sym, ◌∙◌, ap, subst, arith, add-zero, length-take, length-drop}
use Rattle.std.proofs.Common.{length-append}
use Rattle.std.proofs.lemmas.List.{append-nil, drop-drop}
use Rattle.trend_num.specs.{Limits.most_records, declared.archive.Rec.Rec, declared.archive.Summary.Summary, declared.point.Point.Point, declared.tag_def.TagDef.TagDef, Ranges.InRange}
use Rattle.trend_model.specs.{History.Raw, State.State, State.after, State.replay}
use Rattle.disk_model.specs.{IsBegun}
use Rattle.archive_file.specs.{Fields.point_bytes, Fields.point_at, Records.rec_image, Records.recs_image, Places.AreInRange, Places.HasRecords, Places.BreaksAt, Places.IsDamage}
use Rattle.archive_file.proofs.{Points.point_at-bytes, Logs.part_of, Beginnings.not_new, FirstFields.none_broken}
use Rattle.event_queue.specs.{Slots.slot_at, Slots.batch_at, Slots.slot_points, Damages.BreaksSlotAt as SlotBreaksAt, Damages.IsLaneDamage, slot_points_of, points_before, lane_points, IsSound, IsLane}
use Rattle.event_queue.proofs.{Batches.length-points_in, Steps.points_open, Steps.points_more}
use Rattle.device_layout.specs.{declared.slot.Slot.Slot, slots_in, header_fields, header_of, log_place, slot_bytes, counting, IsSlotBroken, HasSummary, start_of, AllFit, IsOfTag, IsStored, IsReplayed, Recovers, IsTagDamage, IsValuePlace}
use Rattle.device_layout.specs.Damages.IsTagDamage.{EndsShort, BadHeader, BadLayout, BadSummary, BadLog, BadParts, BadQueue, BadValue}
use Rattle.device_layout.proofs.{SlotExact.spelled_not_broken, OneState.summary_is_one, OneState.records_are_one}

-- ---- a device that is damaged is not new

tag_begun : (def : TagDef) (c : List ℕ) → IsOfTag def c → IsBegun c
tag_begun def c tag = record { long = omega (arith, tag.header.size, length-take 128 c); opened = tag.opened }

damaged_begun : (def : TagDef) (c : List ℕ) (a : ℕ) (byte : Option ℕ) → IsTagDamage def c a byte → IsBegun c
damaged_begun def c a byte h = grind (arith, tag_begun)

-- ---- the summary

-- the slot that counts spells its summary
pub summary_undamaged : (c : List ℕ) (i : Slot) (s : Summary) (o : ℕ) (byte : Option ℕ) → counting c ≡ Some i
    → HasSummary c (counting c) s → IsSlotBroken (slot_bytes c i) o byte → ⊥
summary_undamaged c i s o byte counts summary broken =
    let has = subst (λ k. HasSummary c k s) counts summary in
    spelled_not_broken s (slot_bytes c i) o byte has.0 has.1 broken

-- ---- the log

length-recs : (rs : List Rec) → length (recs_image rs) ≡ 17 * length rs
length-recs [] = refl
length-recs (r ∷ rs) = omega (arith, length-append (rec_image r) (recs_image rs), length-recs rs)

-- a record of several is among their bytes
record_there : (rs : List Rec) (k : ℕ) → k < length rs → AreInRange rs
    → (r : Rec) × InRange r.point × (take 17 (drop (17 * k) (recs_image rs)) ≡ rec_image r)
record_there [] k below inside = absurd (omega (arith, below))
record_there (r ∷ rs) zero below inside = (r, inside.0, refl)
record_there (r ∷ rs) (suc k) below inside =
    let (x, fine, there) = record_there rs k (omega (arith, below)) inside.1 in
    let place : 17 * suc k ≡ 17 + 17 * k = omega arith in (
      x,
      fine,
      ap (λ n. take 17 (drop n (recs_image (r ∷ rs)))) place
          ∙ ap (take 17) (sym (drop-drop (17 * k) 17 (recs_image (r ∷ rs)))) ∙ there,
    )

-- its point is read of its bytes
point_same : (r : Rec) → InRange r.point → point_at (drop 1 (rec_image r)) ≡ r.point
point_same r inside = ap point_at (sym (append-nil (point_bytes r.point))) ∙ point_at-bytes r.point [] inside

-- the bytes of a record in range break at no place
spelled_holds : (r : Rec) (k : ℕ) → InRange r.point → BreaksAt (rec_image r) k → ⊥
spelled_holds r k inside (inl kind) = kind.1 r.kind refl
spelled_holds r k inside (inr (inl time)) = grind (arith, point_same)
spelled_holds r k inside (inr (inr value)) = grind (arith, point_same)

-- so a log with all of its records is not damaged
pub log_undamaged : (c : List ℕ) (at count a : ℕ) (byte : Option ℕ) (rs : List Rec) → at ≤ length c
    → HasRecords c at count rs → IsDamage c at count a byte → ⊥
log_undamaged c at count a byte rs within has (inl short) =
    let size : length (recs_image rs) ≡ length (take (17 * count) (drop at c)) = ap length has.records.image in
    omega (arith, size, length-recs rs, has.counted, length-take (17 * count) (drop at c), length-drop at c, short.short, within)
log_undamaged c at count a byte rs within has (inr (front, k, broken)) =
    let n = length front in
    let (r, inside, there) = record_there rs n (omega (arith, broken.before, has.counted)) has.records.in_range in
    let same : take 17 (drop (at + 17 * n) c) ≡ rec_image r =
    sym (part_of c at (17 * count) (17 * n) 17 (omega (arith, broken.before)))
    ∙ ap (λ l. take 17 (drop (17 * n) l)) (sym has.records.image) ∙ there in
    spelled_holds r k inside (subst (λ b. BreaksAt b k) same broken.breaks)

-- ---- the lane

-- a point of several is among their bytes
pub point_there : (n i : ℕ) (bytes : List ℕ) (d : Point) → i < n
    → get_or (slot_points n bytes) i d ≡ point_at (drop (16 * i) bytes)
point_there zero i bytes d below = absurd (omega (arith, below))
point_there (suc n) zero bytes d below = refl
point_there (suc n) (suc i) bytes d below =
    let place : 16 + 16 * i ≡ 16 * suc i = omega arith in
    point_there n i (drop 16 bytes) d (omega (arith, below))
    ∙ ap point_at (drop-drop (16 * i) 16 bytes ∙ ap (λ m. drop m bytes) place)

-- so is a point of a batch
pub batch_point : (slots : ℕ) (c : List ℕ) (k i : ℕ) (d : Point) → i < (batch_at slots c k).count → (batch_at slots c k).count ≤ 64
    → (length (batch_at slots c k).points ≡ (batch_at slots c k).count)
    × (get_or (batch_at slots c k).points i d ≡ point_at (drop (10 + 16 * i) (slot_at slots c k)))
batch_point slots c k i d below few =
    let n = (batch_at slots c k).count in
    let same : min 64 n ≡ n = omega (arith, few) in (
      length-points_in (min 64 n) (drop 10 (slot_at slots c k)) ∙ same,
      point_there (min 64 n) i (drop 10 (slot_at slots c k)) d (omega (arith, same, below))
          ∙ ap point_at (drop-drop (16 * i) 10 (slot_at slots c k)),
    )

-- an open slot that keeps the layout breaks it nowhere
pub slot_holds : (slots : ℕ) (c : List ℕ) (taken k o : ℕ) → IsSound slots c taken k → SlotBreaksAt slots c taken k o → ⊥
slot_holds slots c taken k o sound (inl count) = count.broken sound.counted
slot_holds slots c taken k o sound (inr (inl first)) = first.broken sound.follows
slot_holds slots c taken k o sound (inr (inr (i, point))) =
    let d = point_at [] in
    let (long, there) = batch_point slots c k i d point.there sound.counted.few in
    point.broken (subst InRange there (sound.in_range i d (omega (arith, long, point.there))))

pub lane_undamaged : (slots : ℕ) (c : List ℕ) (taken a : ℕ) (byte : Option ℕ) → IsLane slots c taken slots
    → IsLaneDamage slots c taken a byte → ⊥
lane_undamaged slots c taken a byte lane (k, o, broken) =
    slot_holds slots c taken k o (lane.sound k broken.within broken.opened) broken.breaks

-- ---- the values of the lane

-- each of those that find room finds it
pub fits_at : (step : Bool) (s : State) (ps : List Point) (n : ℕ) → AllFit step s (map Raw ps) → n < length ps
    → length (replay step s (map Raw (take n ps))).records + 2 ≤ most_records
fits_at step s [] n fits below = absurd (omega (arith, below))
fits_at step s (p ∷ ps) zero fits below = fits.0
fits_at step s (p ∷ ps) (suc n) fits below = fits_at step (after step s (Raw p)) ps n fits.1 (omega (arith, below))

-- slots hold no fewer values than those before them
pub grows : (slots taken : ℕ) (c : List ℕ) (m more : ℕ)
    → length (points_before slots c taken m) ≤ length (points_before slots c taken (m + more))
grows slots taken c m zero = omega (arith, ap (λ k. length (points_before slots c taken k)) (add-zero m))
grows slots taken c m (suc more) =
    let next : m + suc more ≡ m + more + 1 = omega arith in
    omega (
      arith,
      grows slots taken c m more,
      ap length (ap (points_before slots c taken) next ∙ points_more slots taken c (m + more)),
      length-append (points_before slots c taken (m + more)) (slot_points_of slots c taken (m + more)),
    )

-- a value that has a place is one of those up to its slot
pub before_and_at : (slots : ℕ) (c : List ℕ) (taken n a j i : ℕ) → IsValuePlace slots c taken n a j i
    → n < length (points_before slots c taken (j + 1))
before_and_at slots c taken n a j i at = grind (arith, points_open, points_more, length-append)

-- and so of the lane's
pub value_among : (slots : ℕ) (c : List ℕ) (taken n a j i : ℕ) → IsValuePlace slots c taken n a j i
    → n < length (lane_points slots c taken)
value_among slots c taken n a j i at =
    let rest = slots - (j + 1) in
    let whole : j + 1 + rest ≡ slots = omega (arith, at.slot) in
    omega (
      arith,
      before_and_at slots c taken n a j i at,
      grows slots taken c (j + 1) rest,
      ap (λ k. length (points_before slots c taken k)) whole,
    )

-- ---- all of it

module _ (def : TagDef) (c : List ℕ) (rs : List Rec) (sum : Summary) (s : State) (stored : IsStored def c rs sum)
    (replayed : IsReplayed def.step c (start_of c rs sum) sum.taken s) where
  one_sum : (x : Summary) → HasSummary c (counting c) x → x ≡ sum
  one_sum x has = summary_is_one c (counting c) x sum has stored.summary

  one_recs : (x : Summary) (xs : List Rec) → x ≡ sum → HasRecords c (log_place c) x.records xs → xs ≡ rs
  one_recs x xs same has = records_are_one c (log_place c) x.records sum.records xs rs (ap (λ y. y.records) same) has stored.records

  not_damaged : (a : ℕ) (byte : Option ℕ) → IsTagDamage def c a byte → ⊥
  not_damaged a byte (EndsShort begun ends) = omega (arith, ends.short, stored.tag.header.size, length-take 128 c)
  not_damaged a byte (BadHeader d) =
      none_broken (header_of c) (header_fields (header_of c)) a byte d.broken stored.tag.header.fields
  not_damaged a byte (BadLayout d) = omega (arith, d.ends.short, stored.long)
  not_damaged a byte (BadSummary i o d) = summary_undamaged c i sum o byte d.counts stored.summary d.broken
  not_damaged a byte (BadLog x d) =
      let same = one_sum x d.summary in
      log_undamaged c (log_place c) sum.records a byte rs stored.long stored.records
      (subst (λ y. IsDamage c (log_place c) y.records a byte) same d.broken)
  not_damaged a byte (BadParts xs x i d) =
      let same = one_sum x (subst (λ y. HasSummary c y x) (sym d.counts) d.summary) in
      let recs = one_recs x xs same d.records in
      d.broken (grind arith)
  not_damaged a byte (BadQueue xs x d) =
      let same = one_sum x d.stored.summary in
      lane_undamaged (slots_in (header_of c)) c sum.taken a byte replayed.lane
      (subst (λ y. IsLaneDamage (slots_in (header_of c)) c y.taken a byte) same d.broken)
  not_damaged a byte (BadValue xs x n j i d) =
      let slots = slots_in (header_of c) in
      let same = one_sum x d.stored.summary in
      let recs = one_recs x xs same d.stored.records in
      let points = lane_points slots c sum.taken in
      let room = fits_at def.step (start_of c rs sum) points n replayed.fits
      (value_among slots c sum.taken n a j i (subst (λ y. IsValuePlace slots c y.taken n a j i) same d.at)) in
      let full = subst (λ l. most_records < length (replay def.step (start_of c l sum) (map Raw (take n points))).records + 2) recs
      (grind arith) in
      omega (arith, room, full)

pub undamaged : (def : TagDef) (c : List ℕ) (s : State) (a : ℕ) (byte : Option ℕ) → Recovers def c s
    → IsTagDamage def c a byte → ⊥
undamaged def c s a byte (inl new) damage = not_new c (damaged_begun def c a byte damage) new.0
undamaged def c s a byte (inr (rs, sum, stored, replayed)) damage = not_damaged def c rs sum s stored replayed a byte damage
