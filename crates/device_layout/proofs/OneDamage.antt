-- A device has at most one damage: a later rule is reported only if all before it hold, and each rule has one first
-- place.
use Rattle.std.proofs.Common.{◌≡◌, inl, inr, ℕ, zero, suc, ◌+◌, ◌-◌, ◌<◌, ◌≤◌, List, [], length, get_or, take, map, Option, Some, refl, sym, ◌∙◌, ap, ap₂, subst, arith, length-take, add-zero, add-suc}
use Rattle.std.proofs.lemmas.{Bool.cases_order, List.get_or-take, List.take-take, List.length-take-le}
use Rattle.trend_num.specs.{Limits.most_records, declared.archive.Rec.Rec, declared.archive.Summary.Summary, declared.tag_def.TagDef.TagDef, Ranges.InRange}
use Rattle.trend_model.specs.{History.Raw, State.replay}
use Rattle.disk_model.specs.{IsBegun}
use Rattle.archive_file.specs.{Fields.point_at, Places.HasRecords, Places.BreaksAt, Places.IsRecordBroken, Places.IsDamage}
use Rattle.archive_file.proofs.FirstFields.{none_broken, one_broken}
use Rattle.event_queue.specs.{Slots.place_of, Slots.batch_at, Lanes.points_before, Lanes.lane_points, Lanes.IsLane, Damages.BreaksSlotAt as SlotBreaksAt, Damages.IsPointBroken, Damages.IsLaneDamage}
use Rattle.device_layout.specs.{declared.slot.Slot.Slot, slots_in, header_fields, summary_fields, IsHeader, IsSlotBroken, header_of, log_place, counting, slot_bytes, summary_place, HasSummary, start_of, IsStored, EndsBefore, StandsThere}
use Rattle.device_layout.specs.{IsTagDamage, IsHeaderDamage, IsLayoutDamage, IsSummaryDamage, IsLogDamage, ArePartsDamaged, IsQueueDamage, IsValuePlace, IsValueDamage}
use Rattle.device_layout.specs.Damages.IsTagDamage.{EndsShort, BadHeader, BadLayout, BadSummary, BadLog, BadParts, BadQueue, BadValue}
use Rattle.device_layout.proofs.{OneState.summary_is_one, OneState.records_are_one}
use Rattle.device_layout.proofs.Undamaged.{summary_undamaged, log_undamaged, lane_undamaged, slot_holds, batch_point, fits_at, grows, value_among, before_and_at}

-- ---- the first place of each rule

-- of a record
one_break : (b : List ℕ) (a k : ℕ) → BreaksAt b a → BreaksAt b k → a ≡ k
one_break b a k h g = grind arith

-- of a log, of which a later record is reported only if those before it are whole
earlier : (c : List ℕ) (at count a b : ℕ) (byte other : Option ℕ) (rs xs : List Rec) (k j : ℕ) → at ≤ length c
    → IsRecordBroken c at count a byte rs k → IsRecordBroken c at count b other xs j → length rs < length xs → ⊥
earlier c at count a b byte other rs xs k j long x y less =
    log_undamaged c at (length xs) a byte xs long (record { counted = refl; records = y.records }) (inr (
      rs,
      k,
      record {
        within = omega (arith, y.within, y.before);
        before = less;
        records = x.records;
        breaks = x.breaks;
        place = x.place;
        byte_there = x.byte_there;
      },
    ))

one_record : (c : List ℕ) (at count a b : ℕ) (byte other : Option ℕ) → at ≤ length c → IsDamage c at count a byte
    → IsDamage c at count b other → a ≡ b
one_record c at count a b byte other long (inl x) y = grind arith
one_record c at count a b byte other long (inr (rs, k, x)) (inl y) = absurd (omega (arith, y.short, x.within))
one_record c at count a b byte other long (inr (rs, k, x)) (inr (xs, j, y)) = elim (cases_order (length rs) (length xs)) [
  | inl same ↦
      grind (arith, one_break)
  | inr (inl less) ↦ absurd (earlier c at count a b byte other rs xs k j long x y less)
  | inr (inr more) ↦ absurd (earlier c at count b a other byte xs rs j k long y x more)
]

-- and its byte
record_byte : (c : List ℕ) (at count a b : ℕ) (byte other : Option ℕ) → IsDamage c at count a byte
    → IsDamage c at count b other → a ≡ b → byte ≡ other
record_byte c at count a b byte other h g same = grind arith

-- of a lane slot
point_before : (slots : ℕ) (c : List ℕ) (taken k o q i j : ℕ) → IsPointBroken slots c taken k o i
    → IsPointBroken slots c taken k q j → i < j → ⊥
point_before slots c taken k o q i j x y less =
    let b = batch_at slots c k in
    let d = point_at [] in
    let (long, there) = batch_point slots c k i d x.there x.counted.few in
    let inside = y.before i d (omega (arith, less, long, y.there, length-take j b.points)) in
    x.broken (subst InRange (get_or-take j b.points i d less ∙ there) inside)

one_slot_field : (slots : ℕ) (c : List ℕ) (taken k o q : ℕ) → SlotBreaksAt slots c taken k o
    → SlotBreaksAt slots c taken k q → o ≡ q
one_slot_field slots c taken k o q (inl x) y = grind arith
one_slot_field slots c taken k o q (inr (inl x)) y = grind arith
one_slot_field slots c taken k o q (inr (inr (i, x))) (inl y) = absurd (y.broken x.counted)
one_slot_field slots c taken k o q (inr (inr (i, x))) (inr (inl y)) = absurd (y.broken x.follows)
one_slot_field slots c taken k o q (inr (inr (i, x))) (inr (inr (j, y))) = elim (cases_order i j) [
  | inl same ↦ omega (arith, x.field, y.field, same)
  | inr (inl less) ↦ absurd (point_before slots c taken k o q i j x y less)
  | inr (inr more) ↦ absurd (point_before slots c taken k q o j i y x more)
]

one_slot : (slots : ℕ) (c : List ℕ) (taken a b : ℕ) (byte other : Option ℕ) → IsLaneDamage slots c taken a byte
    → IsLaneDamage slots c taken b other → (a ≡ b) × (byte ≡ other)
one_slot slots c taken a b byte other (k, o, x) (j, q, y) = elim (cases_order k j) [
  | inl same ↦
      let here = subst (λ m. SlotBreaksAt slots c taken m o) same x.breaks in
      let place : a ≡ b = x.place ∙ ap₂ (λ m n. place_of slots m + n) same (one_slot_field slots c taken j o q here y.breaks)
      ∙ sym y.place in
      (place, x.byte_there ∙ ap (λ i. Some (get_or c i 0)) place ∙ sym y.byte_there)
  | inr (inl less) ↦ absurd (slot_holds slots c taken k o (y.before.sound k less x.opened) x.breaks)
  | inr (inr more) ↦ absurd (slot_holds slots c taken j q (x.before.sound j more y.opened) y.breaks)
]

-- of the values
value_before : (def : TagDef) (c : List ℕ) (a b : ℕ) (byte other : Option ℕ) (rs : List Rec) (s : Summary) (n m j i k l : ℕ)
    → IsValueDamage def c a byte rs s n j i → IsValueDamage def c b other rs s m k l → n < m → ⊥
value_before def c a b byte other rs s n m j i k l x y less =
    let slots = slots_in (header_of c) in
    let points = lane_points slots c s.taken in
    let among = value_among slots c s.taken m b k l y.at in
    let front : length (take m points) ≡ m = length-take-le m points (omega (arith, among)) in
    let room = fits_at def.step (start_of c rs s) (take m points) n y.fit (omega (arith, front, less)) in
    let same : take n (take m points) ≡ take n points = take-take n m points (omega (arith, less)) in
    omega (arith, x.full, subst (λ l. length (replay def.step (start_of c rs s) (map Raw l)).records + 2 ≤ most_records) same room)

one_value : (slots : ℕ) (c : List ℕ) (taken n a b j i k l : ℕ) → IsValuePlace slots c taken n a j i
    → IsValuePlace slots c taken n b k l → a ≡ b
one_value slots c taken n a b j i k l x y = elim (cases_order j k) [
  | inl same ↦ grind arith
  | inr (inl less) ↦ absurd (value_apart slots c taken n a b j i k l x y less)
  | inr (inr more) ↦ absurd (value_apart slots c taken n b a k l j i y x more)
]
  where
    value_apart : (slots : ℕ) (c : List ℕ) (taken n a b j i k l : ℕ) → IsValuePlace slots c taken n a j i
        → IsValuePlace slots c taken n b k l → j < k → ⊥
    value_apart slots c taken n a b j i k l x y less =
        let rest = k - (j + 1) in
        let whole : j + 1 + rest ≡ k = omega (arith, less) in
        omega (
          arith,
          x.number,
          y.number,
          before_and_at slots c taken n a j i x,
          grows slots taken c (j + 1) rest,
          ap (λ m. length (points_before slots c taken m)) whole,
        )

-- ---- which rules hold if a later one is reported

module _ (def : TagDef) (c : List ℕ) where
  -- what rule k finds
  abbrev At : ℕ → ℕ → Option ℕ → Type 0
  At zero a byte = IsBegun c × EndsBefore 128 c a byte
  At (suc zero) a byte = IsHeaderDamage c a byte
  At (suc (suc zero)) a byte = IsLayoutDamage def c a byte
  At (suc (suc (suc zero))) a byte = (i : Slot) × (o : ℕ) × IsSummaryDamage def c a byte i o
  At (suc (suc (suc (suc zero)))) a byte = (s : Summary) × IsLogDamage def c a byte s
  At (suc (suc (suc (suc (suc zero))))) a byte = (rs : List Rec) × (s : Summary) × (i : Slot) × ArePartsDamaged def c a byte rs s i
  At (suc (suc (suc (suc (suc (suc zero)))))) a byte = (rs : List Rec) × (s : Summary) × IsQueueDamage def c a byte rs s
  At (suc (suc (suc (suc (suc (suc (suc zero))))))) a byte =
      (rs : List Rec) × (s : Summary) × (n : ℕ) × (j : ℕ) × (i : ℕ) × IsValueDamage def c a byte rs s n j i
  At (suc (suc (suc (suc (suc (suc (suc (suc k)))))))) a byte = ⊥

  found : (a : ℕ) (byte : Option ℕ) → IsTagDamage def c a byte → (k : ℕ) × At k a byte
  found a byte (EndsShort begun ends) = (0, (begun, ends))
  found a byte (BadHeader d) = (1, d)
  found a byte (BadLayout d) = (2, d)
  found a byte (BadSummary i o d) = (3, (i, o, d))
  found a byte (BadLog s d) = (4, (s, d))
  found a byte (BadParts rs s i d) = (5, (rs, s, i, d))
  found a byte (BadQueue rs s d) = (6, (rs, s, d))
  found a byte (BadValue rs s n j i d) = (7, (rs, s, n, j, i, d))

  -- rule k and all before it hold
  abbrev Held : ℕ → Type 0
  Held zero = 128 ≤ length c
  Held (suc zero) = IsHeader (header_of c)
  Held (suc (suc zero)) = IsHeader (header_of c) × (log_place c ≤ length c)
  Held (suc (suc (suc zero))) = IsHeader (header_of c) × (log_place c ≤ length c) × ((s : Summary) × HasSummary c (counting c) s)
  Held (suc (suc (suc (suc zero)))) = IsHeader (header_of c) × (log_place c ≤ length c)
      × ((s : Summary) × (rs : List Rec) × HasSummary c (counting c) s × HasRecords c (log_place c) s.records rs)
  Held (suc (suc (suc (suc (suc zero))))) = (rs : List Rec) × (s : Summary) × IsStored def c rs s
  Held (suc (suc (suc (suc (suc (suc zero)))))) = (rs : List Rec) × (s : Summary) × IsStored def c rs s
      × IsLane (slots_in (header_of c)) c s.taken (slots_in (header_of c))
  Held (suc (suc (suc (suc (suc (suc (suc k))))))) = ⊥

  down : (k : ℕ) → Held (suc k) → Held k
  down zero h = omega (arith, h.size, length-take 128 c)
  down (suc zero) h = h.0
  down (suc (suc zero)) h = (h.0, h.1)
  down (suc (suc (suc zero))) h = (h.0, h.1, (h.2.0, h.2.2))
  down (suc (suc (suc (suc zero)))) (rs, s, h) = (h.tag.header, h.long, (s, rs, h.summary, h.records))
  down (suc (suc (suc (suc (suc zero))))) (rs, s, h, lane) = (rs, s, h)
  down (suc (suc (suc (suc (suc (suc k)))))) h = absurd h

  reach : (k more : ℕ) → Held (k + more) → Held k
  reach k zero h = subst Held (add-zero k) h
  reach k (suc more) h = reach k more (down (k + more) (subst Held (add-suc k more) h))

  -- if rule k + 1 is reported, rule k and all before it hold
  before : (k a : ℕ) (byte : Option ℕ) → At (suc k) a byte → Held k
  before k a byte h3 = grind arith

  same_sum : (s x : Summary) → HasSummary c (counting c) s → HasSummary c (counting c) x → s ≡ x
  same_sum s x has other = summary_is_one c (counting c) s x has other

  same_recs : (s x : Summary) (rs xs : List Rec) → s ≡ x → HasRecords c (log_place c) s.records rs
      → HasRecords c (log_place c) x.records xs → rs ≡ xs
  same_recs s x rs xs same has other = grind (arith, records_are_one)

  -- if rule k holds, it is not reported
  refuted : (k a : ℕ) (byte : Option ℕ) → At k a byte → Held k → ⊥
  refuted zero a byte d h = omega (arith, d.1.short, h)
  refuted (suc zero) a byte d h = none_broken (header_of c) (header_fields (header_of c)) a byte d.broken h.fields
  refuted (suc (suc zero)) a byte d h = omega (arith, d.ends.short, h.1)
  refuted (suc (suc (suc zero))) a byte (i, o, d) (header, long, (s, summary)) =
      summary_undamaged c i s o byte d.counts summary d.broken
  refuted (suc (suc (suc (suc zero)))) a byte (s, d) (header, long, (x, xs, summary, records)) =
      log_undamaged c (log_place c) x.records a byte xs long records
      (subst (λ y. IsDamage c (log_place c) y.records a byte) (same_sum s x d.summary summary) d.broken)
  refuted (suc (suc (suc (suc (suc zero))))) a byte (rs, s, i, d) (xs, x, h) =
      let same = same_sum s x (subst (λ y. HasSummary c y s) (sym d.counts) d.summary) h.summary in
      let recs = same_recs s x rs xs same d.records h.records in
      d.broken (grind arith)
  refuted (suc (suc (suc (suc (suc (suc zero)))))) a byte (rs, s, d) (xs, x, h, lane) =
      lane_undamaged (slots_in (header_of c)) c x.taken a byte lane
      (subst (λ y. IsLaneDamage (slots_in (header_of c)) c y.taken a byte) (same_sum s x d.stored.summary h.summary) d.broken)
  refuted (suc (suc (suc (suc (suc (suc (suc k))))))) a byte d h = absurd h

  one_there : (a b : ℕ) (byte other : Option ℕ) → StandsThere c a byte → StandsThere c b other → a ≡ b
      → (a ≡ b) × (byte ≡ other)
  one_there a b byte other x y same = (same, x.byte_there ∙ ap (λ i. Some (get_or c i 0)) same ∙ sym y.byte_there)

  one_count : (i j : Slot) → counting c ≡ Some i → counting c ≡ Some j → i ≡ j
  one_count i j x y = grind arith

  -- each rule reports one place
  one_at : (k a b : ℕ) (byte other : Option ℕ) → At k a byte → At k b other → (a ≡ b) × (byte ≡ other)
  one_at zero a b byte other x y = (x.1.place ∙ sym y.1.place, x.1.none_there ∙ sym y.1.none_there)
  one_at (suc zero) a b byte other x y = one_broken (header_of c) (header_fields (header_of c)) a b byte other x.broken y.broken
  one_at (suc (suc zero)) a b byte other x y = (x.ends.place ∙ sym y.ends.place, x.ends.none_there ∙ sym y.ends.none_there)
  one_at (suc (suc (suc zero))) a b byte other (i, o, x) (j, q, y) =
      let slot = one_count i j x.counts y.counts in
      let bytes = slot_bytes c j in
      let one = one_broken bytes (summary_fields bytes) o q byte other
      (subst (λ k. IsSlotBroken (slot_bytes c k) o byte) slot x.broken) y.broken in
      (x.place ∙ ap₂ (λ k n. summary_place k + n) slot one.0 ∙ sym y.place, one.1)
  one_at (suc (suc (suc (suc zero)))) a b byte other (s, x) (z, y) =
      let broken = subst (λ v. IsDamage c (log_place c) v.records a byte) (same_sum s z x.summary y.summary) x.broken in
      let place = one_record c (log_place c) z.records a b byte other x.long broken y.broken in
      (place, record_byte c (log_place c) z.records a b byte other broken y.broken place)
  one_at (suc (suc (suc (suc (suc zero))))) a b byte other (rs, s, i, x) (xs, z, j, y) = grind (arith, one_there, one_count)
  one_at (suc (suc (suc (suc (suc (suc zero)))))) a b byte other (rs, s, x) (xs, z, y) =
      one_slot (slots_in (header_of c)) c z.taken a b byte other
      (subst (λ v. IsLaneDamage (slots_in (header_of c)) c v.taken a byte)
      (same_sum s z x.stored.summary y.stored.summary) x.broken) y.broken
  one_at (suc (suc (suc (suc (suc (suc (suc zero))))))) a b byte other (rs, s, n, j, i, x) (xs, z, m, k, l, y) =
      let same = same_sum s z x.stored.summary y.stored.summary in
      let recs = same_recs s z rs xs same x.stored.records y.stored.records in
      let x1 = subst (λ v. IsValueDamage def c a byte rs v n j i) same x in
      let x2 = subst (λ v. IsValueDamage def c a byte v z n j i) recs x1 in
      elim (cases_order n m) [
        | inl e ↦ one_there a b byte other x.there y.there
            (one_value (slots_in (header_of c)) c z.taken m a b j i k l
            (subst (λ v. IsValuePlace (slots_in (header_of c)) c z.taken v a j i) e x2.at) y.at)
        | inr (inl less) ↦ absurd (value_before def c a b byte other xs z n m j i k l x2 y less)
        | inr (inr more) ↦ absurd (value_before def c b a other byte xs z m n k l j i y x2 more)
      ]
  one_at (suc (suc (suc (suc (suc (suc (suc (suc k)))))))) a b byte other x y = absurd x

  -- a later rule is reported only if the earlier one is not
  in_order : (k j a b : ℕ) (byte other : Option ℕ) → At k a byte → At j b other → k < j → ⊥
  in_order k zero a b byte other x y less = omega (arith, less)
  in_order k (suc j) a b byte other x y less =
      let more = j - k in
      let whole : j ≡ k + more = omega (arith, less) in
      refuted k a byte x (reach k more (subst Held whole (before j b other y)))

  pub one_damage : (a b : ℕ) (byte other : Option ℕ) → IsTagDamage def c a byte → IsTagDamage def c b other
      → (a ≡ b) × (byte ≡ other)
  one_damage a b byte other x y =
      let one = found a byte x in
      let two = found b other y in
      elim (cases_order one.0 two.0) [
        | inl same ↦ one_at two.0 a b byte other (subst (λ k. At k a byte) same one.1) two.1
        | inr (inl less) ↦ absurd (in_order one.0 two.0 a b byte other one.1 two.1 less)
        | inr (inr more) ↦ absurd (in_order two.0 one.0 b a other byte two.1 one.1 more)
      ]
