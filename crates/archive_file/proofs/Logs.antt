-- Records read and written one after the other.
use Rattle.std.proofs.Common.{◌≡◌, ⊎_elim, inl, inr, ℕ, ◌+◌, ◌*◌, ◌-◌, ◌<◌, ◌≤◌, List, [], ◌∷◌, ◌++◌, length, get_or, take, drop, Option, Some, unsigned_abs, ap, ◌∙◌, subst, arith, zero-add, length-append}
use Rattle.disk_model.specs.{Trace, seen, Reaches, Reads}
use Rattle.std.proofs.Math.Seq.{take-add}
use Rattle.std.proofs.lemmas.Bool.{cases_lt}
use Rattle.std.proofs.lemmas.Grind.{flat_map-append}
use Rattle.std.proofs.lemmas.List.{append-nil, get_or-take, get_or-drop, take-take, take_all, drop-take, drop-drop}
use Rattle.trend_num.specs.{Kind, Rec, InRange, last_time, largest_value}
use Rattle.archive_file.specs.{ScanNo, point_at, kind_byte, rec_image, Adds, AreInRange, AreRecords, BreaksAt, HasRecords, IsRecordBroken, IsDamage}
use Rattle.archive_file.specs.declared.failure.ScanNo.TheVariants.{Damaged}
use Rattle.archive_file.proofs.Points.{IsBytes, rec_spelled}
use Rattle.archive_file.proofs.Joins.{joined}

-- records in range after records in range
in_range_joined : (rs qs : List Rec) → AreInRange rs → AreInRange qs → AreInRange (rs ++ qs)
in_range_joined [] qs first second = second
in_range_joined (r ∷ rs) qs first second = (first.0, in_range_joined rs qs first.1 second)

-- records of the next bytes after records
records_joined : (s : List ℕ) (at k m : ℕ) (rs qs : List Rec) → AreRecords rs (take (17 * k) (drop at s))
    → AreRecords qs (take (17 * m) (drop (at + 17 * k) s)) → AreRecords (rs ++ qs) (take (17 * (k + m)) (drop at s))
records_joined s at k m rs qs first second =
    let longer : 17 * (k + m) ≡ 17 * k + 17 * m = omega arith in
    record {
      in_range = in_range_joined rs qs first.in_range second.in_range;
      image = grind (arith, flat_map-append, drop-drop, take-add);
    }

-- at first no record is added
pub adds_none : (s : List ℕ) (at : ℕ) (old : List Rec) → Adds s at 0 old old
adds_none s at old = grind (arith, append-nil)

-- k records and then m records are k + m records
adds_joined : (s : List ℕ) (at k m : ℕ) (old mid new : List Rec) → Adds s at k old mid
    → Adds s (at + 17 * k) m mid new → Adds s at (k + m) old new
adds_joined s at k m old mid new first second = record {
  added = first.added ++ second.added;
  behind = joined old mid new first.added second.added first.behind second.behind;
  there = record {
    counted = omega (arith, length-append first.added second.added, first.there.counted, second.there.counted);
    records = records_joined s at k m first.added second.added first.there.records second.there.records;
  };
}

-- one more, read of the next 17 bytes
pub adds_more : (bytes b : List ℕ) (k : ℕ) (old mid new : List Rec) (r : Rec) → Adds bytes 0 k old mid
    → b ≡ take 17 (drop (17 * k) bytes) → InRange r.point → b ≡ rec_image r → new ≡ mid ++ r ∷ []
    → Adds bytes 0 (k + 1) old new
adds_more bytes b k old mid new r before here inside is more = grind (arith, append-nil, zero-add, adds_joined)

-- where the kind and the time are those of a record and the bytes spell none, the value is out of range
pub value_breaks : (b : List ℕ) (k : Kind) → length b ≡ 17 → IsBytes b → get_or b 0 0 ≡ kind_byte k
    → (point_at (drop 1 b)).t ≤ last_time
    → ((r : Rec) → InRange r.point → b ≡ rec_image r → ⊥)
    → largest_value < unsigned_abs (point_at (drop 1 b)).v
value_breaks b k long bytes says time none = ⊎_elim (λ above. above)
    (λ within. absurd (none (record { kind = k; point = point_at (drop 1 b) })
    (record { time = time; value = within }) (rec_spelled b k long bytes says)))
    (cases_lt largest_value (unsigned_abs (point_at (drop 1 b)).v))

-- the damage of the k-th record
pub broken_here : (bytes b : List ℕ) (at count k j a : ℕ) (byte : Option ℕ) (rs : List Rec) (why : ScanNo)
    → length bytes ≡ 17 * count → k < count → length rs ≡ k
    → AreRecords rs (take (17 * k) bytes) → b ≡ take 17 (drop (17 * k) bytes) → BreaksAt b j → j < 17 → why
    ≡ Damaged (at + 17 * k + j) (Some (get_or b j 0)) → why ≡ Damaged a byte
    → (p : ℕ) × (a ≡ at + p) × (rs : List Rec) × (i : ℕ) × IsRecordBroken bytes 0 count p byte rs i
broken_here bytes b at count k j a byte rs why whole here counted records is breaks within said told =
    let place : at + 17 * k + j ≡ a = cc in
    let there : Some (get_or b j 0) ≡ byte = cc in
    let read : get_or b j 0 ≡ get_or bytes (17 * k + j) 0 = grind (arith, get_or-take, get_or-drop) in
    let start : 0 + 17 * length rs ≡ 17 * k = omega (arith, counted) in (grind arith)

-- what is read of a part of a device is on the device: some of its bytes, and one of them
pub part_of : (s : List ℕ) (at size m n : ℕ) → m + n ≤ size → take n (drop m (take size (drop at s)))
    ≡ take n (drop (at + m) s)
part_of s at size m n fits =
    let rest = size - m in
    let whole : size ≡ m + rest = omega arith in
    ap (λ k. take n (drop m (take k (drop at s)))) whole ∙ ap (take n) (drop-take m rest (drop at s))
    ∙ take-take n rest (drop m (drop at s)) (omega arith) ∙ ap (take n) (drop-drop m at s)

pub byte_of : (s : List ℕ) (at size p : ℕ) → p < size → get_or (take size (drop at s)) p 0
    ≡ get_or s (at + p) 0
byte_of s at size p below = get_or-take size (drop at s) p 0 below ∙ get_or-drop at s p 0

-- a place that breaks is one of the 17
breaks_below : (b : List ℕ) (k : ℕ) → BreaksAt b k → k < 17
breaks_below b k h = grind arith

-- so the damage of the part is one of the device
damage_at : (o : Trace) (at count a : ℕ) (byte : Option ℕ) (part : List ℕ)
    → Reaches o (at + 17 * count) → length part ≡ 17 * count → Reads o at part
    → (p : ℕ) × (a ≡ at + p) × (rs : List Rec) × (k : ℕ) × IsRecordBroken part 0 count p byte rs k
    → IsDamage (seen o) at count a byte
damage_at t at count a byte part room long reads broken =
    let s = seen t in
    let p = broken.0 in
    let rs = broken.2 in
    let k = broken.3 in
    let b = broken.4 in
    let is : part ≡ take (17 * count) (drop at s) = reads ∙ ap (λ n. take n (drop at s)) long in
    let below : k < 17 = breaks_below (take 17 (drop (0 + 17 * length rs) part)) k b.breaks in
    let first : take (17 * length rs) part ≡ take (17 * length rs) (drop at s) =
    ap (take (17 * length rs)) is ∙ take-take (17 * length rs) (17 * count) (drop at s)
    (omega (arith, b.before)) in
    let bad : take 17 (drop (0 + 17 * length rs) part) ≡ take 17 (drop (at + 17 * length rs) s) =
    ap (λ n. take 17 (drop n part)) (zero-add (17 * length rs))
    ∙ ap (λ l. take 17 (drop (17 * length rs) l)) is
    ∙ part_of s at (17 * count) (17 * length rs) 17 (omega (arith, b.before)) in
    inr (grind (arith, byte_of))

-- what is added of a part of a device is added of the device
pub added_at : (o : Trace) (at count : ℕ) (part : List ℕ) (old new : List Rec) → length part ≡ 17 * count
    → Reads o at part → Adds part 0 count old new → Adds (seen o) at count old new
added_at t at count part old new long reads adds = grind (arith, take_all)

-- the next piece of a device after those before
pub added_next : (o : Trace) (at k m : ℕ) (old mid new : List Rec)
    → Adds (seen o) at k old mid → Adds (seen o) (at + 17 * k) m mid new
    → Adds (seen o) at (k + m) old new
added_next t at k m old mid new first second = adds_joined (seen t) at k m old mid new first second

-- all that is added to an empty list
pub added_all : (o : Trace) (at count : ℕ) (old new : List Rec) → old ≡ []
    → Adds (seen o) at count old new → HasRecords (seen o) at count new
added_all o at count old new none adds = grind arith

-- damage in a piece after whole records is damage of the whole
damage_behind : (o : Trace) (at k m count a : ℕ) (byte : Option ℕ) (old mid : List Rec)
    → Reaches o (at + 17 * count) → k + m ≤ count → Adds (seen o) at k old mid
    → IsDamage (seen o) (at + 17 * k) m a byte
    → IsDamage (seen o) at count a byte
damage_behind t at k m count a byte old mid room fits before (inl short) =
    absurd (omega (arith, short.short, room, fits))
damage_behind t at k m count a byte old mid room fits before (inr broken) =
    let s = seen t in
    let rs = before.added in
    let qs = broken.0 in
    let b = broken.2 in
    let long : k + length qs ≡ length (rs ++ qs) = omega (arith, length-append rs qs, before.there.counted) in
    let place : at + 17 * k + 17 * length qs ≡ at + 17 * length (rs ++ qs) = omega (arith, long) in
    inr (
      rs ++ qs,
      broken.1,
      record {
        within = room;
        before = omega (arith, long, b.before, fits);
        records = subst (λ n. AreRecords (rs ++ qs) (take (17 * n) (drop at s))) long
            (records_joined s at k (length qs) rs qs before.there.records b.records);
        breaks = subst (λ n. BreaksAt (take 17 (drop n s)) broken.1) place b.breaks;
        place = omega (arith, b.place, place);
        byte_there = b.byte_there;
      },
    )

-- so is damage in the next piece that is read
pub damage_next : (o : Trace) (at k m count a : ℕ) (byte : Option ℕ) (part : List ℕ) (old mid : List Rec)
    → Reaches o (at + 17 * count) → k + m ≤ count → Adds (seen o) at k old mid
    → length part ≡ 17 * m → Reads o (at + 17 * k) part
    → (p : ℕ) × (a ≡ at + 17 * k + p) × (rs : List Rec) × (i : ℕ) × IsRecordBroken part 0 m p byte rs i
    → IsDamage (seen o) at count a byte
damage_next t at k m count a byte part old mid room fits before long reads broken =
    damage_behind t at k m count a byte old mid room fits before
    (damage_at t (at + 17 * k) m a byte part (omega (arith, room, fits)) long reads broken)
