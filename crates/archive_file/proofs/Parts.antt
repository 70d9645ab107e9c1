-- A summary is read of its bytes, part by part.
use Rattle.std.proofs.Common.{◌≡◌, ℕ, ◌/◌, ◌%◌, ◌≤◌, Bool, true, false, cond, eqb, List, [], ◌∷◌, ◌++◌, length, get_or, take, drop, Option, None, Some, is_some, IfSome, ap, ◌∙◌, arith, append_assoc}
use Rattle.std.proofs.lemmas.List.{drop_at}
use Rattle.std.specs.Int.{w32, w64, from_be_bytes, to_be_bytes}
use Rattle.std.proofs.lemmas.Nat.{from_be_bytes-to_be_bytes_8, from_be_bytes-to_be_bytes_4}
use Rattle.trend_num.specs.{Point, Summary, Tuning, InRange, TuningInRange, last_time, largest_value}
use Rattle.archive_file.specs.{number_bytes, place_bytes, point_at, flags, places_image, tuning_bytes, summary_image, IsSummary}
use Rattle.archive_file.proofs.Points.{place_at-bytes}
use Rattle.archive_file.proofs.Flags.{held_bit, pending_bit, hinge_bit, doors_bit, tuning_bit}

-- what is after the first part
pub behind : (b rest front back : List ℕ) (n : ℕ) → rest ≡ drop n b → b ≡ front ++ back → length front ≡ n
    → rest ≡ back
behind b rest front back n is whole long = is ∙ ap (drop n) whole ∙ drop_at front back n long

-- a place has 16 bytes
length-place : (p : Option Point) → length (place_bytes p) ≡ 16
length-place p = grind arith

-- a number below 2 ^ 56 in 8 bytes begins with a zero
deviation_wide : (n : ℕ) → n ≤ largest_value → 0 ∷ number_bytes 7 n ≡ to_be_bytes w64 n
deviation_wide n small = grind arith

-- one below 2 ^ 48 with two
time_wide : (n : ℕ) → n ≤ last_time → 0 ∷ 0 ∷ number_bytes 6 n ≡ to_be_bytes w64 n
time_wide n small = grind arith

-- so they are read
deviation_read : (n : ℕ) → n ≤ largest_value → from_be_bytes w64 (0 ∷ number_bytes 7 n) ≡ n
deviation_read n small = grind (arith, deviation_wide, from_be_bytes-to_be_bytes_8)

time_read : (n : ℕ) → n ≤ last_time → from_be_bytes w64 (0 ∷ 0 ∷ number_bytes 6 n) ≡ n
time_read n small = ap (from_be_bytes w64) (time_wide n small) ∙ from_be_bytes-to_be_bytes_8 n (omega arith)

-- the five numbers of a tuning are read of its bytes, one after the other
pub tuning_read : (t : Tuning) (b r1 r2 r3 r4 : List ℕ) → TuningInRange t → b ≡ tuning_bytes (Some t) → r1
    ≡ drop 7 b → r2 ≡ drop 6 r1 → r3 ≡ drop 7 r2 → r4 ≡ drop 6 r3
    → record {
      exc_dev = from_be_bytes w64 (0 ∷ take 7 b);
      exc_max = from_be_bytes w64 (0 ∷ 0 ∷ take 6 r1);
      comp_dev = from_be_bytes w64 (0 ∷ take 7 r2);
      comp_min = from_be_bytes w64 (0 ∷ 0 ∷ take 6 r3);
      comp_max = from_be_bytes w64 (0 ∷ 0 ∷ take 6 r4);
    } ≡ t
tuning_read t b r1 r2 r3 r4 tuned is e1 e2 e3 e4 =
    let s1 : r1 ≡ number_bytes 6 t.exc_max ++ (number_bytes 7 t.comp_dev
    ++ (number_bytes 6 t.comp_min ++ number_bytes 6 t.comp_max)) = e1 ∙ ap (drop 7) is in
    let s2 : r2 ≡ number_bytes 7 t.comp_dev ++ (number_bytes 6 t.comp_min ++ number_bytes 6 t.comp_max) = grind arith in
    let s3 : r3 ≡ number_bytes 6 t.comp_min ++ number_bytes 6 t.comp_max = e3 ∙ ap (drop 7) s2 in
    let s4 : r4 ≡ number_bytes 6 t.comp_max = e4 ∙ ap (drop 6) s3 in
    let exc_dev : from_be_bytes w64 (0 ∷ take 7 b) ≡ t.exc_dev = grind (arith, deviation_read) in
    let exc_max : from_be_bytes w64 (0 ∷ 0 ∷ take 6 r1)
    ≡ t.exc_max = ap (λ l. from_be_bytes w64 (0 ∷ 0 ∷ take 6 l)) s1 ∙ time_read t.exc_max tuned.exc_max in
    let comp_dev : from_be_bytes w64 (0 ∷ take 7 r2) ≡ t.comp_dev = grind (arith, deviation_read) in
    let comp_min : from_be_bytes w64 (0 ∷ 0 ∷ take 6 r3)
    ≡ t.comp_min = grind (arith, time_read) in
    let comp_max : from_be_bytes w64 (0 ∷ 0 ∷ take 6 r4)
    ≡ t.comp_max = grind (arith, time_read) in
    λ i. record {
      exc_dev = exc_dev i;
      exc_max = exc_max i;
      comp_dev = comp_dev i;
      comp_min =
          comp_min i;
      comp_max = comp_max i;
    }

-- a place at the front, by the bit that says whether it is there
pub place_read : (p : Option Point) (b more : List ℕ) (there : Bool) → IfSome p InRange → b ≡ place_bytes p
    ++ more → there ≡ is_some p
    → cond there (Some (point_at b)) None ≡ p
place_read p b more there inside is flag = grind (arith, place_at-bytes)

-- what the parts of a summary are read as
pub record AreRead (s : Summary) (b r1 r3 r4 r5 r6 r7 r8 : List ℕ) (there : ℕ) : Type 0 where
  pub taken : from_be_bytes w64 (take 8 b) ≡ s.taken
  pub records : from_be_bytes w32 (take 4 r1) ≡ s.records
  pub held : cond (eqb (there % 2) 1) (Some (point_at r3)) None ≡ s.held
  pub pending : cond (eqb (there / 2 % 2) 1) (Some (point_at r4)) None ≡ s.pending
  pub hinge : cond (eqb (there / 4 % 2) 1) (Some (point_at r5)) None ≡ s.hinge
  pub upper : cond (eqb (there / 8 % 2) 1) (Some (point_at r6)) None ≡ s.upper
  pub lower : cond (eqb (there / 8 % 2) 1) (Some (point_at r7)) None ≡ s.lower
  pub tuned : eqb (there / 16 % 2) 1 ≡ is_some s.tuning
  pub tuning : r8 ≡ tuning_bytes s.tuning

-- each part is after those before it
pub parts_read : (s : Summary) (b r1 r2 r3 r4 r5 r6 r7 r8 : List ℕ) (there : ℕ) → IsSummary s → b
    ≡ summary_image s → r1 ≡ drop 8 b → r2 ≡ drop 4 r1 → there ≡ get_or r2 0 0
    → r3 ≡ drop 4 r2 → r4 ≡ drop 16 r3 → r5 ≡ drop 16 r4 → r6 ≡ drop 16 r5 → r7 ≡ drop 16 r6 → r8 ≡ drop 16 r7
    → AreRead s b r1 r3 r4 r5 r6 r7 r8 there
parts_read s b r1 r2 r3 r4 r5 r6 r7 r8 there whole is e1 e2 flag e3 e4 e5 e6 e7 e8 =
    let t = tuning_bytes s.tuning in
    let s1 : r1 ≡ number_bytes 4 s.records ++ ((flags s ∷ 0 ∷ 0 ∷ 0 ∷ []) ++ (places_image s ++ t)) = grind arith in
    let s2 : r2 ≡ (flags s ∷ 0 ∷ 0 ∷ 0 ∷ []) ++ (places_image s ++ t) = e2 ∙ ap (drop 4) s1 in
    let says : there ≡ flags s = flag ∙ ap (λ l. get_or l 0 0) s2 in
    let s3 : r3 ≡ places_image s ++ t = e3 ∙ ap (drop 4) s2 in
    let p3 : r3 ≡ place_bytes s.held ++ ((place_bytes s.pending
    ++ (place_bytes s.hinge ++ (place_bytes s.upper ++ place_bytes s.lower))) ++ t) =
    s3 ∙ append_assoc (place_bytes s.held) (place_bytes s.pending
    ++ (place_bytes s.hinge ++ (place_bytes s.upper ++ place_bytes s.lower))) t in
    let p4 : r4 ≡ place_bytes s.pending ++ ((place_bytes s.hinge
    ++ (place_bytes s.upper ++ place_bytes s.lower)) ++ t) =
    behind r3 r4 (place_bytes s.held) ((place_bytes s.pending
    ++ (place_bytes s.hinge ++ (place_bytes s.upper ++ place_bytes s.lower))) ++ t) 16 e4 p3
    (length-place s.held)
    ∙ append_assoc (place_bytes s.pending) (place_bytes s.hinge
    ++ (place_bytes s.upper ++ place_bytes s.lower)) t in
    let p5 : r5 ≡ place_bytes s.hinge ++ ((place_bytes s.upper ++ place_bytes s.lower) ++ t) =
    behind r4 r5 (place_bytes s.pending) ((place_bytes s.hinge
    ++ (place_bytes s.upper ++ place_bytes s.lower)) ++ t) 16 e5 p4 (length-place s.pending)
    ∙ append_assoc (place_bytes s.hinge) (place_bytes s.upper ++ place_bytes s.lower) t in
    let p6 : r6 ≡ place_bytes s.upper ++ (place_bytes s.lower ++ t) =
    behind r5 r6 (place_bytes s.hinge) ((place_bytes s.upper ++ place_bytes s.lower) ++ t) 16 e6 p5
    (length-place s.hinge) ∙ append_assoc (place_bytes s.upper) (place_bytes s.lower) t in
    let p7 : r7 ≡ place_bytes s.lower ++ t = grind (arith, behind, length-place) in
    let p8 : r8 ≡ t = behind r7 r8 (place_bytes s.lower) t 16 e8 p7 (length-place s.lower) in
    record {
      taken = ap (λ l. from_be_bytes w64 (take 8 l)) is ∙ from_be_bytes-to_be_bytes_8 s.taken whole.taken;
      records = grind (arith, from_be_bytes-to_be_bytes_4);
      held = place_read s.held r3 _ (eqb (there % 2) 1) whole.held p3
          (ap (λ n. eqb (n % 2) 1) says ∙ held_bit s);
      pending = place_read s.pending r4 _ (eqb (there / 2 % 2) 1) whole.pending p4
          (ap (λ n. eqb (n / 2 % 2) 1) says ∙ pending_bit s);
      hinge = place_read s.hinge r5 _ (eqb (there / 4 % 2) 1) whole.hinge p5
          (ap (λ n. eqb (n / 4 % 2) 1) says ∙ hinge_bit s);
      upper = place_read s.upper r6 _ (eqb (there / 8 % 2) 1) whole.upper p6
          (ap (λ n. eqb (n / 8 % 2) 1) says ∙ doors_bit s);
      lower = place_read s.lower r7 _ (eqb (there / 8 % 2) 1) whole.lower p7
          (ap (λ n. eqb (n / 8 % 2) 1) says ∙ doors_bit s ∙ whole.doors);
      tuned = ap (λ n. eqb (n / 16 % 2) 1) says ∙ tuning_bit s;
      tuning = p8;
    }

-- a tuning that is there
pub tuning_some : (o : Option Tuning) (r : List ℕ) (t : Tuning) → is_some o ≡ true → IfSome o TuningInRange → r
    ≡ tuning_bytes o
    → ((u : Tuning) → TuningInRange u → r ≡ tuning_bytes (Some u) → t ≡ u) → Some t ≡ o
tuning_some o r t there tuned is reads = grind arith

-- and one that is not
pub tuning_none : (o : Option Tuning) → is_some o ≡ false → None ≡ o
tuning_none o absent = grind arith
