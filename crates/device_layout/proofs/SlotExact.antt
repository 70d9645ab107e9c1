-- The bytes of a summary break the layout of a slot at no field.
use Rattle.std.proofs.Common.{◌≡◌, ℕ, ◌+◌, ◌≤◌, Bool, true, not, ◌||◌, leb, eqb, All, List, ◌∷◌, ◌++◌, length, get_or, take, drop, Option, None, Some, is_some, IfSome, refl, sym, ap, ◌∙◌, arith}
use Rattle.std.proofs.lemmas.List.{drop-drop, drop_at}
use Rattle.std.proofs.lemmas.Bool.{and_from, or_left, or_right, not_from_false, le-leb}
use Rattle.std.specs.{Int.w64, Int.from_be_bytes, List.list_all}
use Rattle.trend_num.specs.{declared.point.Point.Point, declared.archive.Summary.Summary, declared.tuning.Tuning.Tuning, Ranges.InRange, Ranges.TuningInRange, Ranges.last_time, Ranges.largest_value}
use Rattle.archive_file.specs.{Fields.number_bytes, Fields.place_bytes, Fields.point_at, Summaries.tuning_bytes, Summaries.summary_image, Summaries.IsSummary, Keeps}
use Rattle.archive_file.proofs.{FirstFields.kept_in, FirstFields.none_broken, Points.point_at-bytes}
use Rattle.device_layout.specs.{has_flag, are_flags_ok, are_zeros, is_in_range, summary_fields, IsSlotBroken}
use Rattle.device_layout.proofs.{SlotNumbers.length-place, SlotNumbers.length-summary_image, SlotTests.inside_is, SlotFlags.beside_passes, SlotFlags.AreBits, SlotFlags.bits_of_flags, SlotPieces.five_and_more}

-- what is after a piece
behind_piece : (b piece rest : List ℕ) (at n : ℕ) → length piece ≡ n → drop at b ≡ piece ++ rest
    → drop (at + n) b ≡ rest
behind_piece b piece rest at n long is = sym (drop-drop n at b) ∙ ap (drop n) is ∙ drop_at piece rest n long

-- a place of a point, or of zeros
place_passes : (o : Option Point) (there : Bool) (b rest : List ℕ) (at : ℕ) → there ≡ is_some o
    → drop at b ≡ place_bytes o ++ rest → (there || are_zeros b at 16) ≡ true
place_passes o there b rest at flag is = grind (arith, or_right, or_left)

-- the point there, which is in range
point_passes : (o : Option Point) (there : Bool) (b rest : List ℕ) (at : ℕ) → IfSome o InRange → there ≡ is_some o
    → drop at b ≡ place_bytes o ++ rest → (not there || is_in_range (point_at (drop at b))) ≡ true
point_passes None there b rest at inside flag is = or_left (not there) _ (not_from_false there flag)
point_passes (Some p) there b rest at inside flag is =
    let read : point_at (drop at b) ≡ p = ap point_at is ∙ point_at-bytes p rest inside in
    or_right (not there) _ (ap is_in_range read ∙ inside_is p inside)

-- a tuning, or zeros
tuning_passes : (o : Option Tuning) (there : Bool) (b : List ℕ) → there ≡ is_some o
    → drop 96 b ≡ tuning_bytes o → (there || are_zeros b 96 32) ≡ true
tuning_passes o there b flag is = grind (arith, or_right, or_left)

-- a deviation is read of its 7 bytes
seven_read : (n : ℕ) → n ≤ largest_value → from_be_bytes w64 (0 ∷ number_bytes 7 n) ≡ n
seven_read n small = omega arith

-- a time of its 6
six_read : (n : ℕ) → n ≤ last_time → from_be_bytes w64 (0 ∷ 0 ∷ number_bytes 6 n) ≡ n
six_read n small = omega arith

-- a number passes that is read and small
number_passes : (there : Bool) (n m most : ℕ) → n ≡ m → m ≤ most → (not there || leb n most) ≡ true
number_passes there n m most is small = or_right (not there) _ (le-leb n most (omega (arith, is)))

-- the five numbers of a tuning that is there pass
numbers_there : (t : Tuning) (b : List ℕ) → TuningInRange t → drop 96 b ≡ tuning_bytes (Some t)
    → list_all (λ f. f.is_kept) (drop 13 (summary_fields b)) ≡ true
numbers_there t b tuned is =
    let r5 = number_bytes 6 t.comp_max in
    let r4 = number_bytes 6 t.comp_min ++ r5 in
    let r3 = number_bytes 7 t.comp_dev ++ r4 in
    let r2 = number_bytes 6 t.exc_max ++ r3 in
    let s2 : drop 103 b ≡ r2 = behind_piece b (number_bytes 7 t.exc_dev) r2 96 7 refl is in
    let s3 : drop 109 b ≡ r3 = behind_piece b (number_bytes 6 t.exc_max) r3 103 6 refl s2 in
    let s4 : drop 116 b ≡ r4 = behind_piece b (number_bytes 7 t.comp_dev) r4 109 7 refl s3 in
    let s5 : drop 122 b ≡ r5 = behind_piece b (number_bytes 6 t.comp_min) r5 116 6 refl s4 in
    let there = has_flag b 16 in
    let seven = λ (l : List ℕ). from_be_bytes w64 (0 ∷ take 7 l) in
    let six = λ (l : List ℕ). from_be_bytes w64 (0 ∷ 0 ∷ take 6 l) in
    and_from _ _ (number_passes there _ _ _ (ap seven is ∙ seven_read t.exc_dev tuned.exc_dev) tuned.exc_dev)
    (and_from _ _ (number_passes there _ _ _ (ap six s2 ∙ six_read t.exc_max tuned.exc_max) tuned.exc_max)
    (and_from _ _ (number_passes there _ _ _ (ap seven s3 ∙ seven_read t.comp_dev tuned.comp_dev) tuned.comp_dev)
    (and_from _ _ (number_passes there _ _ _ (ap six s4 ∙ six_read t.comp_min tuned.comp_min) tuned.comp_min)
    (and_from _ _ (number_passes there _ _ _ (ap six s5 ∙ six_read t.comp_max tuned.comp_max) tuned.comp_max) refl))))

-- and so do those of one that is absent
numbers_pass : (o : Option Tuning) (b : List ℕ) → has_flag b 16 ≡ is_some o → IfSome o TuningInRange
    → drop 96 b ≡ tuning_bytes o → list_all (λ f. f.is_kept) (drop 13 (summary_fields b)) ≡ true
numbers_pass None b flag tuned is = rw flag refl
numbers_pass (Some t) b flag tuned is = numbers_there t b tuned is

-- ---- a summary

-- the rest of a slot from each of its parts on
record HasParts (s : Summary) (b : List ℕ) : Type 0 where
  rest_32 : List ℕ
  rest_48 : List ℕ
  rest_64 : List ℕ
  rest_80 : List ℕ
  at_16 : drop 16 b ≡ place_bytes s.held ++ rest_32
  at_32 : drop 32 b ≡ place_bytes s.pending ++ rest_48
  at_48 : drop 48 b ≡ place_bytes s.hinge ++ rest_64
  at_64 : drop 64 b ≡ place_bytes s.upper ++ rest_80
  at_80 : drop 80 b ≡ place_bytes s.lower ++ tuning_bytes s.tuning
  at_96 : drop 96 b ≡ tuning_bytes s.tuning

-- those of a summary's bytes
parts_of : (s : Summary) (b : List ℕ) → b ≡ summary_image s → HasParts s b
parts_of s b is =
    let t = tuning_bytes s.tuning in
    let r80 = place_bytes s.lower ++ t in
    let r64 = place_bytes s.upper ++ r80 in
    let r48 = place_bytes s.hinge ++ r64 in
    let r32 = place_bytes s.pending ++ r48 in
    let s16 : drop 16 b ≡ place_bytes s.held ++ r32 = grind (arith, five_and_more) in
    let s32 : drop 32 b ≡ r32 = behind_piece b (place_bytes s.held) r32 16 16 (length-place s.held) s16 in
    let s48 : drop 48 b ≡ r48 = grind (arith, behind_piece, length-place) in
    let s64 : drop 64 b ≡ r64 = behind_piece b (place_bytes s.hinge) r64 48 16 (length-place s.hinge) s48 in
    let s80 : drop 80 b ≡ r80 = behind_piece b (place_bytes s.upper) r80 64 16 (length-place s.upper) s64 in
    grind (arith, behind_piece, length-place)

module _ (s : Summary) (b : List ℕ) (summary : IsSummary s) (is : b ≡ summary_image s) where
  -- its flags say what is there
  flags_say : AreBits (get_or b 12 0) (is_some s.held) (is_some s.pending) (is_some s.hinge) (is_some s.upper)
      (is_some s.tuning)
  flags_say = grind (arith, bits_of_flags)

  -- the flags go together
  flags_pass : are_flags_ok b ≡ true
  flags_pass = grind (arith, flags_say, and_from, beside_passes)

  -- each field keeps the layout
  pub spelled_kept : All (Keeps b) (summary_fields b)
  spelled_kept =
      let says = flags_say in
      let parts = parts_of s b is in
      let lower : has_flag b 8 ≡ is_some s.lower = says.doors_bit ∙ summary.doors in
      let numbers = numbers_pass s.tuning b says.tuning_bit summary.tuning parts.at_96 in
      kept_in b (summary_fields b) 128 (ap length is ∙ length-summary_image s) refl
      (and_from _ _ flags_pass
      (and_from _ _ (ap (λ l. list_all (λ x. eqb x 0) (take 3 (drop 13 l))) is)
      (and_from _ _ (place_passes s.held _ b _ 16 says.held_bit parts.at_16)
      (and_from _ _ (place_passes s.pending _ b _ 32 says.pending_bit parts.at_32)
      (and_from _ _ (place_passes s.hinge _ b _ 48 says.hinge_bit parts.at_48)
      (and_from _ _ (place_passes s.upper _ b _ 64 says.doors_bit parts.at_64)
      (and_from _ _ (place_passes s.lower _ b _ 80 lower parts.at_80)
      (and_from _ _ (tuning_passes s.tuning _ b says.tuning_bit parts.at_96)
      (and_from _ _ (point_passes s.held _ b _ 16 summary.held says.held_bit parts.at_16)
      (and_from _ _ (point_passes s.pending _ b _ 32 summary.pending says.pending_bit parts.at_32)
      (and_from _ _ (point_passes s.hinge _ b _ 48 summary.hinge says.hinge_bit parts.at_48)
      (and_from _ _ (point_passes s.upper _ b _ 64 summary.upper says.doors_bit parts.at_64)
      (and_from _ _ (point_passes s.lower _ b _ 80 summary.lower lower parts.at_80) numbers)))))))))))))

-- so no slot that spells a summary is broken
pub spelled_not_broken : (s : Summary) (b : List ℕ) (at : ℕ) (byte : Option ℕ) → IsSummary s → b ≡ summary_image s
    → IsSlotBroken b at byte → ⊥
spelled_not_broken s b at byte summary is broken =
    none_broken b (summary_fields b) at byte broken (spelled_kept s b summary is)
