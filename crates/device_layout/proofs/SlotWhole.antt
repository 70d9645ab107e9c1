-- A slot of which no field breaks the layout spells a summary.
use Rattle.std.proofs.Common.{◌≡◌, ℕ, ◌+◌, ◌≤◌, Bool, true, false, cond, not, ◌||◌, leb, All, List, [], ◌∷◌, ◌++◌, length, get_or, take, drop, Option, None, Some, is_some, IfSome, refl, sym, ap, ◌∙◌, arith, lit<}
use Rattle.std.proofs.lemmas.{Bool.and_parts, Bool.leb-true, List.drop_more}
use Rattle.std.specs.Int.{w32, w64, from_be_bytes}
use Rattle.trend_num.specs.{declared.point.Point.Point, declared.archive.Summary.Summary, declared.tuning.Tuning.Tuning, Ranges.InRange, Ranges.TuningInRange, Ranges.last_time, Ranges.largest_value}
use Rattle.archive_file.specs.{place_bytes, point_at, flags, places_image, tuning_bytes, summary_image, IsSummary, Keeps}
use Rattle.archive_file.proofs.{FieldLaws.field_of, Points.IsBytes}
use Rattle.device_layout.specs.{has_flag, are_flags_ok, are_zeros, is_in_range, short_number, summary_fields}
use Rattle.device_layout.proofs.{SlotTests.is_inside, SlotFlags.beside, SlotFlags.flags_in_is, SlotFlags.flags_are}
use Rattle.device_layout.proofs.SlotPieces.{cut, five_and_more, zeros_are, eight_below, four_below, length-piece, bytes_of_piece, last_piece, eight, four, seven, six, sixteen}

-- ---- what may be there

-- it is there where its flag is set
there_is : {A : Type 0} (there : Bool) (x : A) → is_some (cond there (Some x) None) ≡ there
there_is there x = grind arith

-- a point that is there is in range
point_inside : (there : Bool) (p : Point) → (not there || is_in_range p) ≡ true
    → IfSome (cond there (Some p) None) InRange
point_inside there p ok = grind (arith, is_inside)

-- a tuning that is there is one
tuning_inside : (there : Bool) (t : Tuning) → (not there || leb t.exc_dev largest_value) ≡ true
    → (not there || leb t.exc_max last_time) ≡ true → (not there || leb t.comp_dev largest_value) ≡ true
    → (not there || leb t.comp_min last_time) ≡ true → (not there || leb t.comp_max last_time) ≡ true
    → IfSome (cond there (Some t) None) TuningInRange
tuning_inside there t exc_dev exc_max comp_dev comp_min comp_max = grind (arith, leb-true)

-- ---- the summary

-- the tuning in the last 32 bytes
abbrev tuning_there : List ℕ → Tuning
tuning_there b = record {
  exc_dev = short_number b 96 7;
  exc_max = short_number b 103 6;
  comp_dev = short_number b 109 7;
  comp_min = short_number b 116 6;
  comp_max = short_number b 122 6;
}

-- the point at a place, if it is there
abbrev place_there : List ℕ → ℕ → ℕ → Option Point
place_there b bit at = cond (has_flag b bit) (Some (point_at (drop at b))) None

-- the summary in a slot
abbrev summary_there : List ℕ → Summary
summary_there b = record {
  taken = from_be_bytes w64 (take 8 b);
  records = from_be_bytes w32 (take 4 (drop 8 b));
  held = place_there b 1 16;
  pending = place_there b 2 32;
  hinge = place_there b 4 48;
  upper = place_there b 8 64;
  lower = place_there b 8 80;
  tuning = cond (has_flag b 16) (Some (tuning_there b)) None;
}

-- ---- its bytes

module _ (b : List ℕ) (long : length b ≡ 128) (bytes : IsBytes b) where
  -- those of a point, or zeros
  place_spelled : (there : Bool) (at : ℕ) → at + 16 ≤ 128 → (there || are_zeros b at 16) ≡ true
      → take 16 (drop at b) ≡ place_bytes (cond there (Some (point_at (drop at b))) None)
  place_spelled true at within ok = sixteen b long bytes at within
  place_spelled false at within ok = zeros_are (take 16 (drop at b)) 16 (length-piece b long bytes at 16 within) ok

  -- those of a tuning, or zeros
  tuning_spelled : (there : Bool) → (there || are_zeros b 96 32) ≡ true
      → drop 96 b ≡ tuning_bytes (cond there (Some (tuning_there b)) None)
  tuning_spelled true ok =
      cut b 96 7 _ _ (seven b long bytes 96 (omega arith))
      (cut b 103 6 _ _ (six b long bytes 103 (omega arith))
      (cut b 109 7 _ _ (seven b long bytes 109 (omega arith))
      (cut b 116 6 _ _ (six b long bytes 116 (omega arith))
      (sym (last_piece b long bytes 122 6 refl) ∙ six b long bytes 122 (omega arith)))))
  tuning_spelled false ok =
      sym (last_piece b long bytes 96 32 refl)
      ∙ zeros_are (take 32 (drop 96 b)) 32 (length-piece b long bytes 96 32 (omega arith)) ok

  -- those of the flags, and three zeros
  flags_spelled : are_flags_ok b ≡ true → are_zeros b 13 3 ≡ true
      → take 4 (drop 12 b) ≡ flags (summary_there b) ∷ 0 ∷ 0 ∷ 0 ∷ []
  flags_spelled ok zeros =
      let n = get_or b 12 0 in
      let small : n ≤ 31 = leb-true n 31 (and_parts (leb n 31) _ ok).0 in
      let same : flags (summary_there b) ≡ n = grind (arith, flags_are, there_is, flags_in_is) in
      let rest : take 3 (drop 13 b) ≡ 0 ∷ 0 ∷ 0 ∷ [] =
      zeros_are (take 3 (drop 13 b)) 3 (length-piece b long bytes 13 3 (omega arith)) zeros in
      ap (take 4) (drop_more b 12 0 (omega (arith, long))) ∙ ap (λ l. n ∷ l) rest
      ∙ ap (λ k. k ∷ 0 ∷ 0 ∷ 0 ∷ []) (sym same)

  -- all of them
  all_spelled : All (Keeps b) (summary_fields b) → b ≡ summary_image (summary_there b)
  all_spelled kept =
      let s = summary_there b in
      let d = field_of 0 0 true in
      let places : drop 16 b ≡ places_image s ++ tuning_bytes s.tuning =
      cut b 16 16 _ _ (place_spelled (has_flag b 1) 16 (omega arith) (kept 2 d (lit< tt)).kept)
      (cut b 32 16 _ _ (place_spelled (has_flag b 2) 32 (omega arith) (kept 3 d (lit< tt)).kept)
      (cut b 48 16 _ _ (place_spelled (has_flag b 4) 48 (omega arith) (kept 4 d (lit< tt)).kept)
      (cut b 64 16 _ _ (place_spelled (has_flag b 8) 64 (omega arith) (kept 5 d (lit< tt)).kept)
      (cut b 80 16 _ _ (place_spelled (has_flag b 8) 80 (omega arith) (kept 6 d (lit< tt)).kept)
      (tuning_spelled (has_flag b 16) (kept 7 d (lit< tt)).kept)))))
      ∙ sym (grind (arith, five_and_more)) in
      cut b 0 8 _ _ (eight b long bytes 0 (omega arith))
      (cut b 8 4 _ _ (four b long bytes 8 (omega arith))
      (cut b 12 4 _ _ (flags_spelled (kept 0 d (lit< tt)).kept (kept 1 d (lit< tt)).kept) places))

  -- and it is a summary that has a spelling
  is_summary : All (Keeps b) (summary_fields b) → IsSummary (summary_there b)
  is_summary kept =
      let d = field_of 0 0 true in
      let flags_ok : are_flags_ok b ≡ true = (kept 0 d (lit< tt)).kept in
      let with_held = beside (has_flag b 1) (has_flag b 4) (has_flag b 2) (has_flag b 8)
      (and_parts (leb (get_or b 12 0) 31) _ flags_ok).1 in
      let held = there_is (has_flag b 1) (point_at (drop 16 b)) in
      let pending = there_is (has_flag b 2) (point_at (drop 32 b)) in
      let hinge = there_is (has_flag b 4) (point_at (drop 48 b)) in
      let upper = there_is (has_flag b 8) (point_at (drop 64 b)) in
      let lower = there_is (has_flag b 8) (point_at (drop 80 b)) in
      record {
        taken = eight_below (take 8 b) (bytes_of_piece b long bytes 0 8);
        records = four_below (take 4 (drop 8 b)) (bytes_of_piece b long bytes 8 4);
        together = held ∙ with_held.together ∙ sym hinge;
        pending_after = λ there. held ∙ with_held.pending_after (sym pending ∙ there);
        doors = upper ∙ sym lower;
        doors_after = λ there. held ∙ with_held.doors_after (sym upper ∙ there);
        held = point_inside (has_flag b 1) _ (kept 8 d (lit< tt)).kept;
        pending = point_inside (has_flag b 2) _ (kept 9 d (lit< tt)).kept;
        hinge = point_inside (has_flag b 4) _ (kept 10 d (lit< tt)).kept;
        upper = point_inside (has_flag b 8) _ (kept 11 d (lit< tt)).kept;
        lower = point_inside (has_flag b 8) _ (kept 12 d (lit< tt)).kept;
        tuning = tuning_inside (has_flag b 16) (tuning_there b) (kept 13 d (lit< tt)).kept
            (kept 14 d (lit< tt)).kept (kept 15 d (lit< tt)).kept
            (kept 16 d (lit< tt)).kept (kept 17 d (lit< tt)).kept;
      }

  -- a slot of which no field breaks the layout spells a summary
  pub spells_one : All (Keeps b) (summary_fields b) → (s : Summary) × IsSummary s × (b ≡ summary_image s)
  spells_one kept = (summary_there b, is_summary kept, all_spelled kept)
