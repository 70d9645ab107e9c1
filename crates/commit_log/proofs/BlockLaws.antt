-- A block, by the bytes from its gate on, and in the image.
use Rattle.std.proofs.Common.{◌≡◌, ℕ, zero, suc, ◌+◌, ◌*◌, ◌≤◌, ◌&&◌, true, All, List, ◌∷◌, [], ◌++◌, Option, append_assoc, length, drop, map, refl, sym, ap, ◌∙◌, subst, arith, nat_eq, nat_le, nat_lt, unsigned_abs}
use Rattle.std.proofs.lemmas.List.{map-append}
use Rattle.std.specs.Int.{w64, cast_signed}
use Rattle.trend_num.specs.{last_time, largest_value}
use Rattle.archive_file.specs.{number_bytes, moved, BreaksFirst, Keeps, Spells, long_at, short_at}
use Rattle.archive_file.proofs.FieldLaws.{breaks_behind, breaks_within, field_of}
use Rattle.archive_file.proofs.Windows.{rest_long, rest_short, then_spelled}
use Rattle.commit_log.specs.{LogRow, block_fields, body_fields, front_fields, most_in_block, rows_fields, AddsBlock, AddsRows}

-- ---- its fields

module _ (c : List ℕ) (tags gate : ℕ) where
  -- those of the rows
  rows_here : (n at to : ℕ) → to ≡ gate + at → map (moved gate) (rows_fields (drop gate c) tags at n) ≡ rows_fields c tags to n
  rows_here zero at to place = refl
  rows_here (suc n) at to place =
      let first = rest_short c gate at ∙ ap (short_at c) (sym place) in
      let rest = rows_here n (at + 32) (to + 32) (omega (arith, place)) in
      λ i. field_of (sym place i) 4 (nat_lt (first i) tags) ∷ field_of (behind 4 i) 4 true ∷ field_of (behind 8 i) 8 true
      ∷ field_of (behind 16 i) 8 (nat_le (long 16 i) last_time)
      ∷ field_of (behind 24 i) 8 (nat_le (unsigned_abs (cast_signed w64 (long 24 i))) largest_value) ∷ rest i
    where
      behind : (k : ℕ) → gate + (at + k) ≡ to + k
      behind k = omega (arith, place)

      long : (k : ℕ) → long_at (drop gate c) (at + k) ≡ long_at c (to + k)
      long k = rest_long c gate (at + k) ∙ ap (long_at c) (behind k)

  -- those behind the front
  body_here : (n : ℕ) → map (moved gate) (body_fields (drop gate c) tags 13 n) ≡ body_fields c tags (gate + 13) n
  body_here n = grind (arith, map-append, field_of, rows_here)

  -- all of them
  pub block_here : (number : ℕ) → map (moved gate) (block_fields (drop gate c) tags number 0) ≡ block_fields c tags number gate
  block_here number =
      let long = rest_long c gate 1 in
      let count = rest_short c gate 9 in
      let body = body_here (short_at (drop gate c) 9) ∙ ap (body_fields c tags (gate + 13)) count in
      λ i. field_of (gate + 1) 8 (nat_eq (long i) number) ∷ field_of (gate + 9) 4 (nat_le 1 (count i) && nat_le (count i) most_in_block) ∷ body i

-- ---- its rows

-- they were added after its front
pub block_added : (c : List ℕ) (tags count size : ℕ) (old new : List LogRow) → Spells c 1 (number_bytes 8 (length old) ++ number_bytes 4 count) 13
    → 1 ≤ count → count ≤ most_in_block → AddsRows c tags 13 count old new → size ≡ 13 + 32 * count → AddsBlock c tags old new size
block_added c tags count size old new front some few added size_is = grind (arith, append_assoc, then_spelled)

-- ---- where it breaks a rule first

-- in its front
pub front_breaks : (c : List ℕ) (tags read number a : ℕ) (byte : Option ℕ) → read ≡ number → BreaksFirst c (front_fields c read 0) a byte
    → BreaksFirst c (block_fields c tags number 0) a byte
front_breaks c tags read number a byte same breaks =
    subst (λ n. BreaksFirst c (block_fields c tags n 0) a byte) same
    (breaks_within c (front_fields c read 0) (body_fields c tags 13 (short_at c 9)) a byte breaks)

module _ (c : List ℕ) (tags read number count a : ℕ) (byte : Option ℕ) (same : read ≡ number) (kept : All (Keeps c) (front_fields c read 0))
    (count_is : count ≡ short_at c 9) where
  body_breaks : BreaksFirst c (body_fields c tags 13 count) a byte → BreaksFirst c (block_fields c tags number 0) a byte
  body_breaks breaks =
      subst (λ n. BreaksFirst c (block_fields c tags n 0) a byte) same
      (breaks_behind c (front_fields c read 0) (body_fields c tags 13 (short_at c 9)) a byte kept
      (subst (λ n. BreaksFirst c (body_fields c tags 13 n) a byte) count_is breaks))

  -- in its rows
  pub rows_break : BreaksFirst c (rows_fields c tags 13 count) a byte → BreaksFirst c (block_fields c tags number 0) a byte
  rows_break breaks = body_breaks (breaks_within c (rows_fields c tags 13 count) (field_of (13 + 32 * count) 1 true ∷ []) a byte breaks)

  -- at the next gate
  pub gate_breaks : All (Keeps c) (rows_fields c tags 13 count) → BreaksFirst c (field_of (13 + 32 * count) 1 true ∷ []) a byte
      → BreaksFirst c (block_fields c tags number 0) a byte
  gate_breaks rows breaks = body_breaks (breaks_behind c (rows_fields c tags 13 count) (field_of (13 + 32 * count) 1 true ∷ []) a byte rows breaks)
