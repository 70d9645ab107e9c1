-- A row whose fields are kept, and rows read in turn.
use Rattle.std.proofs.Common.{◌≡◌, ℕ, ◌+◌, ◌-◌, ◌*◌, ◌^◌, ◌<◌, true, List, [], ◌∷◌, ◌++◌, All, length-append, append_assoc, Option, refl, sym, ap, ◌∙◌, subst, arith, lit<, ltb-true, leb-true}
use Rattle.std.proofs.lemmas.List.Elements.{All-push}
use Rattle.archive_file.proofs.Joins.{images_push}
use Rattle.archive_file.specs.{Field, BreaksFirst, Keeps, Spells, long_at, short_at, number_bytes}
use Rattle.commit_log.specs.{LogRow, IsLogRow, row_at, row_fields, row_image, rows_fields, rows_image, AddsRows}
use Rattle.archive_file.proofs.FieldLaws.{KeptUpTo, breaks_after, breaks_within, kept_more, spells_both}
use Rattle.archive_file.proofs.Windows.{then_spelled, value_spelled}

-- no field
abbrev none : Field
none = record { place = 0; size = 0; is_kept = true }

module _ (c : List ℕ) (tags at : ℕ) (r : LogRow) (kept : All (Keeps c) (row_fields tags r at)) where
  -- it is a row
  pub row_found : IsLogRow tags r
  row_found = record {
    tag = ltb-true _ _ (kept 0 none (lit< tt)).kept;
    point = record { time = leb-true _ _ (kept 3 none (lit< tt)).kept; value = leb-true _ _ (kept 4 none (lit< tt)).kept };
  }

-- its bytes, one number after the other
pub row_spelled : (c : List ℕ) (at : ℕ) → Spells c at (number_bytes 4 (short_at c at)) (at + 4)
    → Spells c (at + 4) (number_bytes 4 (short_at c (at + 4))) (at + 4 + 4) → Spells c (at + 8) (number_bytes 8 (long_at c (at + 8))) (at + 8 + 8)
    → Spells c (at + 16) (number_bytes 8 (long_at c (at + 16))) (at + 16 + 8) → Spells c (at + 24) (number_bytes 8 (long_at c (at + 24))) (at + 24 + 8)
    → long_at c (at + 24) < 2 ^ 64 → Spells c at (row_image (row_at c at)) (at + 32)
row_spelled c at tag collector row time value low =
    let end : at + 24 + 8 ≡ at + 32 = omega arith in
    then_spelled c at (at + 4) (at + 4) (at + 32) _ _ tag refl
    (then_spelled c (at + 4) (at + 4 + 4) (at + 8) (at + 32) _ _ collector (omega arith)
    (then_spelled c (at + 8) (at + 8 + 8) (at + 16) (at + 32) _ _ row (omega arith)
    (then_spelled c (at + 16) (at + 16 + 8) (at + 24) (at + 32) _ _ time (omega arith)
    (grind (arith, end, value_spelled)))))

-- ---- rows read in turn

-- one row more was added
pub adds_more : (c : List ℕ) (tags at k next : ℕ) (old mid new : List LogRow) (r : LogRow) → next ≡ at + 32 * k
    → AddsRows c tags at k old mid → new ≡ mid ++ r ∷ [] → IsLogRow tags r → Spells c next (row_image r) (next + 32)
    → AddsRows c tags at (k + 1) old new
adds_more c tags at k next old mid new r place so_far pushed row spelled = record {
  more = so_far.more ++ r ∷ [];
  are = pushed ∙ ap (λ l. l ++ r ∷ []) so_far.are ∙ append_assoc old so_far.more (r ∷ []);
  long = length-append so_far.more (r ∷ []) ∙ ap (λ n. n + 1) so_far.long;
  each = All-push (IsLogRow tags) so_far.more r so_far.each row;
  spelled = subst (λ bytes. Spells c at bytes (at + 32 * (k + 1))) (sym (images_push row_image so_far.more r))
      (subst (Spells c at (rows_image so_far.more ++ row_image r)) end
      (spells_both c at next (next + 32) (rows_image so_far.more) (row_image r)
      (subst (Spells c at (rows_image so_far.more)) (sym place) so_far.spelled) spelled));
}
  where
    end : next + 32 ≡ at + 32 * (k + 1)
    end = omega (arith, place)

module _ (c : List ℕ) (tags start at count k : ℕ) (low : k < count)
    (so_far : KeptUpTo c (rows_fields c tags start count) (rows_fields c tags at (count - k))) where
  -- the fields of the next row come first
  next_fields : KeptUpTo c (rows_fields c tags start count)
      (row_fields tags (row_at c at) at ++ rows_fields c tags (at + 32) (count - (k + 1)))
  next_fields = grind arith

  -- one row more is kept
  pub row_more : All (Keeps c) (row_fields tags (row_at c at) at)
      → KeptUpTo c (rows_fields c tags start count) (rows_fields c tags (at + 32) (count - (k + 1)))
  row_more kept = kept_more c _ (row_fields tags (row_at c at) at) _ next_fields kept

  -- the next row breaks a rule
  pub row_breaks : (a : ℕ) (byte : Option ℕ) → BreaksFirst c (row_fields tags (row_at c at) at) a byte
      → BreaksFirst c (rows_fields c tags start count) a byte
  row_breaks a byte breaks =
      breaks_after c _ _ a byte next_fields (breaks_within c (row_fields tags (row_at c at) at) _ a byte breaks)
