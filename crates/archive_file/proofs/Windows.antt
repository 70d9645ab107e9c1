-- What is known of a window holds of the bytes that it shows the first of; what is known of the bytes from a place on
-- holds of the image.
use Rattle.std.proofs.Common.{◌≡◌, ℕ, ◌+◌, ◌-◌, ◌^◌, ◌<◌, ◌≤◌, All, List, [], ◌∷◌, ◌++◌, length, get_or, take, drop, map, Option, sym, ap, ◌∙◌, subst, arith, length-take, length-drop}
use Rattle.std.proofs.Math.Seq.{take-add, take-append_seam}
use Rattle.std.proofs.lemmas.List.{drop-drop, drop-take, get_or-drop, get_or-take, map-append, take-take, take_all}
use Rattle.std.proofs.lemmas.List.Elements.{All-map}
use Rattle.std.proofs.lemmas.Int.{of_z-to_z}
use Rattle.std.specs.Int.{w32, w64, cast_signed, from_be_bytes}
use Rattle.archive_file.specs.{number_bytes, value_bytes, Field, moved, Breaks, BreaksFirst, Keeps, Spells, long_at, short_at, AreAsked, IsAsked}
use Rattle.archive_file.proofs.FieldLaws.{spells_both}

-- refused bytes break among them, or at their end
pub breaks_low : (c : List ℕ) (fields : List Field) (a : ℕ) (byte : Option ℕ) → BreaksFirst c fields a byte → a ≤ length c
breaks_low c fields a byte first = grind arith

-- ---- the first bytes

module _ (c : List ℕ) (n : ℕ) where
  pub window_part : (i k : ℕ) → i + k ≤ n → take k (drop i (take n c)) ≡ take k (drop i c)
  window_part i k within =
      let long : n ≡ i + (n - i) = omega arith in
      ap (λ s. take k (drop i (take s c))) long ∙ ap (take k) (drop-take i (n - i) c) ∙ take-take k (n - i) (drop i c) (omega arith)

  pub window_short : (i : ℕ) → i + 4 ≤ n → short_at (take n c) i ≡ short_at c i
  window_short i within = ap (from_be_bytes w32) (window_part i 4 within)

  pub window_long : (i : ℕ) → i + 8 ≤ n → long_at (take n c) i ≡ long_at c i
  window_long i within = ap (from_be_bytes w64) (window_part i 8 within)

  -- what is spelled among them
  pub window_spells : (at end : ℕ) (bytes : List ℕ) → Spells (take n c) at bytes end → Spells c at bytes end
  window_spells at end bytes is = grind (arith, window_part, length-take)

  window_keeps : (f : Field) → Keeps (take n c) f → Keeps c f
  window_keeps f is = grind (arith, length-take)

  window_breaks : (f : Field) (a : ℕ) (byte : Option ℕ) → IsAsked n f → Breaks (take n c) f a byte → Breaks c f a byte
  window_breaks f a byte asked is = grind (arith, length-take, get_or-take)

  pub window_kept : (fields : List Field) → All (Keeps (take n c)) fields → All (Keeps c) fields
  window_kept fields kept = λ k d low. window_keeps (get_or fields k d) (kept k d low)

  -- a field of them that was asked for
  asked_in : (before behind : List Field) (f : Field) → AreAsked n (before ++ f ∷ behind) → IsAsked n f
  asked_in [] behind f are = are.0
  asked_in (e ∷ before) behind f are = asked_in before behind f are.1

  -- the first field that breaks a rule
  pub window_first : (fields : List Field) (a : ℕ) (byte : Option ℕ) → AreAsked n fields → BreaksFirst (take n c) fields a byte
      → BreaksFirst c fields a byte
  window_first fields a byte asked first = record {
    before = first.before;
    field = first.field;
    behind = first.behind;
    are = first.are;
    kept = window_kept first.before first.kept;
    breaks = window_breaks first.field a byte (asked_in first.before first.behind first.field (subst (AreAsked n) first.are asked)) first.breaks;
  }

-- ---- the bytes from a place on

module _ (c : List ℕ) (from : ℕ) (starts : from ≤ length c) where
  -- what is spelled among them
  pub rest_spells : (at end : ℕ) (bytes : List ℕ) → Spells (drop from c) at bytes end → Spells c (from + at) bytes (from + end)
  rest_spells at end bytes is = grind (arith, drop-drop, length-drop)

  rest_keeps : (f : Field) → Keeps (drop from c) f → Keeps c (moved from f)
  rest_keeps f is = grind (arith, length-drop)

  rest_breaks : (f : Field) (a : ℕ) (byte : Option ℕ) → Breaks (drop from c) f a byte → Breaks c (moved from f) (from + a) byte
  rest_breaks f a byte is = grind (arith, length-drop, get_or-drop)

  pub rest_first : (fields : List Field) (a : ℕ) (byte : Option ℕ) → BreaksFirst (drop from c) fields a byte
      → BreaksFirst c (map (moved from) fields) (from + a) byte
  rest_first fields a byte first = record {
    before = map (moved from) first.before;
    field = moved from first.field;
    behind = map (moved from) first.behind;
    are = ap (map (moved from)) first.are ∙ map-append (moved from) first.before (first.field ∷ first.behind);
    kept = All-map (Keeps c) (moved from) first.before (λ k d low. rest_keeps (get_or first.before k d) (first.kept k d low));
    breaks = rest_breaks first.field a byte first.breaks;
  }

-- ---- what was read in turn

-- two pieces, where the first one ends at the place of the second
pub then_spelled : (c : List ℕ) (at mid next end : ℕ) (xs ys : List ℕ) → Spells c at xs mid → next ≡ mid → Spells c next ys end
    → Spells c at (xs ++ ys) end
then_spelled c at mid next end xs ys first same second =
    spells_both c at mid end xs ys first (subst (λ n. Spells c n ys end) same second)

-- a value, by the number of its bytes
pub value_spelled : (c : List ℕ) (at end n : ℕ) → n < 2 ^ 64 → Spells c at (number_bytes 8 n) end → Spells c at (value_bytes (cast_signed w64 n)) end
value_spelled c at end n low spelled = subst (λ m. Spells c at (number_bytes 8 m) end) (sym (of_z-to_z w64 n low)) spelled

-- numbers among them
pub rest_short : (c : List ℕ) (from i : ℕ) → short_at (drop from c) i ≡ short_at c (from + i)
rest_short c from i = ap (λ l. from_be_bytes w32 (take 4 l)) (drop-drop i from c)

pub rest_long : (c : List ℕ) (from i : ℕ) → long_at (drop from c) i ≡ long_at c (from + i)
rest_long c from i = ap (λ l. from_be_bytes w64 (take 8 l)) (drop-drop i from c)

-- ---- a window that is filled

-- bytes that were there before more room
pub grown_front : (old tail grown : List ℕ) (done whole : ℕ) → done ≡ length old → length old ≤ whole → grown ≡ take whole old ++ tail
    → take done grown ≡ old
grown_front old tail grown done whole done_is low is = grind (arith, take_all, take-append_seam)

-- the bytes that are there, and those behind them
pub filled : (c : List ℕ) (at done whole : ℕ) (old grown new : List ℕ) → done ≡ length old → done ≤ whole → length grown ≡ whole
    → take done grown ≡ old → old ≡ take (length old) (drop at c)
    → new ≡ take done grown ++ take (length grown - done) (drop (at + done) c) → new ≡ take whole (drop at c)
filled c at done whole old grown new done_is low long same shown are =
    let parts : whole ≡ done + (whole - done) = omega arith in
    are ∙ ap (λ l. l ++ take (length grown - done) (drop (at + done) c)) (same ∙ shown ∙ ap (λ n. take n (drop at c)) (sym done_is))
    ∙ ap (λ n. take done (drop at c) ++ take (n - done) (drop (at + done) c)) long
    ∙ ap (λ l. take done (drop at c) ++ take (whole - done) l) (sym (drop-drop done at c))
    ∙ sym (take-add done (whole - done) (drop at c)) ∙ ap (λ n. take n (drop at c)) (sym parts)
