-- A point is read of its bytes, and its bytes are those that it was read of.
use Rattle.std.proofs.Common.{◌≡◌, ⊎_elim, ℕ, ◌+◌, ◌^◌, ◌<◌, cond, List, [], ◌∷◌, ◌++◌, length, get_or, take, drop, Option, None, Some, is_some, IfSome, refl, sym, ap, ◌∙◌, subst, arith, length-take, length-drop, take-append-drop}
use Rattle.std.specs.Int.{w64, from_be_bytes}
use Rattle.std.proofs.lemmas.Nat.{be_bytes_8, from_be_bytes-to_be_bytes_8}
use Rattle.std.proofs.lemmas.Int.{ints, to_z-of_z, of_z-to_z}
use Rattle.std.proofs.lemmas.List.{get_or-take, get_or-drop, get_or_past, take_all, append-nil, drop_more}
use Rattle.std.proofs.lemmas.Bool.{cases_lt}
use Rattle.trend_num.specs.{Point, Rec, Kind, InRange}
use Rattle.archive_file.specs.{number_bytes, point_bytes, place_bytes, point_at, kind_byte, rec_image}
use mir.Val.{SFits, of_z, to_z}

-- each of these is a byte
abbrev pub IsBytes : List ℕ → Type 0
IsBytes bs = (i : ℕ) → get_or bs i 0 < 256

-- a value in range has 64 bits
fits : (p : Point) → InRange p → SFits w64 p.v
fits p inside = let value = inside.value in grind (arith, ints)

-- what is in the bytes of a point, with more after them
pub point_at-bytes : (p : Point) (more : List ℕ) → InRange p → point_at (point_bytes p ++ more) ≡ p
point_at-bytes p more inside = grind (arith, from_be_bytes-to_be_bytes_8, fits, to_z-of_z, ints)

-- a place is read as what it holds
pub place_at-bytes : (p : Option Point) (more : List ℕ) → IfSome p InRange
    → cond (is_some p) (Some (point_at (place_bytes p ++ more))) None ≡ p
place_at-bytes None more inside = refl
place_at-bytes (Some p) more inside = ap Some (point_at-bytes p more inside)

-- 8 bytes are those of the number that they are
number_8 : (bs : List ℕ) → length bs ≡ 8 → IsBytes bs → number_bytes 8 (from_be_bytes w64 bs) ≡ bs
number_8 bs long bytes = be_bytes_8 bs (from_be_bytes w64 bs) long bytes refl

-- and it has 64 bits
number_8_below : (bs : List ℕ) → IsBytes bs → from_be_bytes w64 bs < 2 ^ 64
number_8_below bs bytes = grind arith

-- 16 bytes are those of the point that is there
pub point_bytes-at : (bs : List ℕ) → length bs ≡ 16 → IsBytes bs → point_bytes (point_at bs) ≡ bs
point_bytes-at bs long bytes =
    let first = take 8 bs in
    let second = take 8 (drop 8 bs) in
    let first_long : length first ≡ 8 = omega (arith, length-take 8 bs) in
    let second_long : length second ≡ 8 = omega (arith, length-take 8 (drop 8 bs), length-drop 8 bs) in
    let all : take 8 (drop 8 bs) ≡ drop 8 bs = take_all 8 (drop 8 bs) (omega (arith, length-drop 8 bs)) in
    let value : of_z w64 (to_z w64 (from_be_bytes w64 second)) ≡ from_be_bytes w64 second =
    grind (arith, of_z-to_z, number_8_below, second_bytes) in
    grind (arith, number_8, second_bytes, first_bytes, take-append-drop)
  where
    byte_of_take : (n : ℕ) (l : List ℕ) → IsBytes l → IsBytes (take n l)
    byte_of_take n l each i = ⊎_elim (λ below. omega (arith, get_or-take n l i 0 below, each i))
        (λ above. omega (arith, get_or_past (take n l) i 0 (omega (arith, length-take n l)))) (cases_lt i n)

    first_bytes : IsBytes (take 8 bs)
    first_bytes = byte_of_take 8 bs bytes

    second_bytes : IsBytes (take 8 (drop 8 bs))
    second_bytes = byte_of_take 8 (drop 8 bs) (λ i. omega (arith, get_or-drop 8 bs i 0, bytes (8 + i)))

-- a record is read of its bytes
pub rec_read : (b : List ℕ) (k : Kind) (r : Rec) → get_or b 0 0 ≡ kind_byte k → InRange r.point → b
    ≡ rec_image r → record { kind = k; point = point_at (drop 1 b) } ≡ r
rec_read b k r says inside is =
    let kind : k ≡ r.kind = same_kind k r.kind (sym says ∙ ap (λ l. get_or l 0 0) is) in
    let point : point_at (drop 1 b) ≡ r.point = ap (λ l. point_at (drop 1 l)) is
    ∙ ap point_at (sym (append-nil (point_bytes r.point))) ∙ point_at-bytes r.point [] inside in
    λ i. record { kind = kind i; point = point i }
  where
    same_kind : (j k : Kind) → kind_byte j ≡ kind_byte k → j ≡ k
    same_kind j k is = grind arith

-- its bytes are those that it was read of
pub rec_spelled : (b : List ℕ) (k : Kind) → length b ≡ 17 → IsBytes b → get_or b 0 0 ≡ kind_byte k → b
    ≡ rec_image (record { kind = k; point = point_at (drop 1 b) })
rec_spelled b k long bytes says =
    let rest_long : length (drop 1 b) ≡ 16 = omega (arith, length-drop 1 b) in
    let rest_bytes : IsBytes (drop 1 b) = λ i. omega (arith, get_or-drop 1 b i 0, bytes (1 + i)) in
    drop_more b 0 0 (omega (arith, long)) ∙ ap (λ n. n ∷ drop 1 b) says
    ∙ ap (λ l. kind_byte k ∷ l) (sym (point_bytes-at (drop 1 b) rest_long rest_bytes))

-- what is read of bytes that spell a record in range is that record, and no other
pub rec_here : (b : List ℕ) (k : Kind) → length b ≡ 17 → IsBytes b → get_or b 0 0 ≡ kind_byte k
    → InRange (point_at (drop 1 b)) → (r : Rec)
    → (Some (record { kind = k; point = point_at (drop 1 b) }) ≡ Some r → InRange r.point × (b ≡ rec_image r))
    × (InRange r.point × (b ≡ rec_image r) → Some (record { kind = k; point = point_at (drop 1 b) }) ≡ Some r)
rec_here b k long bytes says inside r = grind (arith, rec_read, rec_spelled)

-- nothing is read of bytes whose point is out of range
pub rec_outside : (b : List ℕ) (k : Kind) → get_or b 0 0 ≡ kind_byte k → (InRange (point_at (drop 1 b)) → ⊥)
    → (r : Rec)
    → (None ≡ Some r → InRange r.point × (b ≡ rec_image r))
    × (InRange r.point × (b ≡ rec_image r) → None ≡ Some r)
rec_outside b k says outside r = (
  λ is. absurd (cc (is)),
  λ both. absurd
      (outside (subst (λ x. InRange x.point) (sym (rec_read b k r says both.0 both.1)) both.0)),
)
