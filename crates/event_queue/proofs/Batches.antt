-- The bytes of a batch, written and read.
use Rattle.std.proofs.Common.{◌≡◌, ℕ, zero, suc, ◌+◌, ◌*◌, ◌^◌, ◌<◌, ◌≤◌, List, [], ◌∷◌, ◌++◌, length, get_or, take, drop, flat_map, refl, sym, ◌∙◌, ap, arith, append_assoc, add-one, length-append}
use Rattle.std.proofs.lemmas.{Grind.common_steps, List.take_all, List.drop-drop, List.Elements.All-head, List.Elements.All-tail, Nat.from_be_bytes-to_be_bytes_2, Nat.from_be_bytes-to_be_bytes_8}
use Rattle.std.specs.List.{All}
use Rattle.trend_num.specs.{declared.point.Point.Point, Ranges.InRange}
use Rattle.archive_file.specs.{number_bytes, point_bytes, point_at}
use Rattle.archive_file.proofs.{Joins.images_more, Points.point_at-bytes}
use Rattle.event_queue.specs.{batch_bytes, slot_points, batch_in}

-- so many points of a batch are written after its two numbers
pub record IsWritten (first : ℕ) (points : List Point) (i : ℕ) (bytes : List ℕ) : Type 0 where
  pub items : bytes ≡ number_bytes 8 first ++ (number_bytes 2 (length points) ++ flat_map point_bytes (take i points))
  pub long : length bytes ≡ 10 + 16 * i

-- one point more
pub written_more : (first : ℕ) (points : List Point) (i : ℕ) (p : Point) (bytes new : List ℕ)
    → IsWritten first points i bytes → i < length points → p ≡ get_or points i p → new ≡ bytes ++ point_bytes p
    → IsWritten first points (i + 1) new
written_more first points i p bytes new so_far there is more =
    grind (arith, common_steps, append_assoc, images_more, length-append)

-- none are
pub written_none : (first : ℕ) (points : List Point) (none one two n8 n2 : List ℕ) → none ≡ [] → one ≡ none ++ n8
    → two ≡ one ++ n2 → n8 ≡ number_bytes 8 first → n2 ≡ number_bytes 2 (length points) → IsWritten first points 0 two
written_none first points none one two n8 n2 empty put8 put2 is8 is2 = grind arith

-- all are
pub written_all : (first : ℕ) (points : List Point) (i : ℕ) (bytes : List ℕ) → length points ≤ i
    → IsWritten first points i bytes → bytes ≡ batch_bytes first points
written_all first points i bytes all so_far = grind (arith, take_all)

-- one point more read
pub points_in_more : (i : ℕ) (bytes : List ℕ) → slot_points (i + 1) bytes ≡ slot_points i bytes
    ++ point_at (drop (16 * i) bytes) ∷ []
points_in_more zero bytes = refl
points_in_more (suc i) bytes =
    ap (λ n. slot_points n bytes) (add-one (suc i))
    ∙ ap (λ ps. point_at bytes ∷ ps) (ap (λ n. slot_points n (drop 16 bytes)) (sym (add-one i))
    ∙ points_in_more i (drop 16 bytes))
    ∙ ap (λ l. point_at bytes ∷ (slot_points i (drop 16 bytes) ++ point_at l ∷ []))
    (drop-drop (16 * i) 16 bytes ∙ ap (λ n. drop n bytes) (omega arith))

-- so many points begin where the others end
pub points_behind : (i : ℕ) (bytes rest behind : List ℕ) → rest ≡ drop (16 * i) bytes → behind ≡ drop 16 rest
    → behind ≡ drop (16 * (i + 1)) bytes
points_behind i bytes rest behind is next =
    next ∙ ap (drop 16) is ∙ drop-drop 16 (16 * i) bytes ∙ ap (λ n. drop n bytes) (omega arith)

-- so many points are so many
pub length-points_in : (n : ℕ) (bytes : List ℕ) → length (slot_points n bytes) ≡ n
length-points_in zero bytes = refl
length-points_in (suc n) bytes = omega (arith, length-points_in n (drop 16 bytes))

-- the first of more points
pub take-points_in : (i n : ℕ) (bytes : List ℕ) → i ≤ n → take i (slot_points n bytes) ≡ slot_points i bytes
take-points_in zero n bytes le = refl
take-points_in (suc i) zero bytes le = absurd (omega (arith, le))
take-points_in (suc i) (suc n) bytes le = cc (take-points_in i n (drop 16 bytes) (omega (arith, le)))

-- a point's bytes are 16
images_long : (ps : List Point) → length (flat_map point_bytes ps) ≡ 16 * length ps
images_long [] = refl
images_long (p ∷ ps) = omega (arith, images_long ps)

-- so those of a batch are as many
pub length-batch_bytes : (first : ℕ) (ps : List Point) → length (batch_bytes first ps) ≡ 10 + 16 * length ps
length-batch_bytes first ps = omega (arith, images_long ps)

-- points are read of their bytes
pub points_in-images : (ps : List Point) (more : List ℕ) → All InRange ps
    → slot_points (length ps) (flat_map point_bytes ps ++ more) ≡ ps
points_in-images [] more inside = refl
points_in-images (p ∷ ps) more inside =
    let whole : flat_map point_bytes (p ∷ ps) ++ more ≡ point_bytes p ++ (flat_map point_bytes ps ++ more) =
    append_assoc (point_bytes p) (flat_map point_bytes ps) more in
    cc (
      point_at-bytes p (flat_map point_bytes ps ++ more) (All-head InRange p ps inside),
      points_in-images
          ps more (All-tail InRange p ps inside),
    )

-- a batch is read of its bytes
pub batch_in-bytes : (first : ℕ) (ps : List Point) (more : List ℕ) → first < 2 ^ 64 → length ps ≤ 64 → All InRange ps
    → batch_in (batch_bytes first ps ++ more) ≡ record { first = first; count = length ps; points = ps }
batch_in-bytes first ps more small few inside =
    grind (arith, from_be_bytes-to_be_bytes_8, from_be_bytes-to_be_bytes_2, points_in-images)
