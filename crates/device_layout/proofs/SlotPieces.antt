-- The bytes of a slot, cut into its fields.
use Rattle.std.proofs.Common.{◌≡◌, ℕ, ◌+◌, ◌^◌, ◌<◌, ◌≤◌, true, eqb, List, [], ◌∷◌, ◌++◌, length, take, drop, replicate, refl, sym, ap, ◌∙◌, arith, take-append-drop, length-take, length-drop}
use Rattle.std.proofs.lemmas.{Nat.be_bytes_4, Nat.be_bytes_8, Bool.eqb-true, Bool.and_parts}
use Rattle.std.proofs.lemmas.List.{drop-drop, drop-take, take-take, take_all, get_or-take, get_or-drop, get_or_past, append_assoc}
use Rattle.std.specs.{Int.w32, Int.w64, Int.from_be_bytes, List.list_all}
use Rattle.archive_file.specs.{number_bytes, point_bytes, point_at}
use Rattle.archive_file.proofs.Points.{IsBytes, point_bytes-at}

-- what is there from a place on: a piece, and what is after it
pub cut : (b : List ℕ) (at n : ℕ) (piece rest : List ℕ) → take n (drop at b) ≡ piece → drop (at + n) b ≡ rest
    → drop at b ≡ piece ++ rest
cut b at n piece rest is behind = grind (arith, take-append-drop n (drop at b), drop-drop n at b)

-- five points and what is after them
pub five_and_more : (a b c d e t : List ℕ) → (a ++ (b ++ (c ++ (d ++ e)))) ++ t ≡ a ++ (b ++ (c ++ (d ++ (e ++ t))))
five_and_more a b c d e t = simp append_assoc

-- bytes that are all zeros
all_zeros : (l : List ℕ) → list_all (λ x. eqb x 0) l ≡ true → l ≡ replicate (length l) 0
all_zeros [] all = refl
all_zeros (x ∷ l) all = grind (arith, and_parts, eqb-true, all_zeros l)

-- so many
pub zeros_are : (l : List ℕ) (n : ℕ) → length l ≡ n → list_all (λ x. eqb x 0) l ≡ true → l ≡ replicate n 0
zeros_are l n long all = all_zeros l all ∙ ap (λ k. replicate k 0) long

-- bytes after a zero
bytes_behind_zero : (l : List ℕ) → IsBytes l → IsBytes (0 ∷ l)
bytes_behind_zero l bytes h2 = grind arith

-- a point is in the first 16 bytes
point_of_piece : (l : List ℕ) → point_at (take 16 l) ≡ point_at l
point_of_piece l = grind (arith, take-take, drop-take)

-- 8 bytes are a number of 64 bits
pub eight_below : (l : List ℕ) → IsBytes l → from_be_bytes w64 l < 2 ^ 64
eight_below l bytes = grind arith

-- 4 bytes one of 32
pub four_below : (l : List ℕ) → IsBytes l → from_be_bytes w32 l < 2 ^ 32
four_below l bytes = omega (arith, bytes 0, bytes 1, bytes 2, bytes 3)

-- the pieces of 128 bytes
module _ (b : List ℕ) (long : length b ≡ 128) (bytes : IsBytes b) where
  -- one is as long as it is
  pub length-piece : (at n : ℕ) → at + n ≤ 128 → length (take n (drop at b)) ≡ n
  length-piece at n within = omega (arith, length-take n (drop at b), length-drop at b)

  -- of bytes
  pub bytes_of_piece : (at n : ℕ) → IsBytes (take n (drop at b))
  bytes_of_piece at n i = grind (arith, get_or-take, get_or-drop, length-take, get_or_past)

  -- the last one is the rest
  pub last_piece : (at n : ℕ) → at + n ≡ 128 → take n (drop at b) ≡ drop at b
  last_piece at n end = take_all n (drop at b) (omega (arith, length-drop at b))

  -- a number of 8 bytes
  pub eight : (at : ℕ) → at + 8 ≤ 128 → take 8 (drop at b) ≡ number_bytes 8 (from_be_bytes w64 (take 8 (drop at b)))
  eight at within = sym (be_bytes_8 (take 8 (drop at b)) _ (length-piece at 8 within) (bytes_of_piece at 8) refl)

  -- of 4 bytes
  pub four : (at : ℕ) → at + 4 ≤ 128 → take 4 (drop at b) ≡ number_bytes 4 (from_be_bytes w32 (take 4 (drop at b)))
  four at within = sym (be_bytes_4 (take 4 (drop at b)) _ (length-piece at 4 within) (bytes_of_piece at 4) refl)

  -- of 7 bytes
  pub seven : (at : ℕ) → at + 7 ≤ 128 → take 7 (drop at b)
      ≡ number_bytes 7 (from_be_bytes w64 (0 ∷ take 7 (drop at b)))
  seven at within =
      let piece = take 7 (drop at b) in
      let longer : length (0 ∷ piece) ≡ 8 = omega (arith, length-piece at 7 within) in
      sym (ap (drop 1) (be_bytes_8 (0 ∷ piece) (from_be_bytes w64 (0 ∷ piece)) longer
      (bytes_behind_zero piece (bytes_of_piece at 7)) refl))

  -- of 6 bytes
  pub six : (at : ℕ) → at + 6 ≤ 128 → take 6 (drop at b)
      ≡ number_bytes 6 (from_be_bytes w64 (0 ∷ 0 ∷ take 6 (drop at b)))
  six at within =
      let piece = take 6 (drop at b) in
      let longer : length (0 ∷ 0 ∷ piece) ≡ 8 = omega (arith, length-piece at 6 within) in
      sym (ap (drop 2) (be_bytes_8 (0 ∷ 0 ∷ piece) (from_be_bytes w64 (0 ∷ 0 ∷ piece)) longer
      (bytes_behind_zero (0 ∷ piece) (bytes_behind_zero piece (bytes_of_piece at 6))) refl))

  -- a point
  pub sixteen : (at : ℕ) → at + 16 ≤ 128 → take 16 (drop at b) ≡ point_bytes (point_at (drop at b))
  sixteen at within =
      sym (ap point_bytes (sym (point_of_piece (drop at b)))
      ∙ point_bytes-at (take 16 (drop at b)) (length-piece at 16 within) (bytes_of_piece at 16))
