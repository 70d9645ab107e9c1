-- Bytes that are at a place of an image, part by part, and those in front of a place.
use Rattle.std.proofs.Common.{◌≡◌, ℕ, ◌+◌, ◌<◌, ◌≤◌, List, [], ◌∷◌, ◌++◌, length, get_or, take, drop, refl, sym, ap, ◌∙◌, arith, lit<, length-append, length-take, length-drop}
use Rattle.std.proofs.Math.Seq.{take-add}
use Rattle.std.proofs.lemmas.Grind.{same_number_lists}
use Rattle.std.proofs.lemmas.List.{get_or-take, get_or-drop, drop-drop, take-take, take_at}
use Rattle.disk_model.specs.{Holds, IsGuarded, IsOpen, IsShut, written}
use Rattle.disk_model.proofs.Bytes.{holds_written}

-- ---- parts of bytes

-- a part of bytes that are there
pub holds_left : (c : List ℕ) (at : ℕ) (xs ys : List ℕ) → Holds at (xs ++ ys) c → Holds at xs c
holds_left c at xs ys holds =
    sym (take-take (length xs) (length (xs ++ ys)) (drop at c) (omega (arith, length-append xs ys)))
    ∙ ap (take (length xs)) holds ∙ take_at xs ys (length xs) refl

pub holds_right : (c : List ℕ) (at : ℕ) (xs ys : List ℕ) → Holds at (xs ++ ys) c → Holds (at + length xs) ys c
holds_right c at xs ys holds =
    let all = sym (take-add (length xs) (length ys) (drop at c)) ∙ ap (λ n. take n (drop at c)) (sym (length-append xs ys)) ∙ holds in
    ap (take (length ys)) (sym (drop-drop (length xs) at c))
    ∙ append_parts (take (length xs) (drop at c)) xs _ ys (omega (arith, holds_long)) all
  where
    holds_long : length (take (length xs) (drop at c)) ≡ length xs
    holds_long = ap length (holds_left c at xs ys holds)

    append_parts : (a b x y : List ℕ) → length a ≡ length b → a ++ x ≡ b ++ y → x ≡ y
    append_parts [] [] x y same e = e
    append_parts [] (n ∷ b) x y same e = absurd (omega (arith, same))
    append_parts (n ∷ a) [] x y same e = absurd (omega (arith, same))
    append_parts (n ∷ a) (m ∷ b) x y same e = append_parts a b x y (omega (arith, same)) (tail_is e)
      where
        tail_is : n ∷ (a ++ x) ≡ m ∷ (b ++ y) → a ++ x ≡ b ++ y
        tail_is e = cc

-- one of them
pub holds_byte : (c : List ℕ) (at : ℕ) (bytes : List ℕ) (i : ℕ) → Holds at bytes c → i < length bytes
    → get_or c (at + i) 0 ≡ get_or bytes i 0
holds_byte c at bytes i holds low = grind (arith, get_or-take, get_or-drop, holds)

-- and the image is long enough
pub holds_there : (c : List ℕ) (at : ℕ) (bytes : List ℕ) → Holds at bytes c → 0 < length bytes → at + length bytes ≤ length c
holds_there c at bytes holds some = grind (arith, holds, length-take, length-drop)

-- a byte that was written
pub written_byte : (s : List ℕ) (at byte : ℕ) → at ≤ length s → get_or (written s at (byte ∷ [])) at 0 ≡ byte
written_byte s at byte low =
    let place : at ≡ at + 0 = omega arith in
    ap (λ n. get_or (written s at (byte ∷ [])) n 0) place
    ∙ holds_byte (written s at (byte ∷ [])) at (byte ∷ []) 0 (holds_written s at (byte ∷ []) low) (lit< tt)

-- ---- in front of a place

-- the first n bytes are the same
pub record SameFront (n : ℕ) (d c : List ℕ) : Type 0 where
  pub before : n ≤ length d
  pub now : n ≤ length c
  pub same : (i : ℕ) → i < n → get_or c i 0 ≡ get_or d i 0

-- so is a part of them
pub part_same : (n at size : ℕ) (d c : List ℕ) → SameFront n d c → at + size ≤ n → take size (drop at c) ≡ take size (drop at d)
part_same n at size d c front within = grind (arith, same_number_lists, size, length-take, length-drop, get_or-take, get_or-drop)

-- in front of the gate nothing is written
pub guarded_front : (d c bytes : List ℕ) (at : ℕ) → IsGuarded (at + 1) bytes at d c → at < length d → SameFront at d c
guarded_front d c bytes at guarded low = grind arith

-- ---- a block after a gate

-- after the open gate of a block the gate of the next one is closed
pub next_shut : (block : List ℕ) (at next : ℕ) (d c : List ℕ) → at + length (block ++ 0 ∷ []) ≡ next
    → IsGuarded (at + 1) (block ++ 0 ∷ []) at d c → IsOpen at c → IsShut next c
next_shut block at next d c place guarded opened = record {
  there = omega (arith, holds_there c (at + 1) (block ++ 0 ∷ []) holds (omega (arith, size)), place);
  closed = λ is. absurd (omega (arith, is, gate_byte));
}
  where
    holds : Holds (at + 1) (block ++ 0 ∷ []) c
    holds = guarded.whole opened

    size : length (block ++ 0 ∷ []) ≡ length block + 1
    size = length-append block (0 ∷ [])

    behind : next ≡ at + 1 + length block + 0
    behind = omega (arith, size, place)

    gate_byte : get_or c next 0 ≡ 0
    gate_byte = ap (λ n. get_or c n 0) behind
        ∙ holds_byte c (at + 1 + length block) (0 ∷ []) 0 (holds_right c (at + 1) block (0 ∷ []) holds) (lit< tt)
