-- Marks of windows.
use Rattle.std.proofs.Common.{◌≡◌, ℕ, zero, suc, ◌+◌, ◌<◌, ◌≤◌, true, false, nat_lt, nat_le, List, [], ◌∷◌, ◌++◌, length, get_or, take, drop, set, replicate, refl, ap, ◌∙◌, arith}
use Rattle.std.specs.Prelude.{◌&&◌, ◌||◌, max, min}
use Rattle.std.proofs.lemmas.Bool.{lt-ltb, le-ltb}
use Rattle.std.proofs.lemmas.Bool.Decides.{nat_tests}
use Rattle.std.proofs.lemmas.List.{take-set-le, take_more}
use Rattle.calc_refresh.specs.{furthest, is_marked}

-- how far marks reach with one more of them
pub furthest-push : (ms : List ℕ) (n : ℕ) → furthest (ms ++ n ∷ []) ≡ max (furthest ms) n
furthest-push [] n = omega arith
furthest-push (m ∷ ms) n = (let rest = furthest-push ms n in omega arith)

pub furthest_more : (ms : List ℕ) (k : ℕ) → k < length ms
    → furthest (take (k + 1) ms) ≡ max (furthest (take k ms)) (get_or ms k 0)
furthest_more ms k within = ap furthest (take_more ms k 0 within) ∙ furthest-push (take k ms) (get_or ms k 0)

-- a mark that reaches further is seen from its place on
further : (ms : List ℕ) (n i b : ℕ) → i < length ms → i < n
    → furthest (take n (set ms i (max (get_or ms i 0) b))) ≡ max (furthest (take n ms)) b
further [] n i b within seen = absurd (omega arith)
further (m ∷ ms) zero i b within seen = absurd (omega arith)
further (m ∷ ms) (suc n) zero b within seen = omega arith
further (m ∷ ms) (suc n) (suc i) b within seen =
    let rest = further ms n i b (omega arith) (omega arith) in omega arith

-- the windows of a span are marked besides those that were
pub marks_span : (ms : List ℕ) (i b c k : ℕ) → i < length ms → c ≡ max (get_or ms i 0) b
    → is_marked (set ms i c) k ≡ (is_marked ms k || (nat_le i k && nat_lt k b))
marks_span ms i b c k within is = grind (arith, take-set-le, further, nat_tests)

-- a mark that reaches beyond all windows may be cut
pub cut_end : (k b c most : ℕ) → k < most → c ≡ min b most → nat_lt k c ≡ nat_lt k b
cut_end k b c most below is = grind (arith, nat_tests)

-- where nothing was written no window is marked
pub unmarked : (n k : ℕ) → is_marked (replicate n 0) k ≡ false
unmarked n k = none (k + 1) n
  where
    furthest-zeros : (m n : ℕ) → furthest (take m (replicate n 0)) ≡ 0
    furthest-zeros zero n = refl
    furthest-zeros (suc m) zero = refl
    furthest-zeros (suc m) (suc n) = (let rest = furthest-zeros m n in omega arith)

    none : (m n : ℕ) → nat_lt k (furthest (take m (replicate n 0))) ≡ false
    none m n = (let zero_is = furthest-zeros m n in grind (arith, nat_tests))

-- a window is marked exactly if the last mark reaches beyond it
pub marked_now : (ms : List ℕ) (k b : ℕ) → b ≡ furthest (take (k + 1) ms) → k < b → is_marked ms k ≡ true
marked_now ms k b is below = lt-ltb k (furthest (take (k + 1) ms)) (omega arith)

pub unmarked_now : (ms : List ℕ) (k b : ℕ) → b ≡ furthest (take (k + 1) ms) → b ≤ k → is_marked ms k ≡ false
unmarked_now ms k b is above = le-ltb k (furthest (take (k + 1) ms)) (omega arith)

-- more marks reach further
reaches_more : (ms : List ℕ) (k n : ℕ) → k ≤ n → furthest (take k ms) ≤ furthest (take n ms)
reaches_more ms zero n low = omega arith
reaches_more [] (suc k) n low = omega arith
reaches_more (m ∷ ms) (suc k) zero low = absurd (omega arith)
reaches_more (m ∷ ms) (suc k) (suc n) low = (let rest = reaches_more ms k n (omega arith) in omega arith)

-- how far marks reach with a block of them
block_reaches : (ms : List ℕ) (from n k : ℕ) → k ≤ from + n
    → furthest (take k ms) ≤ max (furthest (take from ms)) (furthest (take n (drop from ms)))
block_reaches ms zero n k low = (let all = reaches_more ms k n (omega arith) in omega arith)
block_reaches ms (suc from) n zero low = omega arith
block_reaches [] (suc from) n (suc k) low = omega arith
block_reaches (m ∷ ms) (suc from) n (suc k) low = (let rest = block_reaches ms from n k (omega arith) in omega arith)

-- a block without a mark marks no window, where the marks before it do not reach into it
pub unmarked_block : (ms : List ℕ) (from n b k : ℕ) → b ≡ furthest (take from ms) → b ≤ from
    → furthest (take n (drop from ms)) ≡ 0 → from ≤ k → k < from + n → is_marked ms k ≡ false
unmarked_block ms from n b k is low blank after below =
    let reach = block_reaches ms from n (k + 1) (omega arith) in
    le-ltb k (furthest (take (k + 1) ms)) (omega arith)

-- and the marks reach no further then
pub same_reach : (ms : List ℕ) (from n : ℕ) → furthest (take n (drop from ms)) ≡ 0
    → furthest (take (from + n) ms) ≡ furthest (take from ms)
same_reach ms from n blank =
    let some = reaches_more ms from (from + n) (omega arith) in
    let reach = block_reaches ms from n (from + n) (omega arith) in
    omega arith
