-- The windows of shifts, one after another.
use Rattle.std.proofs.Common.{◌≡◌, ℕ, ◌+◌, ◌<◌, ◌≤◌, true, false, nat_lt, ℤ, pos, ◌+ℤ◌, List, [], ◌∷◌, ◌++◌, length, slice_index, map, ap, ◌∙◌, add-one, arith}
use Rattle.std.specs.List.{flat_map}
use Rattle.std.proofs.lemmas.Bool.Decides.{nat_tests}
use Rattle.std.proofs.lemmas.List.{append-nil, map_push}
use Rattle.std.proofs.lemmas.Grind.{flat_map-append}
use Rattle.jiff.specs.Types.{TimeZone}
use Rattle.shift_calendar.specs.{ShiftWindow, IsInstant, Shift, shift_at, below, shifts_of, shifts_over, IsWindow, AreWindows}

-- a window more for a shift more
pub AreWindows-push : (zone : TimeZone) (ss : List Shift) (ws : List ShiftWindow) (s : Shift) (w : ShiftWindow) → AreWindows zone ss ws
    → IsWindow zone s w → AreWindows zone (ss ++ s ∷ []) (ws ++ w ∷ [])
AreWindows-push zone [] [] s w all here = (here, tt)
AreWindows-push zone [] (v ∷ ws) s w all here = absurd all
AreWindows-push zone (r ∷ ss) [] s w all here = absurd all
AreWindows-push zone (r ∷ ss) (v ∷ ws) s w all here = (all.0, AreWindows-push zone ss ws s w all.1 here)

-- one number more
pub below-more : (n : ℕ) → below (n + 1) ≡ below n ++ n ∷ []
below-more n = ap below (add-one n)

-- one shift more of a day
pub shifts-more : (starts : List ℕ) (day : ℤ) (place : ℕ)
    → map (shift_at starts day) (below (place + 1)) ≡ map (shift_at starts day) (below place) ++ shift_at starts day place ∷ []
shifts-more starts day place = ap (map (shift_at starts day)) (below-more place) ∙ map_push (shift_at starts day) (below place) place

-- one day more
pub shifts_over-more : (starts : List ℕ) (day : ℤ) (days : ℕ) → shifts_over starts day (days + 1) ≡ shifts_over starts day days ++ shifts_of starts (day +ℤ pos days)
shifts_over-more starts day days =
    let of : ℕ → List Shift = λ k. shifts_of starts (day +ℤ pos k) in
    ap (flat_map of) (below-more days) ∙ flat_map-append of (below days) (days ∷ [])
    ∙ ap (λ ss. flat_map of (below days) ++ ss) (append-nil (of days))

-- a shift that is not the last ends where the next begins
pub end_inside : (zone : TimeZone) (starts : List ℕ) (day : ℤ) (place instant : ℕ) → place + 1 < length starts
    → IsInstant zone day (slice_index starts (place + 1)) instant
    → IsInstant zone (shift_at starts day place).last_day (shift_at starts day place).end instant
end_inside zone starts day place instant inside here =
    let test : nat_lt (place + 1) (length starts) ≡ true = grind (arith, nat_tests) in
    rw test here

-- the last one ends where the first of the next day begins
pub end_outside : (zone : TimeZone) (starts : List ℕ) (day : ℤ) (place instant : ℕ) → length starts ≤ place + 1
    → IsInstant zone (day +ℤ pos 1) (slice_index starts 0) instant
    → IsInstant zone (shift_at starts day place).last_day (shift_at starts day place).end instant
end_outside zone starts day place instant outside here =
    let test : nat_lt (place + 1) (length starts) ≡ false = grind (arith, nat_tests) in
    rw test here
