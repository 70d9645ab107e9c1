-- A history grows by its points in order.
use Rattle.std.proofs.Common.{◌≡◌, ℕ, ◌+◌, ◌<◌, Bool, true, false, cond, List, [], ◌∷◌, ◌++◌, length, map, Option, None, Some, nat_lt, ap, ◌∙◌, arith}
use Rattle.std.specs.Option.{option_or}
use Rattle.std.proofs.lemmas.Bool.Decides.{nat_tests}
use Rattle.std.proofs.lemmas.List.{reverse-append}
use Rattle.trend_num.specs.{Point, most_records}
use Rattle.trend_model.specs.Walk.{records}
use Rattle.trend_model.specs.{Event, Raw, Origin}
use Rattle.trend_model.specs.State.{Stands}
use Rattle.tag_core.specs.Core.{Core}
use Rattle.pack_command.specs.{AreTaken, first_full, history_of}

-- a history that was full stays so
pub full_stays : (o : Origin) (later h : List Event) (n : ℕ) → first_full o h ≡ Some n → first_full o (later ++ h) ≡ Some n
full_stays o [] h n full = full
full_stays o (e ∷ later) h n full =
    let stood = length (records o (later ++ h)) in
    ap (λ before. option_or before (cond (nat_lt most_records (stood + 2)) (Some stood) None)) (full_stays o later h n full)

-- one more event of a history with room
full_by : (test : Bool) (n : ℕ) (before : Option ℕ) → before ≡ None → test ≡ true
    → option_or before (cond test (Some n) None) ≡ Some n
full_by test n before none full = ap (λ b. option_or b (cond test (Some n) None)) none ∙ ap (λ b. cond b (Some n) None) full

room_by : (test : Bool) (n : ℕ) (before : Option ℕ) → before ≡ None → test ≡ false
    → option_or before (cond test (Some n) None) ≡ None
room_by test n before none full = ap (λ b. option_or b (cond test (Some n) None)) none ∙ ap (λ b. cond b (Some n) None) full

below : (m n : ℕ) → m < n → nat_lt m n ≡ true
below m n h = grind (arith, nat_tests)

not_below : (m n : ℕ) → (m < n → ⊥) → nat_lt m n ≡ false
not_below m n h = grind (arith, nat_tests)

-- the event that finds no room
pub full_here : (o : Origin) (e : Event) (h : List Event) → first_full o h ≡ None → most_records < length (records o h) + 2
    → first_full o (e ∷ h) ≡ Some (length (records o h))
full_here o e h room full = grind (arith, full_by, below)

-- one that finds room
pub room_here : (o : Origin) (e : Event) (h : List Event) → first_full o h ≡ None
    → (most_records < length (records o h) + 2 → ⊥) → first_full o (e ∷ h) ≡ None
room_here o e h room fits = grind (arith, room_by, not_below)

-- the history of one point more
pub history_more : (points : List Point) (p : Point) → history_of (points ++ p ∷ []) ≡ Raw p ∷ history_of points
history_more points p = ap (map Raw) (reverse-append points (p ∷ []))

-- the values are taken with one more
pub taken_more : (o : Origin) (points : List Point) (p : Point) (old new : Core) → AreTaken o old points → new.step ≡ old.step
    → Stands o (Raw p ∷ history_of points) new.state → (most_records < length old.state.records + 2 → ⊥) → AreTaken o new (points ++ p ∷ [])
taken_more o points p old new t kind stands fits = grind (arith, history_more, room_here)

-- or it finds no room
pub full_at : (o : Origin) (points : List Point) (p : Point) (core : Core) (stood : ℕ) → AreTaken o core points
    → most_records < length core.state.records + 2 → stood ≡ length core.state.records → first_full o (history_of (points ++ p ∷ [])) ≡ Some stood
full_at o points p core stood t full records_are = grind (arith, history_more, full_here)

-- and what was full stays so
pub full_after : (o : Origin) (points : List Point) (p : Point) (stood : ℕ) → first_full o (history_of points) ≡ Some stood
    → first_full o (history_of (points ++ p ∷ [])) ≡ Some stood
full_after o points p stood full = ap (first_full o) (history_more points p) ∙ full_stays o (Raw p ∷ []) (history_of points) stood full
