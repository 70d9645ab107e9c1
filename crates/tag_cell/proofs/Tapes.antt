-- One more entry on a tape.
use Rattle.std.proofs.Common.{arith, ◌≡◌, ℕ, ◌+◌, Bool, List, [], ◌∷◌, ◌++◌, length, take, nat_le, if◌then◌else◌, get_or, ◌<◌, refl, sym, ◌∙◌, ap, append_assoc}
use Rattle.std.proofs.lemmas.List.{append-nil, map_push, take_more}
use Rattle.trend_num.specs.{Point}
use Rattle.trend_model.specs.{Raw}
use Rattle.trend_model.specs.State.{after}
use Rattle.crash_recovery.proofs.Replays.{replay_append}
use Rattle.tag_cell.specs.{Entry, TagOpening, CellWalk, after_entry, cell_walked, taken, last_records, acked_at, state_after, Shown, Fits, FitAll}
use Rattle.tag_cell.specs.declared.entry.Entry.TheVariants.{Take, Ask, Pull, Commit}

-- ---- walks

-- the walk continues by the entry
pub walked-push : (w : CellWalk) (es : List Entry) (e : Entry) → cell_walked w (es ++ e ∷ []) ≡ after_entry (cell_walked w es) e
walked-push w [] e = refl
walked-push w (x ∷ es) e = walked-push (after_entry w x) es e

-- what was taken of two tapes
pub taken-append : (xs ys : List Entry) → taken (xs ++ ys) ≡ taken xs ++ taken ys
taken-append [] ys = refl
taken-append (Take collector row p h n ∷ xs) ys = ap (λ ps. p ∷ ps) (taken-append xs ys)
taken-append (Ask reader row q a ∷ xs) ys = taken-append xs ys
taken-append (Pull group first upto ∷ xs) ys = taken-append xs ys
taken-append (Commit moment acked ∷ xs) ys = taken-append xs ys

-- the values of a walk are those that were taken
pub points-walked : (w : CellWalk) (es : List Entry) → (cell_walked w es).points ≡ w.points ++ taken es
points-walked w [] = sym (append-nil w.points)
points-walked w (Take collector row p h n ∷ es) =
    points-walked (after_entry w (Take collector row p h n)) es ∙ append_assoc w.points (p ∷ []) (taken es)
points-walked w (Ask reader row q a ∷ es) = points-walked w es
points-walked w (Pull group first upto ∷ es) = points-walked w es
points-walked w (Commit moment acked ∷ es) = points-walked (after_entry w (Commit moment acked)) es

-- an entry that fits at the end of a tape
pub fit-push : (show : List Point → Shown) (step : Bool) (o : TagOpening) (w : CellWalk) (es : List Entry) (e : Entry)
    → FitAll show step o w es → Fits show step o (cell_walked w es) e → FitAll show step o w (es ++ e ∷ [])
fit-push show step o w [] e all fits = (fits, tt)
fit-push show step o w (x ∷ es) e all fits = (all.0, fit-push show step o (after_entry w x) es e all.1 fits)

-- one value more
pub state_after-push : (step : Bool) (o : TagOpening) (ps : List Point) (p : Point)
    → state_after step o (ps ++ p ∷ []) ≡ after step (state_after step o ps) (Raw p)
state_after-push step o ps p = grind (arith, map_push, replay_append)

-- ---- entries that acknowledge nothing

-- it is no commit
abbrev pub IsCall : Entry → Type 0
IsCall (Take collector row p h n) = Unit {0}
IsCall (Ask reader row q a) = Unit {0}
IsCall (Pull group first upto) = Unit {0}
IsCall (Commit moment acked) = ⊥

pub moment-call : (w : CellWalk) (e : Entry) → IsCall e → (after_entry w e).moment ≡ w.moment
moment-call w (Take collector row p h n) call = refl
moment-call w (Ask reader row q a) call = refl
moment-call w (Pull group first upto) call = refl
moment-call w (Commit moment acked) call = absurd call

-- so at each moment as much is acknowledged as before it
pub acked_at-call : (t n : ℕ) (es : List Entry) (e : Entry) → IsCall e → acked_at t n (es ++ e ∷ []) ≡ acked_at t n es
acked_at-call t n [] (Take collector row p h k) call = refl
acked_at-call t n [] (Ask reader row q a) call = refl
acked_at-call t n [] (Pull group first upto) call = refl
acked_at-call t n [] (Commit moment acked) call = absurd call
acked_at-call t n (Take collector row p h k ∷ es) e call = acked_at-call t n es e call
acked_at-call t n (Ask reader row q a ∷ es) e call = acked_at-call t n es e call
acked_at-call t n (Pull group first upto ∷ es) e call = acked_at-call t n es e call
acked_at-call t n (Commit moment acked ∷ es) e call = acked_at-call t (if nat_le moment t then acked else n) es e call

-- ---- the first entries of a tape

-- one entry more
pub taken-more : (es : List Entry) (i : ℕ) (e : Entry) → i < length es → e ≡ get_or es i e
    → taken (take (i + 1) es) ≡ taken (take i es) ++ taken (e ∷ [])
taken-more es i e within is = ap taken (take_more es i e within ∙ ap (λ x. take i es ++ x ∷ []) (sym is)) ∙ taken-append (take i es) (e ∷ [])

-- the records after two parts of a tape
pub last_records-append : (n : ℕ) (xs ys : List Entry) → last_records n (xs ++ ys) ≡ last_records (last_records n xs) ys
last_records-append n [] ys = refl
last_records-append n (Take collector row p h k ∷ xs) ys = last_records-append k xs ys
last_records-append n (Ask reader row q a ∷ xs) ys = last_records-append n xs ys
last_records-append n (Pull group first upto ∷ xs) ys = last_records-append n xs ys
last_records-append n (Commit m a ∷ xs) ys = last_records-append n xs ys

-- and after one entry more
pub last_records-more : (n : ℕ) (es : List Entry) (i : ℕ) (e : Entry) → i < length es → e ≡ get_or es i e
    → last_records n (take (i + 1) es) ≡ last_records (last_records n (take i es)) (e ∷ [])
last_records-more n es i e within is =
    ap (last_records n) (take_more es i e within ∙ ap (λ x. take i es ++ x ∷ []) (sym is)) ∙ last_records-append n (take i es) (e ∷ [])
