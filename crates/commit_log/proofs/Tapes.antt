-- Tapes, and one more turn on them.
use Rattle.std.proofs.Common.{◌≡◌, ℕ, ◌+◌, ◌-◌, ◌≤◌, Bool, true, false, All, List, [], ◌∷◌, ◌++◌, length, take, drop, nat_le, if◌then◌else◌, refl, sym, ap, ◌∙◌, subst, arith, length-drop, append_assoc, le_refl, le_trans}
use Rattle.std.proofs.lemmas.List.{take-append-drop, take_all}
use Rattle.std.proofs.lemmas.List.Elements.{All-cons, All-drop, All-nil, All-take}
use Rattle.std.proofs.Math.Seq.{drop-append_seam, take-append_seam}
use Rattle.commit_log.specs.{LogRow, LogTurn, IsLogRow, LogWalk, acked_at, after_turn, puts, log_walked, LogTurnsFit, LogTurnFits}
use Rattle.commit_log.specs.declared.history.LogTurn.TheVariants.{Put, Commit}

-- ---- walks

-- the walk continues by the turn
pub walked-push : (w : LogWalk) (es : List LogTurn) (e : LogTurn) → log_walked w (es ++ e ∷ []) ≡ after_turn (log_walked w es) e
walked-push w [] e = refl
walked-push w (x ∷ es) e = walked-push (after_turn w x) es e

-- the rows of two tapes
pub puts-append : (xs ys : List LogTurn) → puts (xs ++ ys) ≡ puts xs ++ puts ys
puts-append [] ys = refl
puts-append (Put row ∷ xs) ys = ap (λ l. row ∷ l) (puts-append xs ys)
puts-append (Commit moment acked ∷ xs) ys = puts-append xs ys

-- how many rows there are after a walk
pub walked-rows : (w : LogWalk) (es : List LogTurn) → (log_walked w es).rows ≡ w.rows + length (puts es)
walked-rows w [] = omega arith
walked-rows w (Put row ∷ es) = omega (arith, walked-rows (after_turn w (Put row)) es)
walked-rows w (Commit moment acked ∷ es) = walked-rows (after_turn w (Commit moment acked)) es

-- a turn that fits at the end of a tape
pub fit-push : (tags : ℕ) (w : LogWalk) (es : List LogTurn) (e : LogTurn) → LogTurnsFit tags w es → LogTurnFits tags (log_walked w es) e
    → LogTurnsFit tags w (es ++ e ∷ [])
fit-push tags w [] e all fits = (fits, tt)
fit-push tags w (x ∷ es) e all fits = (all.0, fit-push tags (after_turn w x) es e all.1 fits)

-- the rows that were put are rows
pub fit_rows : (tags : ℕ) (w : LogWalk) (es : List LogTurn) → LogTurnsFit tags w es → All (IsLogRow tags) (puts es)
fit_rows tags w [] all = All-nil (IsLogRow tags)
fit_rows tags w (Put row ∷ es) all = All-cons (IsLogRow tags) row (puts es) all.0 (fit_rows tags (after_turn w (Put row)) es all.1)
fit_rows tags w (Commit moment acked ∷ es) all = fit_rows tags (after_turn w (Commit moment acked)) es all.1

-- ---- what is acknowledged

-- a put acknowledges nothing
pub acked_at-put : (t n : ℕ) (es : List LogTurn) (row : LogRow) → acked_at t n (es ++ Put row ∷ []) ≡ acked_at t n es
acked_at-put t n [] row = refl
acked_at-put t n (Put r ∷ es) row = acked_at-put t n es row
acked_at-put t n (Commit m a ∷ es) row = acked_at-put t (if nat_le m t then a else n) es row

-- a commit at the end counts from its moment on
pub acked_at-commit : (t n : ℕ) (es : List LogTurn) (moment acked : ℕ)
    → acked_at t n (es ++ Commit moment acked ∷ []) ≡ (if nat_le moment t then acked else acked_at t n es)
acked_at-commit t n [] moment acked = refl
acked_at-commit t n (Put r ∷ es) moment acked = acked_at-commit t n es moment acked
acked_at-commit t n (Commit m a ∷ es) moment acked = acked_at-commit t (if nat_le m t then a else n) es moment acked

-- at no moment more is acknowledged than at the end
pub acked_at-most : (tags : ℕ) (w : LogWalk) (es : List LogTurn) (t n : ℕ) → n ≤ w.acked → LogTurnsFit tags w es
    → acked_at t n es ≤ (log_walked w es).acked
acked_at-most tags w [] t n le all = le
acked_at-most tags w (Put row ∷ es) t n le all = acked_at-most tags (after_turn w (Put row)) es t n le all.1
acked_at-most tags w (Commit m a ∷ es) t n le all =
    acked_at-most tags (after_turn w (Commit m a)) es t (if nat_le m t then a else n)
    (either_most (nat_le m t) a n (le_trans le (omega (arith, all.0.acked_are)))) all.1
  where
    either_most : (b : Bool) (x k : ℕ) → k ≤ x → (if b then x else k) ≤ x
    either_most true x k h = le_refl x
    either_most false x k h = h

-- ---- parts of a tape

-- what is after a place
pub rest_is : (es tape : List LogTurn) (next : ℕ) → es ≡ tape → take (length es - next) (drop next es) ≡ drop next tape
rest_is es tape next same = take_all (length es - next) (drop next es) (omega (arith, length-drop next es)) ∙ ap (drop next) same

-- the rows before a place, those of some turns from it on, and those after them
pub puts_parts : (tape : List LogTurn) (next turns : ℕ) → puts tape
    ≡ (puts (take next tape) ++ puts (take turns (drop next tape))) ++ puts (drop turns (drop next tape))
puts_parts tape next turns =
    let rest = drop next tape in
    ap puts (sym (take-append-drop next tape)) ∙ (puts-append (take next tape) rest
    ∙ (ap (λ l. puts (take next tape) ++ l) (ap puts (sym (take-append-drop turns rest)) ∙ puts-append (take turns rest) (drop turns rest))
    ∙ sym (append_assoc (puts (take next tape)) (puts (take turns rest)) (puts (drop turns rest)))))

-- the rows of the middle part
pub middle_rows : (tags : ℕ) (rows xs ys zs : List LogRow) → rows ≡ (xs ++ ys) ++ zs → All (IsLogRow tags) rows → All (IsLogRow tags) ys
middle_rows tags rows xs ys zs are all =
    subst (All (IsLogRow tags)) (ap (take (length ys)) same ∙ take-append_seam ys zs)
    (All-take (IsLogRow tags) (length ys) (drop (length xs) rows) (All-drop (IsLogRow tags) (length xs) rows all))
  where
    same : drop (length xs) rows ≡ ys ++ zs
    same = ap (drop (length xs)) (are ∙ append_assoc xs ys zs) ∙ drop-append_seam xs (ys ++ zs)
