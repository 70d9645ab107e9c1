-- Records of an input one after another.
use Rattle.std.proofs.Common.{◌≡◌, ℕ, ◌+◌, ◌<◌, ◌≤◌, Bool, true, false, cond, nat_lt, nat_le, List, [], ◌∷◌, ◌++◌, All, fold, pos, refl, sym, ap, ◌∙◌, arith, append_assoc, append-nil}
use Rattle.std.specs.Prelude.{◌&&◌, ◌||◌, max}
use Rattle.std.proofs.lemmas.Bool.Decides.{nat_tests}
use Rattle.std.proofs.lemmas.List.Elements.{All-head, All-nil, All-tail}
use Rattle.trend_num.specs.{Rec}
use Rattle.trend_num.specs.declared.archive.Kind.TheVariants.{Kept, Late}
use Rattle.trend_model.specs.{is_late_record, listed, placed}
use Rattle.trend_model.proofs.Placing.{all_placed, time}
use Rattle.sheet_law.specs.{kept_end, is_newest, is_touched, touches}

-- the end of Kept records with one more record
pub kept_end-push : (rs : List Rec) (r : Rec)
    → kept_end (rs ++ r ∷ []) ≡ cond (is_late_record r.kind) (kept_end rs) (max (kept_end rs) (r.point.t + 1))
kept_end-push [] r = by_kind (is_late_record r.kind)
  where
    by_kind : (late : Bool) → cond {A = ℕ} late 0 (max (r.point.t + 1) 0) ≡ cond {A = ℕ} late 0 (max 0 (r.point.t + 1))
    by_kind true = refl
    by_kind false = omega arith
kept_end-push (x ∷ rs) r =
    ap (λ n. cond (is_late_record x.kind) n (max (x.point.t + 1) n)) (kept_end-push rs r)
    ∙ by_kinds (is_late_record x.kind) (is_late_record r.kind) (x.point.t + 1) (r.point.t + 1) (kept_end rs)
  where
    by_kinds : (first last : Bool) (a b n : ℕ)
        → cond first (cond last n (max n b)) (max a (cond last n (max n b)))
        ≡ cond last (cond first n (max a n)) (max (cond first n (max a n)) b)
    by_kinds true true a b n = refl
    by_kinds true false a b n = refl
    by_kinds false true a b n = refl
    by_kinds false false a b n = omega arith

pub kept_end-kept : (rs : List Rec) (r : Rec) → r.kind ≡ Kept → kept_end (rs ++ r ∷ []) ≡ max (kept_end rs) (r.point.t + 1)
kept_end-kept rs r is = kept_end-push rs r ∙ ap (λ k. cond (is_late_record k) (kept_end rs) (max (kept_end rs) (r.point.t + 1))) is

pub kept_end-late : (rs : List Rec) (r : Rec) → r.kind ≡ Late → kept_end (rs ++ r ∷ []) ≡ kept_end rs
kept_end-late rs r is = kept_end-push rs r ∙ ap (λ k. cond (is_late_record k) (kept_end rs) (max (kept_end rs) (r.point.t + 1))) is

-- a record is the newest where the Kept ones end at its time or before it
pub newest-is : (r : Rec) (rs : List Rec) → is_newest r rs ≡ nat_le (kept_end rs) r.point.t
newest-is r [] = (let h : nat_le 0 r.point.t ≡ true = grind (arith, nat_tests) in sym h)
newest-is r (x ∷ rs) =
    ap (λ b. (is_late_record x.kind || nat_lt x.point.t r.point.t) && b) (newest-is r rs)
    ∙ by_kind (is_late_record x.kind) x.point.t (kept_end rs)
  where
    by_kind : (late : Bool) (a n : ℕ) → ((late || nat_lt a r.point.t) && nat_le n r.point.t)
        ≡ nat_le (cond late n (max (a + 1) n)) r.point.t
    by_kind true a n = refl
    by_kind false a n = grind (arith, nat_tests)

-- a Kept record touches every window where the Kept ones end after its time, and else none
pub kept-touches : (rs : List Rec) (r : Rec) (end from to : ℕ) → r.kind ≡ Kept → end ≡ kept_end rs
    → touches rs r from to ≡ nat_lt r.point.t end
kept-touches rs r end from to is end_is = grind (arith, newest-is, nat_tests)

pub newest_touches_none : (rs : List Rec) (r : Rec) (end from to k : ℕ) → r.kind ≡ Kept → end ≡ kept_end rs
    → end ≤ r.point.t → (nat_le 0 k && nat_lt k 0) ≡ touches rs r from to
newest_touches_none rs r end from to k is end_is newest = grind (arith, kept-touches, nat_tests)

pub older_touches_all : (rs : List Rec) (r : Rec) (end from to k far : ℕ) → r.kind ≡ Kept → end ≡ kept_end rs
    → r.point.t < end → k < far → (nat_le 0 k && nat_lt k far) ≡ touches rs r from to
older_touches_all rs r end from to k far is end_is older below = grind (arith, kept-touches, nat_tests)

-- one more record comes after the others
pub is_touched-push : (rs more : List Rec) (r : Rec) (from to : ℕ)
    → is_touched rs (more ++ r ∷ []) from to ≡ (is_touched rs more from to || touches (rs ++ more) r from to)
is_touched-push rs [] r from to =
    last (touches rs r from to) ∙ ap (λ xs. touches xs r from to) (sym (append-nil rs))
  where
    last : (b : Bool) → (b || false) ≡ b
    last true = refl
    last false = refl
is_touched-push rs (x ∷ more) r from to =
    ap (λ b. touches rs x from to || b) (is_touched-push (rs ++ x ∷ []) more r from to)
    ∙ (grouped (touches rs x from to) (is_touched (rs ++ x ∷ []) more from to) (touches ((rs ++ x ∷ []) ++ more) r from to)
    ∙ ap (λ xs. (touches rs x from to || is_touched (rs ++ x ∷ []) more from to) || touches xs r from to)
    (append_assoc rs (x ∷ []) more))
  where
    grouped : (a b c : Bool) → (a || (b || c)) ≡ ((a || b) || c)
    grouped true b c = refl
    grouped false b c = refl

-- the times of a content are those of its records
pub times_bound : (bound : ℕ) (rs : List Rec) → All (λ r. time r ≤ bound) rs → All (λ r. time r ≤ bound) (listed rs)
times_bound bound rs each = go [] rs (All-nil (λ r. time r ≤ bound)) each
  where
    go : (l rs : List Rec) → All (λ r. time r ≤ bound) l → All (λ r. time r ≤ bound) rs
        → All (λ r. time r ≤ bound) (fold (λ l r. placed r l) l rs)
    go l [] there each = there
    go l (r ∷ rs) there each =
        go (placed r l) rs (all_placed (λ t. t ≤ bound) r l (All-head (λ r. time r ≤ bound) r rs each) there)
        (All-tail (λ r. time r ≤ bound) r rs each)

-- tests that come one after another
pub or_more : (marked before first one all new : Bool) → new ≡ (marked || one) → marked ≡ (before || first)
    → all ≡ (first || one) → new ≡ (before || all)
or_more marked before first one all new is was whole = grind arith

-- a place for a record that is not there
abbrev pub no_rec : Rec
no_rec = record { kind = Kept; point = record { t = 0; v = pos 0 } }
