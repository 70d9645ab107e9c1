-- Windows that records do not touch measure what they did.
use Rattle.std.proofs.Common.{◌≡◌, ◌⊎◌, ℕ, ◌<◌, ◌≤◌, inl, inr, Bool, true, false, nat_lt, nat_le, List, [], ◌∷◌, ◌++◌, fold, refl, sym, ap, ◌∙◌, arith, append_assoc, append-nil}
use Rattle.std.specs.Prelude.{◌&&◌, ◌||◌, not}
use Rattle.std.proofs.lemmas.Bool.{and_parts}
use Rattle.std.proofs.lemmas.Bool.Decides.{nat_tests}
use Rattle.std.proofs.lemmas.List.Folds.{list_any-append}
use Rattle.std.proofs.lemmas.List.Sums.{fold-append}
use Rattle.trend_num.specs.{Rec, Measure}
use Rattle.trend_model.specs.{is_late_record, IsRising, listed, placed, points_of, IsAmong, window_value}
use Rattle.trend_model.proofs.ContentList.{content_listed}
use Rattle.trend_model.proofs.Placing.{placed_by, time, time_of_over}
use Rattle.sheet_law.specs.{reaches, is_newest, is_touched, meets, stretch_from, stretch_to, times_of, touches}
use Rattle.sheet_law.proofs.Stretch.{keeps_after, keeps_before, starts_from}

-- one of two tests fails where both together do
pub either_false : (a b : Bool) → (a && b) ≡ false → (a ≡ false) ⊎ (b ≡ false)
either_false true b h = inr h
either_false false b h = inl refl

-- both fail where none of two holds
pub both_false : (a b : Bool) → (a || b) ≡ false → (a ≡ false) × (b ≡ false)
both_false true b h = absurd (cc)
both_false false b h = (refl, h)

either_true : (a b : Bool) → (a || b) ≡ true → (a ≡ true) ⊎ (b ≡ true)
either_true true b h = inl refl
either_true false b h = inr h

not_false : (a : Bool) → not a ≡ false → a ≡ true
not_false true h = refl
not_false false h = absurd (cc)

not_true : (a : Bool) → not a ≡ true → a ≡ false
not_true true h = absurd (cc)
not_true false h = refl

-- ---- times in a content

-- a time of a content stays one, and that of the record is one
among_old : (u : ℕ) (r : Rec) (l : List Rec) → IsAmong u (times_of l) → IsAmong u (times_of (placed r l))
among_old u r [] in_it = absurd in_it
among_old u r (x ∷ xs) in_it =
    placed_by (λ m. IsAmong u (times_of m)) r x xs (λ first. inr in_it)
    (λ later. elim in_it [ inl same ↦ inl same | inr rest ↦ inr (among_old u r xs rest) ])
    (λ same. elim in_it [ inl here ↦ inl (here ∙ sym (time_of_over r x same)) | inr rest ↦ inr rest ])

among_new : (r : Rec) (l : List Rec) → IsAmong (time r) (times_of (placed r l))
among_new r [] = inl refl
among_new r (x ∷ xs) =
    placed_by (λ m. IsAmong (time r) (times_of m)) r x xs (λ first. inl refl) (λ later. inr (among_new r xs))
    (λ same. inl (same ∙ sym (time_of_over r x same)))

among_on : (u : ℕ) (l rs : List Rec) → IsAmong u (times_of l)
    → IsAmong u (times_of (fold (λ l r. placed r l) l rs))
among_on u l [] in_it = in_it
among_on u l (r ∷ rs) in_it = among_on u (placed r l) rs (among_old u r l in_it)

-- a time of Kept records from t on, which the newest record is after
record IsReached (t : ℕ) (rs l : List Rec) : Type 0 where
  at : ℕ
  from : t ≤ at
  there : IsAmong at (times_of (fold (λ l r. placed r l) l rs))
  newest : (r : Rec) → is_newest r rs ≡ true → at < time r

reached : (t : ℕ) (rs l : List Rec) → reaches t rs ≡ true → IsReached t rs l
reached t [] l reach = absurd (cc)
reached t (x ∷ rs) l reach =
    elim (either_true (not (is_late_record x.kind) && nat_le t (time x)) (reaches t rs) reach) [
      | inl here ↦
          let both = and_parts (not (is_late_record x.kind)) (nat_le t (time x)) here in
          let kept = not_true (is_late_record x.kind) both.0 in
          record {
            at = time x;
            from = (let h : nat_le t (time x) ≡ true = both.1 in grind (arith, nat_tests));
            there = among_on (time x) (placed x l) rs (among_new x l);
            newest = λ r new. after r kept (and_parts (is_late_record x.kind || nat_lt (time x) (time r)) (is_newest r rs) new).0;
          }
      | inr later ↦
          let rest = reached t rs (placed x l) later in
          record {
            at = rest.at;
            from = rest.from;
            there = rest.there;
            newest = λ r new. rest.newest r (and_parts (is_late_record x.kind || nat_lt (time x) (time r)) (is_newest r rs) new).1;
          }
    ]
  where
    after : (r : Rec) → is_late_record x.kind ≡ false → (is_late_record x.kind || nat_lt (time x) (time r)) ≡ true
        → time x < time r
    after r kept h =
        let k : nat_lt (time x) (time r) ≡ true = ap (λ b. b || nat_lt (time x) (time r)) (sym kept) ∙ h in
        grind (arith, nat_tests)

-- ---- one record

-- the content after one more record
pub listed-push : (rs : List Rec) (r : Rec) → listed (rs ++ r ∷ []) ≡ placed r (listed rs)
listed-push rs r = fold-append (λ l x. placed x l) [] rs (r ∷ [])

pub listed_rises : (rs : List Rec) → IsRising (listed rs)
listed_rises rs = (content_listed rs).rising

-- a window that does not meet the stretch stays
pub stretch_stays : (step : Bool) (m : Measure) (rs : List Rec) (r : Rec) (from to : ℕ) → from < to
    → meets (listed rs) (time r) from to ≡ false
    → window_value step m (points_of (listed (rs ++ r ∷ []))) from to
    ≡ window_value step m (points_of (listed rs)) from to
stretch_stays step m rs r from to some apart =
    ap (λ l. window_value step m (points_of l) from to) (listed-push rs r)
    ∙ elim (either_false (nat_le (stretch_from (listed rs) (time r)) to) (nat_le from (stretch_to (listed rs) (time r))) apart) [
      | inl before ↦
          keeps_before step m r (listed rs) from to (listed_rises rs) some
          (under (stretch_from (listed rs) (time r)) to before)
      | inr after ↦
          keeps_after step m r (listed rs) from to (listed_rises rs) some
          (under from (stretch_to (listed rs) (time r)) after)
    ]
  where
    under : (a b : ℕ) → nat_le a b ≡ false → b ≤ a
    under a b h = grind (arith, nat_tests)

-- a window that Kept records have reached stays when the newest comes
pub newest_stays : (step : Bool) (m : Measure) (rs : List Rec) (r : Rec) (from to : ℕ) → from < to
    → is_newest r rs ≡ true → reaches to rs ≡ true
    → window_value step m (points_of (listed (rs ++ r ∷ []))) from to
    ≡ window_value step m (points_of (listed rs)) from to
newest_stays step m rs r from to some newest reach =
    let reached_at = reached to rs [] reach in
    let low = starts_from (listed rs) (time r) reached_at.at (time r) (listed_rises rs) reached_at.there
    (reached_at.newest r newest) in
    ap (λ l. window_value step m (points_of l) from to) (listed-push rs r)
    ∙ keeps_before step m r (listed rs) from to (listed_rises rs) some (omega (arith, reached_at.from))

-- ---- records in turn

-- Kept records reach as far when more come
pub reaches_on : (t : ℕ) (rs more : List Rec) → reaches t rs ≡ true → reaches t (rs ++ more) ≡ true
reaches_on t rs more reach = grind (arith, list_any-append)

-- a window that one record does not touch stays
untouched_stays : (step : Bool) (m : Measure) (rs : List Rec) (r : Rec) (from to : ℕ) → from < to
    → reaches to rs ≡ true → touches rs r from to ≡ false
    → window_value step m (points_of (listed (rs ++ r ∷ []))) from to
    ≡ window_value step m (points_of (listed rs)) from to
untouched_stays step m rs r from to some reach apart = grind (arith, time, stretch_stays, newest_stays, not_false)

-- and one that no record of a list touches in its turn
pub windows_stay : (step : Bool) (m : Measure) (rs more : List Rec) (from to : ℕ) → from < to
    → reaches to rs ≡ true → is_touched rs more from to ≡ false
    → window_value step m (points_of (listed (rs ++ more))) from to
    ≡ window_value step m (points_of (listed rs)) from to
windows_stay step m rs [] from to some reach apart =
    ap (λ l. window_value step m (points_of (listed l)) from to) (append-nil rs)
windows_stay step m rs (r ∷ more) from to some reach apart =
    let both = both_false (touches rs r from to) (is_touched (rs ++ r ∷ []) more from to) apart in
    ap (λ l. window_value step m (points_of (listed l)) from to) (sym (append_assoc rs (r ∷ []) more))
    ∙ (windows_stay step m (rs ++ r ∷ []) more from to some (reaches_on to rs (r ∷ []) reach) both.1
    ∙ untouched_stays step m rs r from to some reach both.0)
