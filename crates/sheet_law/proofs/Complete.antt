-- Which windows are complete, and that they stay so.
use Rattle.std.proofs.Common.{◌≡◌, ◌↔◌, ℕ, ◌+◌, ◌<◌, ◌≤◌, Bool, true, false, cond, nat_lt, nat_le, List, [], ◌∷◌, ◌++◌, refl, sym, ap, ap₂, inl, inr, ◌∙◌, arith}
use Rattle.std.specs.Prelude.{◌&&◌, ◌||◌, not, map, max}
use Rattle.std.specs.List.{list_all}
use Rattle.std.proofs.Math.Nat.{le-div_iff_mul-le}
use Rattle.std.proofs.lemmas.Bool.{and_parts, and_from, cases_lt, lt-ltb, le-ltb}
use Rattle.std.proofs.lemmas.Bool.Decides.{nat_tests}
use Rattle.trend_num.specs.{Rec}
use Rattle.trend_model.specs.{is_late_record}
use Rattle.sheet_law.specs.{Grid, complete_windows, is_complete, kept_end, least, reaches, window_to, windows_before, longer}
use Rattle.sheet_law.proofs.Stay.{reaches_on}

-- Kept records reach what is before their end
pub reaches-is : (t : ℕ) (rs : List Rec) → reaches t rs ≡ nat_lt t (kept_end rs)
reaches-is t [] = (let h : nat_lt t 0 ≡ false = grind (arith, nat_tests) in sym h)
reaches-is t (r ∷ rs) = by_kind (is_late_record r.kind) (reaches-is t rs)
  where
    further : (a b : ℕ) → (nat_le t a || nat_lt t b) ≡ nat_lt t (max (a + 1) b)
    further a b = grind (arith, nat_tests)

    by_kind : (late : Bool) → reaches t rs ≡ nat_lt t (kept_end rs)
        → ((not late && nat_le t r.point.t) || reaches t rs)
        ≡ nat_lt t (cond late (kept_end rs) (max (r.point.t + 1) (kept_end rs)))
    by_kind true rest = rest
    by_kind false rest = ap (λ b. nat_le t r.point.t || b) rest ∙ further r.point.t (kept_end rs)

-- a window ends before a time exactly where it is one of those that are counted
ends_before : (w : Grid) (e k : ℕ) → 0 < w.period → (window_to w k < e) ↔ (k < windows_before w e)
ends_before w e k some = grind (arith, le-div_iff_mul-le)

under : (a b : ℕ) → nat_lt a b ≡ true → a < b
under a b h = grind (arith, nat_tests)

-- a number is below the least of some where it is below each
under_least : (k n : ℕ) (ns : List ℕ) → (k < least (n ∷ ns)) ↔ (list_all (nat_lt k) (n ∷ ns) ≡ true)
under_least k n [] = (λ h. grind (arith, nat_tests), λ h. grind (arith, nat_tests))
under_least k n (m ∷ ns) =
    let rest = under_least k m ns in (
      λ h. and_from (nat_lt k n) (list_all (nat_lt k) (m ∷ ns)) (lt-ltb k n (omega arith)) (rest.0 (omega arith)),
      λ h. (let both = and_parts (nat_lt k n) (list_all (nat_lt k) (m ∷ ns)) h in
          let first : k < n = under k n both.0 in
          let more = rest.1 both.1 in
          omega arith),
    )

-- a window is complete for an input where it is one of those that are counted for it
all_complete : (w : Grid) (k : ℕ) (rss : List (List Rec)) → 0 < w.period
    → list_all (reaches (window_to w k)) rss ≡ list_all (nat_lt k) (map (λ rs. windows_before w (kept_end rs)) rss)
all_complete w k [] some = refl
all_complete w k (rs ∷ rss) some =
    ap₂ (λ a b. a && b)
    (reaches-is (window_to w k) rs ∙ same_test (window_to w k) (kept_end rs) k (windows_before w (kept_end rs))
    (ends_before w (kept_end rs) k some))
    (all_complete w k rss some)
  where
    same_test : (a b c d : ℕ) → (a < b) ↔ (c < d) → nat_lt a b ≡ nat_lt c d
    same_test a b c d h =
        elim (cases_lt a b) [
          | inl before ↦ lt-ltb a b before ∙ sym (lt-ltb c d (h.0 before))
          | inr after ↦ le-ltb a b after ∙ sym (le-ltb c d (elim (cases_lt c d) [
            | inl wrong ↦ absurd (let k = h.1 wrong in omega arith)
            | inr right ↦ right
          ]))
        ]

-- the complete windows are those that are counted
pub complete_are : (w : Grid) (rs : List Rec) (rss : List (List Rec)) (k : ℕ) → 0 < w.period
    → (k < complete_windows w (rs ∷ rss)) ↔ (is_complete w (rs ∷ rss) k ≡ true)
complete_are w rs rss k some =
    let counted = under_least k (windows_before w (kept_end rs)) (map (λ xs. windows_before w (kept_end xs)) rss) in
    let same = all_complete w k (rs ∷ rss) some in
    (λ h. same ∙ counted.0 h, λ h. counted.1 (sym same ∙ h))

-- complete windows stay complete when records come
pub complete_on : (w : Grid) (rss mores : List (List Rec)) (k : ℕ) → is_complete w rss k ≡ true
    → is_complete w (longer rss mores) k ≡ true
complete_on w [] mores k complete = refl
complete_on w (rs ∷ rss) [] k complete = complete
complete_on w (rs ∷ rss) (more ∷ mores) k complete =
    let both = and_parts (reaches (window_to w k) rs) (is_complete w rss k) complete in
    and_from (reaches (window_to w k) (rs ++ more)) (is_complete w (longer rss mores) k)
    (reaches_on (window_to w k) rs more both.0) (complete_on w rss mores k both.1)

-- so there are no fewer of them
pub complete_grow : (w : Grid) (rss mores : List (List Rec)) → 0 < w.period
    → complete_windows w rss ≤ complete_windows w (longer rss mores)
complete_grow w [] mores some = omega arith
complete_grow w (rs ∷ rss) [] some = omega arith
complete_grow w (rs ∷ rss) (more ∷ mores) some =
    elim (cases_lt (complete_windows w (longer (rs ∷ rss) (more ∷ mores))) (complete_windows w (rs ∷ rss))) [
      | inl fewer ↦
          let n = complete_windows w (longer (rs ∷ rss) (more ∷ mores)) in
          let was = (complete_are w rs rss n some).0 fewer in
          let is = (complete_are w (rs ++ more) (longer rss mores) n some).1
          (complete_on w (rs ∷ rss) (more ∷ mores) n was) in
          absurd (omega arith)
      | inr more ↦ more
    ]
