-- Sheets that begin: saved rows of the right length, and no rows.
use Rattle.std.proofs.Common.{◌≡◌, ℕ, zero, suc, ◌-◌, ◌/◌, ◌<◌, inl, inr, List, [], ◌∷◌, Option, None, Some, length, get_or, replicate, All, refl, subst, sym, ap, ◌∙◌, arith}
use Rattle.std.specs.Prelude.{◌↔◌, IsSome, option_and_then, slice_get, Vec, vec_len}
use Rattle.std.specs.declared.alloc.Global.{Global}
use Rattle.calc_refresh.specs.{SheetNo, IsRefreshToldOf, shape_fault}
use Rattle.calc_refresh.specs.declared.refusal.SheetNo.TheVariants.{Shape, CellLimit, CopyLimit, WantOfMemory}
use Rattle.std.proofs.lemmas.Bool.{cases_eq, cases_lt, eq-eqb, ne_eqb}
use Rattle.std.proofs.Math.Nat.{zero-div}
use Rattle.std.proofs.lemmas.List.Elements.{All-cons, All-head, All-nil}
use Rattle.trend_num.specs.{CalcValue}
use Rattle.trend_num.specs.declared.value.Bad.TheVariants.{NoData}
use Rattle.trend_num.specs.declared.value.CalcValue.TheVariants.{Bad}
use Rattle.std.proofs.lemmas.Option.{slice_get-get_or, slice_get_past}
use Rattle.sheet_law.specs.{Grid, complete_windows}

-- where no row is reported each has its length
pub shapes_hold : (windows : ℕ) (rows : List (List CalcValue)) → shape_fault windows rows ≡ None
    → All (λ row. length row ≡ windows) rows
shapes_hold windows [] none = All-nil (λ row. length row ≡ windows)
shapes_hold windows (row ∷ rows) none =
    elim (cases_eq (length row) windows) [
      | inl same ↦
          All-cons (λ r. length r ≡ windows) row rows same
          (shapes_hold windows rows (rw (eq-eqb (length row) windows same) at none))
      | inr other ↦ absurd (let h = rw (ne_eqb (length row) windows other) at none in cc)
    ]

-- without records no window is complete
pub none_complete : (w : Grid) (n : ℕ) → complete_windows w (replicate n []) ≡ 0
none_complete w zero = refl
none_complete w (suc zero) = no_window (w.start) (w.period)
  where
    no_window : (s p : ℕ) → (0 - 1 - s) / p ≡ 0
    no_window s p = (let none : 0 - 1 - s ≡ 0 = omega arith in ap (λ n. n / p) none ∙ zero-div p)
none_complete w (suc (suc n)) = (let rest = none_complete w (suc n) in omega arith)

-- a value is in a row exactly at a calculation and a complete window
pub row_there : (rows : List (List CalcValue)) (calcs n i k : ℕ) (o : Option CalcValue)
    → o ≡ option_and_then (λ row. slice_get row k) (slice_get rows i) → length rows ≡ calcs
    → All (λ row. length row ≡ n) rows → IsSome o ↔ ((i < calcs) × (k < n))
row_there rows calcs n i k o is many long =
    elim (cases_lt i (length rows)) [
      | inl inside ↦
          let row = get_or rows i [] in
          let at : slice_get rows i ≡ Some row = slice_get-get_or rows i [] inside in
          let len : length row ≡ n = long i [] inside in
          let value : o ≡ slice_get row k = is ∙ ap (option_and_then (λ row. slice_get row k)) at in
          elim (cases_lt k (length row)) [
            | inl below ↦
                let some : o ≡ Some (get_or row k (Bad NoData)) = value ∙ slice_get-get_or row k (Bad NoData) below in
                (λ h. (omega arith, omega arith), λ h. subst (λ (p : Option CalcValue). IsSome p) (sym some) refl)
            | inr past ↦
                let none : o ≡ None = value ∙ slice_get_past row k past in
                (λ h. absurd (let clash = subst (λ (p : Option CalcValue). IsSome p) none h in cc), λ h. absurd (omega arith))
          ]
      | inr outside ↦
          let none : o ≡ None = is ∙ ap (option_and_then (λ row. slice_get row k)) (slice_get_past rows i outside) in
          (λ h. absurd (let clash = subst (λ (p : Option CalcValue). IsSome p) none h in cc), λ h. absurd (omega arith))
    ]

-- rows of one length are as short as the first of them
pub few_by : (rows : List (Vec CalcValue Global)) (n bound : ℕ) → 0 < length rows → All (λ row. vec_len row ≡ n) rows
    → All (λ row. vec_len row < bound) rows → n < bound
few_by [] n bound some long short = absurd (omega arith)
few_by (v ∷ rows) n bound some long short =
    let is = All-head (λ row. vec_len row ≡ n) v rows long in
    let few = All-head (λ row. vec_len row < bound) v rows short in
    omega (arith, is, few)

-- a fault that is there is what is reported
pub told_of : (o : Option SheetNo) (why : SheetNo) → o ≡ Some why → IsRefreshToldOf o why
told_of o (Shape windows rows) is = is
told_of o (CellLimit cells) is = is
told_of o (CopyLimit records) is = is
told_of o WantOfMemory is = tt
