-- Kept records and late ones.
use Rattle.std.proofs.Common.{◌≡◌, ◌+◌, List, [], ◌∷◌, length, refl, arith, cond}
use Rattle.std.specs.List.{count_by}
use Rattle.std.proofs.lemmas.List.Sums.{sum_by-cons}
use Rattle.trend_num.specs.{Kind, Rec}
use Rattle.trend_num.specs.declared.archive.Kind.TheVariants.{Kept, Late}
use Rattle.trend_report.specs.{is_kept, is_late}

-- A kind is one of the two.
one_kind : (k : Kind) → cond (is_kept k) 1 0 + cond (is_late k) 1 0 ≡ 1
one_kind Kept = refl
one_kind Late = refl

-- Each record is kept or late.
pub kept_or_late : (rs : List Rec) → count_by (λ r. is_kept r.kind) rs + count_by (λ r. is_late r.kind) rs ≡ length rs
kept_or_late [] = refl
kept_or_late (r ∷ rs) =
    omega (
      arith,
      sum_by-cons (λ (x : Rec). cond (is_kept x.kind) 1 0) r rs,
      sum_by-cons (λ (x : Rec). cond (is_late x.kind) 1 0) r rs,
      one_kind r.kind,
      kept_or_late rs,
    )
