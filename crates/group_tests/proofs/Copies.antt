-- A sheet has as many inputs whatever it receives.
use Rattle.std.proofs.Common.{◌≡◌, List, length, ap, ◌∙◌, Result, Ok, Err, OnOk, OnErr}
use Rattle.trend_num.specs.{Rec}
use Rattle.calc_refresh.specs.{IsRefreshed, SheetState}
use Rattle.calc_refresh.proofs.Inputs.{length-longer}

-- with more records, or as it was where it is refused
pub as_many_copies : {T E : Type 0} → (result : Result T E) (s t : SheetState) (mores : List (List Rec))
    → OnOk result (IsRefreshed s t mores) → OnErr result (t ≡ s) → length t.copies ≡ length s.copies
as_many_copies (Ok x) s t mores refreshed same = ap length refreshed.copies ∙ length-longer s.copies mores
as_many_copies (Err e) s t mores refreshed same = ap (λ (u : SheetState). length u.copies) same
