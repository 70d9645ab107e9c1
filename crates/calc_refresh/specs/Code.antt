-- How the logic stores a sheet.
use Rattle.std.specs.Prelude.{ℕ, List, refl}
use Rattle.std.specs.Coded.{Coded, code_by, coded×, coded_list, coded_ℕ}
use Rattle.trend_num.specs.contracts.archive.Rec as rec
use Rattle.trend_num.specs.contracts.value.CalcValue as value
use Rattle.trend_num.specs.{Rec, CalcValue}
use Rattle.calc_check.specs.{group_code}
use Rattle.calc_check.specs.Group.{Group}
use Rattle.sheet_law.specs.contracts.grid.Grid as grid
use Rattle.sheet_law.specs.{Grid}
use Rattle.calc_refresh.specs.Sheet.{SheetState}

abbrev copies_code : Coded (List (List Rec))
copies_code = coded_list (coded_list rec.the_row.coded)

abbrev rows_code : Coded (List (List CalcValue))
rows_code = coded_list (coded_list value.the_row.coded)

abbrev pub sheet_code : Coded SheetState
sheet_code = code_by (Group × (Grid × (List (List Rec) × (List (List CalcValue) × (ℕ × List ℕ)))))
    (coded× group_code (coded× grid.the_row.coded (coded× copies_code (coded× rows_code (coded× coded_ℕ (coded_list coded_ℕ))))))
    (λ s. (s.group, (s.grid, (s.copies, (s.rows, (s.evals, s.due))))))
    (λ p. record { group = p.0; grid = p.1.0; copies = p.1.1.0; rows = p.1.1.1.0; evals = p.1.1.1.1.0; due = p.1.1.1.1.1 })
    (λ _. refl)
