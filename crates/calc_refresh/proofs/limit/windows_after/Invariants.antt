use Rattle.std.proofs.Common.{◌≡◌, List, map, take}
use Rattle.trend_num.specs.{Rec}
use Rattle.sheet_law.specs.{kept_end, least, windows_before, longer}
use Rattle.calc_refresh.specs.{lists_of}
use Rattle.calc_refresh.proofs.limit.windows_after.Given as goal

abbrev pub invariant-loop-i : goal.invariant-loop-i
invariant-loop-i l = (rss : List (List Rec)) → l.ends ≡ map kept_end rss
    → l.least ≡ least (take l.i (map (λ rs. windows_before l.grid (kept_end rs)) (longer rss (lists_of l.deltas))))
