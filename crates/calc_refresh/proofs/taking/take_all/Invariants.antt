use Rattle.std.proofs.Common.{◌≡◌, ℕ, ◌<◌, ◌≤◌, length, get_or, map, take}
use Rattle.std.specs.Prelude.{◌||◌, Vec}
use Rattle.std.specs.declared.alloc.Global.{Global}
use Rattle.trend_num.specs.{Rec}
use Rattle.trend_model.specs.{ContentState, listed}
use Rattle.sheet_law.specs.{kept_end, window_from, window_to, any_touched, longer}
use Rattle.calc_refresh.specs.{lists_of, is_marked}
use Rattle.calc_refresh.proofs.taking.take_all.Given as goal

abbrev pub invariant-loop-i : goal.invariant-loop-i
invariant-loop-i l = record {
  copied : lists_of l.copies ≡ longer (lists_of l.initial.copies) (lists_of (take l.i l.deltas));
  read : map (λ c. c.records) l.contents ≡ map listed (lists_of l.copies);
  ended : l.ends ≡ map kept_end (lists_of l.copies);
  copies_rest : (k : ℕ) (d : Vec Rec Global) → l.i ≤ k → get_or l.copies k d ≡ get_or l.initial.copies k d;
  contents_rest : (k : ℕ) (d : ContentState) → l.i ≤ k → get_or l.contents k d ≡ get_or l.initial.contents k d;
  marked : (k : ℕ) → k < length l.marks → is_marked l.marks k
      ≡ (is_marked l.initial.marks k
      || any_touched (lists_of l.initial.copies) (lists_of (take l.i l.deltas)) (window_from l.grid k) (window_to l.grid k));
}
