use Rattle.std.proofs.Common.{◌≡◌, ℕ, ◌<◌, ◌≤◌, length, get_or, map}
use Rattle.std.specs.Prelude.{Vec}
use Rattle.std.specs.declared.alloc.Global.{Global}
use Rattle.trend_num.specs.{Rec}
use Rattle.trend_model.specs.{ContentState, listed}
use Rattle.calc_refresh.specs.{lists_of}
use Rattle.calc_refresh.proofs.room.room_in_contents.Given as goal

abbrev pub invariant-loop-i : goal.invariant-loop-i
invariant-loop-i l = record {
  read : map (λ c. c.records) l.contents ≡ map listed (lists_of l.copies);
  spare : (j : ℕ) (c : ContentState) (d : Vec Rec Global) → j < l.i
      → length (get_or l.deltas j d).items ≤ (get_or l.contents j c).spare;
}
