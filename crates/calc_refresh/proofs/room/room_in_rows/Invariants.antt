use Rattle.std.proofs.Common.{◌≡◌, ℕ, ◌<◌, ◌≤◌, get_or, vec_capacity}
use Rattle.std.specs.Prelude.{Vec}
use Rattle.std.specs.declared.alloc.Global.{Global}
use Rattle.trend_num.specs.{CalcValue}
use Rattle.calc_refresh.specs.{lists_of}
use Rattle.calc_refresh.proofs.room.room_in_rows.Given as goal

abbrev pub invariant-loop-i : goal.invariant-loop-i
invariant-loop-i l = record {
  kept : lists_of l.rows ≡ lists_of l.initial.rows;
  room : (j : ℕ) (d : Vec CalcValue Global) → j < l.i → l.windows ≤ vec_capacity (get_or l.rows j d);
}
