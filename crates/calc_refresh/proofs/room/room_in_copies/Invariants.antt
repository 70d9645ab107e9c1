use Rattle.std.proofs.Common.{◌≡◌, ℕ, ◌+◌, ◌<◌, ◌≤◌, length, get_or, vec_len, vec_capacity}
use Rattle.std.specs.Prelude.{Vec}
use Rattle.std.specs.declared.alloc.Global.{Global}
use Rattle.trend_num.specs.{Rec}
use Rattle.calc_refresh.specs.{lists_of}
use Rattle.calc_refresh.proofs.room.room_in_copies.Given as goal

abbrev pub invariant-loop-i : goal.invariant-loop-i
invariant-loop-i l = record {
  kept : lists_of l.copies ≡ lists_of l.initial.copies;
  room : (j : ℕ) (c d : Vec Rec Global) → j < l.i
      → vec_len (get_or l.copies j c) + length (get_or l.deltas j d).items ≤ vec_capacity (get_or l.copies j c);
}
