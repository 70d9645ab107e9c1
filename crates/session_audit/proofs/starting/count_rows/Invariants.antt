use Rattle.std.proofs.Common.{◌≡◌, ◌+◌, ◌<◌, ℕ, length, nat_eq, take, get_or}
use Rattle.std.specs.List.{count_by}
use Rattle.session_audit.proofs.starting.count_rows.Given as goal

abbrev pub invariant-loop-row : goal.invariant-loop-row
invariant-loop-row l = record {
  tags : length l.rooms.items ≡ length l.initial.rooms.items;
  counted : (tag : ℕ) → tag < length l.initial.rooms.items
      → get_or l.rooms.items tag 0 ≡ get_or l.initial.rooms.items tag 0 + count_by (λ r. nat_eq r.tag tag) (take l.row-index l.rows);
}
