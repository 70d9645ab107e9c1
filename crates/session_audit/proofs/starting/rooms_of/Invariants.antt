use Rattle.std.proofs.Common.{◌≡◌, ◌<◌, ℕ, length, take, get_or}
use Rattle.calc_refresh.specs.{lists_of}
use Rattle.session_audit.specs.{tag_rows}
use Rattle.session_audit.proofs.starting.rooms_of.Given as goal

abbrev pub invariant-loop-rows : goal.invariant-loop-rows
invariant-loop-rows l = record {
  tags : length l.rooms.items ≡ l.tags;
  counted : (tag : ℕ) → tag < l.tags → get_or l.rooms.items tag 0 ≡ tag_rows tag (lists_of (take l.rows-index l.files));
}
