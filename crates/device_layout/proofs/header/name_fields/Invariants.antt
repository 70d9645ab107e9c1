use Rattle.std.proofs.Common.{◌≡◌, ℕ, ◌+◌, ◌<◌, length, get_or, true}
use Rattle.device_layout.specs.{byte_field, is_name_at}
use Rattle.device_layout.proofs.header.name_fields.Given as goal

-- the fields so far
abbrev pub invariant-loop-i : goal.invariant-loop-i
invariant-loop-i l = record {
  long : length l.fields ≡ 64;
  made : (k : ℕ) → k < l.i → get_or l.fields k (byte_field 0 true) ≡ byte_field (6 + k) (is_name_at l.h (6 + k));
}
