use Rattle.std.proofs.Common.{◌≡◌, ◌⊎◌, ℕ, ◌<◌, Contains, drop, length, vec_len}
use Rattle.std.specs.Prelude.{slice_get}
use Rattle.group_book.proofs.saved_rows.bring_row.Given as goal

abbrev pub invariant-loop-k : goal.invariant-loop-k
invariant-loop-k l = record {
  len : vec_len l.saved ≡ length l.row;
  right : (j : ℕ) → j < length l.row → Contains (drop l.k-index l.changed) j ⊎ (slice_get l.saved.items j ≡ slice_get l.row j);
}
