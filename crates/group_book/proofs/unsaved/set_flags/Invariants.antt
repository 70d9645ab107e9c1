use Rattle.std.proofs.Common.{◌≡◌, ℕ, true, Contains, take}
use Rattle.group_book.specs.{is_unsaved}
use Rattle.group_book.proofs.unsaved.set_flags.Given as goal

abbrev pub invariant-loop-k : goal.invariant-loop-k
invariant-loop-k l = record {
  set : (j : ℕ) → Contains (take l.k-index l.windows) j → is_unsaved l.flags j ≡ true;
  others : (j : ℕ) → (Contains (take l.k-index l.windows) j → ⊥) → is_unsaved l.flags j ≡ is_unsaved l.initial.flags j;
}
