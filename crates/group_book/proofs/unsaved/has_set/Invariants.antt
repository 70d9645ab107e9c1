use Rattle.std.proofs.Common.{◌≡◌, false, All, take}
use Rattle.std.specs.Prelude.{◌↔◌}
use Rattle.group_book.proofs.unsaved.has_set.Given as goal

abbrev pub invariant-loop-flag : goal.invariant-loop-flag
invariant-loop-flag l = l.set ≡ false ↔ All (λ flag. flag ≡ false) (take l.flag-index l.flags)
