use Rattle.std.proofs.Common.{◌≡◌, length, take}
use Rattle.std.specs.List.{AllZip}
use Rattle.session_audit.proofs.opening.copies_of.Given as goal

abbrev pub invariant-loop-one : goal.invariant-loop-one
invariant-loop-one g l = record {
  count : length l.known.items ≡ l.one-index;
  copied : AllZip g.T.Opened.is_copied (take l.one-index l.opened) l.known.items;
}
