use Rattle.std.proofs.Common.{◌≡◌, ℕ, ◌+◌, ◌<◌, All, get_or, length}
use Rattle.calc_refresh.specs.{IsCopy}
use Rattle.tag_cell.specs.{Pulled}
use Rattle.group_book.specs.{GivesNone, pulled_records}
use Rattle.group_book.proofs.refresh.pull_all.Given as goal

abbrev pub invariant-loop-i : goal.invariant-loop-i
invariant-loop-i g l = record {
  len : length l.pulled.items ≡ l.i;
  copied : All IsCopy (pulled_records l.pulled.items);
  goes_on :
      (k : ℕ) (p : Pulled) → k < length l.pulled.items
      → (get_or l.pulled.items k p).upto ≡ get_or l.versions k 0 + length (get_or l.pulled.items k p).recs.items;
  none : GivesNone l.tags (length l.cells) (pulled_records l.pulled.items);
}
