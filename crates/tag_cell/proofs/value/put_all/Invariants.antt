use Rattle.std.proofs.Common.{◌≡◌, ◌+◌, ◌≤◌, fold, take}
use Rattle.trend_model.specs.{placed}
use Rattle.tag_cell.proofs.value.put_all.Given as goal

abbrev pub invariant-loop-rec : goal.invariant-loop-rec
invariant-loop-rec l = record {
  records : l.content.records ≡ fold (λ m r. placed r m) l.fn.content.records (take l.rec-index l.recs);
  room : l.fn.content.spare ≤ l.content.spare + l.rec-index;
}
