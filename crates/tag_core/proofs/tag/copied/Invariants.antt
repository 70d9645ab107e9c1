use Rattle.std.proofs.Common.{◌≡◌, take, vec_capacity}
use Rattle.tag_core.proofs.tag.copied.Given as goal

abbrev pub invariant-loop-rec : goal.invariant-loop-rec
invariant-loop-rec l = record {
  items : l.copied.items ≡ take l.rec-index l.recs;
  room : vec_capacity l.copied ≡ l.places;
}
