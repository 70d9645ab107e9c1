use Rattle.std.proofs.Common.{◌≡◌, [], map, drop, vec_len}
use Rattle.toml.specs.View.{items_view}
use Rattle.shift_calendar.specs.{starts_after}
use Rattle.shift_calendar.proofs.start.times_of.Given as goal

abbrev pub invariant-loop-item : goal.invariant-loop-item
invariant-loop-item l = record {
  read : starts_after (map (λ s. s.minute) l.starts.items) (items_view (drop l.item-index l.items)) ≡ starts_after [] (items_view l.items);
  as_many : vec_len l.starts ≡ l.item-index;
}
