-- One event more of a drill.
use Rattle.std.proofs.Common.{◌≡◌, ℕ, ◌+◌, List, ◌++◌, ◌∷◌, [], ap, ap₂, ◌∙◌, sym, add-one, arith}
use Rattle.std.proofs.lemmas.List.FromFn.{map-range_with_len_more}
use Rattle.trend_num.specs.{Point}
use Rattle.trend_report.specs.{Signal, signal_after, drill_points, event, signal_at}

-- the points of so many events, and the event at that place after them, are those of one event more
pub one_event_more : (number tag n : ℕ) (rows more : List Point) (s : Signal) (p : Point)
    → rows ≡ drill_points number tag n → s ≡ signal_at number tag n → p ≡ event n s → more ≡ rows ++ p ∷ []
    → more ≡ drill_points number tag (n + 1)
one_event_more number tag n rows more s p rows_are s_is p_is more_is =
    more_is ∙ ap₂ (λ (ps : List Point) (q : Point). ps ++ q ∷ []) rows_are (p_is ∙ ap (event n) s_is)
    ∙ sym (map-range_with_len_more (λ k. event k (signal_at number tag k)) 0 n n (omega arith))

-- the signal is then the one signal_after that event
pub next_signal : (number tag n : ℕ) (s t : Signal)
    → s ≡ signal_at number tag n → t ≡ signal_after n s → t ≡ signal_at number tag (n + 1)
next_signal number tag n s t s_is t_is = t_is ∙ ap (signal_after n) s_is ∙ rw add-one
