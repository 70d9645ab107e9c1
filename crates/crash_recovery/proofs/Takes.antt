-- Values that are taken one after the other.
use Rattle.std.proofs.Common.{◌≡◌, ℕ, ◌+◌, ◌*◌, ◌<◌, ◌≤◌, Bool, List, [], ◌∷◌, ◌++◌, length, take, map, get_or, refl, sym, ◌∙◌, ap, arith, true, false}
use Rattle.std.proofs.{lemmas.List.take_more, lemmas.List.map-append}
use Rattle.trend_num.specs.{Limits.most_records, declared.point.Point.Point}
use Rattle.trend_model.specs.{History.Event, History.Raw, State.State, State.after, State.replay}
use Rattle.tag_core.specs.Core.{Core}
use Rattle.device_layout.specs.{AllFit}

-- one event more
pub replay_more : (step : Bool) (s : State) (es : List Event) (e : Event)
    → replay step s (es ++ e ∷ []) ≡ after step (replay step s es) e
replay_more step s [] e = refl
replay_more step s (x ∷ es) e = replay_more step (after step s x) es e

-- finds room where all before it did
pub fit_more : (step : Bool) (s : State) (es : List Event) (e : Event) → AllFit step s es
    → length (replay step s es).records + 2 ≤ most_records → AllFit step s (es ++ e ∷ [])
fit_more step s [] e fit room = (room, tt)
fit_more step s (x ∷ es) e fit room = (fit.0, fit_more step (after step s x) es e fit.1 room)

-- where too many are refused and this many are not, they are few enough
pub few_enough : (n : ℕ) → (most_records < n → false ≡ true) → n ≤ most_records
few_enough n never = grind arith

-- the first n of these values were taken
pub record IsTakenTo (points : List Point) (n : ℕ) (start now : Core) : Type 0 where
  pub same_step : now.step ≡ start.step
  pub fit : AllFit start.step start.state (map Raw (take n points))
  pub state : now.state ≡ replay start.step start.state (map Raw (take n points))
  pub taken : now.state.summary.taken ≡ start.state.summary.taken + n
  pub room : start.spare ≤ now.spare + 2 * n

-- one more was
pub taken_to_more : (points : List Point) (n : ℕ) (p : Point) (start now new : Core) → IsTakenTo points n start now
    → n < length points → p ≡ get_or points n p → new.state ≡ after now.step now.state (Raw p) → new.step ≡ now.step
    → new.state.summary.taken ≡ now.state.summary.taken + 1 → length now.state.records + 2 ≤ most_records
    → now.spare ≤ new.spare + 2 → IsTakenTo points (n + 1) start new
taken_to_more points n p start now new so_far there is state step taken room spare =
    let more : map Raw (take (n + 1) points) ≡ map Raw (take n points) ++ Raw p ∷ [] =
    ap (map Raw) (take_more points n p there ∙ ap (λ q. take n points ++ q ∷ []) (sym is))
    ∙ map-append Raw (take n points) (p ∷ []) in
    record {
      same_step = step ∙ so_far.same_step;
      fit = grind (arith, fit_more);
      state = grind (arith, replay_more);
      taken = omega (arith, taken, so_far.taken);
      room = omega (arith, spare, so_far.room);
    }
