-- What replaying events does to a state: it counts them, and its records grow.
use Rattle.std.proofs.Common.{◌≡◌, ℕ, ◌+◌, Bool, List, [], ◌∷◌, ◌++◌, length, Some, refl, sym, ◌∙◌, ap, arith, append_assoc}
use Rattle.std.proofs.lemmas.List.{append-nil}
use Rattle.trend_num.specs.{declared.archive.Rec.Rec, declared.tuning.Tuning.Tuning}
use Rattle.trend_model.specs.{Event}
use Rattle.trend_model.specs.State.{State, archive_in, turned, archived, after, after_under, replay}
use Rattle.trend_model.proofs.RulesLaw.{after_more}
use Rattle.device_layout.specs.{AllFit}

-- a state after so many events more, which has a tuning
pub record IsCounted (n : ℕ) (s r : State) : Type 0 where
  pub tuning : Tuning
  pub tuned : r.summary.tuning ≡ Some tuning
  pub taken : r.summary.taken ≡ s.summary.taken + n

-- one event counts as one, and leaves a tuning
after_counted : (step : Bool) (s : State) (e : Event) (u : Tuning) → s.summary.tuning ≡ Some u
    → IsCounted 1 s (after step s e)
after_counted step s e u tuned =
    let t = turned u s.summary.held s.summary.pending e in
    let is : after step s e ≡ after_under step s e (Some u) = ap (after_under step s e) tuned in
    record {
      tuning = (archived step (archive_in u s) t.sends).tuning;
      tuned = ap (λ (r : State). r.summary.tuning) is;
      taken = ap (λ (r : State). r.summary.taken) is;
    }

-- so many events count as so many
pub replay_counted : (step : Bool) (s : State) (events : List Event) (u : Tuning) → s.summary.tuning ≡ Some u
    → IsCounted (length events) s (replay step s events)
replay_counted step s [] u tuned = record { tuning = u; tuned = tuned; taken = omega arith }
replay_counted step s (e ∷ events) u tuned =
    let one = after_counted step s e u tuned in
    let rest = replay_counted step (after step s e) events one.tuning one.tuned in
    record { tuning = rest.tuning; tuned = rest.tuned; taken = omega (arith, one.taken, rest.taken) }

-- the records that were there stay
pub replay_more : (step : Bool) (s : State) (events : List Event)
    → (more : List Rec) × ((replay step s events).records ≡ s.records ++ more)
replay_more step s [] = ([], sym (append-nil s.records))
replay_more step s (e ∷ events) =
    let one = after_more step s e in
    let rest = replay_more step (after step s e) events in
    (one.0 ++ rest.0, rest.1 ∙ ap (λ l. l ++ rest.0) one.1 ∙ append_assoc s.records one.0 rest.0)

-- events after events
pub replay_append : (step : Bool) (s : State) (xs ys : List Event) → replay step s (xs ++ ys) ≡ replay step
    (replay step s xs) ys
replay_append step s [] ys = refl
replay_append step s (x ∷ xs) ys = replay_append step (after step s x) xs ys

-- these find room where those do, and then these
pub fit_append : (step : Bool) (s : State) (xs ys : List Event) → AllFit step s xs
    → AllFit step (replay step s xs) ys → AllFit step s (xs ++ ys)
fit_append step s [] ys first then = then
fit_append step s (x ∷ xs) ys first then = (first.0, fit_append step (after step s x) xs ys first.1 then)
