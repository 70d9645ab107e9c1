-- What a crash left until the opening of a log ended.
use Rattle.std.proofs.Common.{◌≡◌, Option, None, Some, List, ℕ, sym, subst}
use Rattle.std.specs.Prelude.{IfSome}
use Rattle.disk_model.specs.{Shows, ComesAfter, During, Device, HandOut, Trace, moment}
use Rattle.disk_model.proofs.Moments.{after_both, after_self}
use Rattle.commit_log.specs.{LogRow, StandsForRows, IsLeftOrStands, IsLogOpenedWell, LogBeganWell}

module _ (plant : List ℕ) (tags : ℕ) (opening : List LogRow) (opened_at : ℕ) (old new : Device)
    (kept : new.handed ≡ old.handed) where
  -- at the end of the opening of a device that was not used since it was handed out
  pub began_well : IfSome old.handed.trace (λ t. old.trace ≡ t) → Shows old.trace (λ c. StandsForRows plant tags c opening)
      → During old.trace new.trace (IsLeftOrStands plant tags opening old.trace) → opened_at ≡ moment new.trace
      → LogBeganWell plant tags opening opened_at new.handed new.trace
  began_well unused stood same at =
      subst (λ (h : HandOut). LogBeganWell plant tags opening opened_at h new.trace) (sym kept) (from old.handed.trace unused)
    where
      from : (start : Option Trace) → IfSome start (λ t. old.trace ≡ t)
          → IfSome start (λ t. IsLogOpenedWell plant tags opening opened_at t new.trace)
      from None unused = tt
      from (Some t) unused = subst (λ (x : Trace). IsLogOpenedWell plant tags opening opened_at x new.trace) unused
          (record { ended = new.trace; stood = stood; same = same; at = sym at; later = after_self new.trace })

  -- and after more calls
  pub still_well : ComesAfter old.trace new.trace → LogBeganWell plant tags opening opened_at old.handed old.trace
      → LogBeganWell plant tags opening opened_at new.handed new.trace
  still_well after was =
      subst (λ (h : HandOut). LogBeganWell plant tags opening opened_at h new.trace) (sym kept) (from old.handed.trace was)
    where
      from : (start : Option Trace) → IfSome start (λ t. IsLogOpenedWell plant tags opening opened_at t old.trace)
          → IfSome start (λ t. IsLogOpenedWell plant tags opening opened_at t new.trace)
      from None well = tt
      from (Some t) well = record {
        ended = well.ended;
        stood = well.stood;
        same = well.same;
        at = well.at;
        later = after_both well.ended old.trace new.trace well.later after;
      }
