-- What a crash left until the opening of a cell ended.
use Rattle.std.proofs.Common.{◌≡◌, Option, None, Some, sym, subst}
use Rattle.std.specs.Prelude.{IfSome}
use Rattle.trend_num.specs.{TagDef}
use Rattle.disk_model.specs.{Device, HandOut, Trace, moment, ComesAfter}
use Rattle.disk_model.proofs.Moments.{after_both, after_self}
use Rattle.crash_recovery.specs.{RecoversThen, StaysSame}
use Rattle.tag_cell.specs.{TagOpening, opened, BeganWell, IsOpenedWell}

-- at the end of the opening of a device that was not used since it was handed out
pub began_well : (def : TagDef) (o : TagOpening) (old new : Device) → IfSome old.handed.trace (λ t. old.trace ≡ t)
    → new.handed ≡ old.handed → StaysSame def old.trace new.trace → RecoversThen def old.trace new.trace (opened o)
    → o.moment ≡ moment new.trace → BeganWell def o new.handed new.trace
began_well def o old new unused kept same recovers at =
    subst (λ (h : HandOut). BeganWell def o h new.trace) (sym kept) (from old.handed.trace unused)
  where
    from : (start : Option Trace) → IfSome start (λ t. old.trace ≡ t) → IfSome start (λ t. IsOpenedWell def o t new.trace)
    from None unused = tt
    from (Some t) unused = subst (λ (x : Trace). IsOpenedWell def o x new.trace) unused
        (record { ended = new.trace; same = same; recovers = recovers; at = sym at; later = after_self new.trace })

-- and after more calls
pub still_well : (def : TagDef) (o : TagOpening) (old new : Device) → new.handed ≡ old.handed → ComesAfter old.trace new.trace
    → BeganWell def o old.handed old.trace → BeganWell def o new.handed new.trace
still_well def o old new kept after was =
    subst (λ (h : HandOut). BeganWell def o h new.trace) (sym kept) (from old.handed.trace was)
  where
    from : (start : Option Trace) → IfSome start (λ t. IsOpenedWell def o t old.trace) → IfSome start (λ t. IsOpenedWell def o t new.trace)
    from None well = tt
    from (Some t) well = record {
      ended = well.ended;
      same = well.same;
      recovers = well.recovers;
      at = well.at;
      later = after_both well.ended old.trace new.trace well.later after;
    }
