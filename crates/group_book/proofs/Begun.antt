-- What a crash left until the opening of a book ended.
use Rattle.std.proofs.Common.{arith, ◌≡◌, Option, None, Some, List, ℕ, sym, subst}
use Rattle.std.specs.Prelude.{IfSome}
use Rattle.calc_refresh.specs.{GroupDefParts, lists_of}
use Rattle.disk_model.specs.{Shows, ComesAfter, During, Device, HandOut, Trace, moment}
use Rattle.disk_model.proofs.Moments.{after_both, after_self}
use Rattle.group_book.specs.{GroupOpening, BookBeganWell, BookStaysSame, IsBookOpenedWell, StandsForGroup}

-- at the end of the opening of a device that was not used since it was handed out
pub began_well : {D : Type 0} (device : D → Device) (text : List ℕ) (def : GroupDefParts) (o : GroupOpening) (old new : D)
    → IfSome (device old).handed.trace (λ t. (device old).trace ≡ t) → (device new).handed ≡ (device old).handed
    → Shows (device old).trace (StandsForGroup text def o.versions.items (lists_of o.rows.items))
    → During (device old).trace (device new).trace (BookStaysSame text def (device old).trace)
    → o.moment ≡ moment (device new).trace → BookBeganWell device text def o (Some new)
began_well device text def o old new unused kept stood same at = grind (arith, after_self)

-- and after more calls
pub still_well : {D : Type 0} (device : D → Device) (text : List ℕ) (def : GroupDefParts) (o : GroupOpening) (old new : D)
    → (device new).handed ≡ (device old).handed → ComesAfter (device old).trace (device new).trace
    → BookBeganWell device text def o (Some old) → BookBeganWell device text def o (Some new)
still_well device text def o old new kept after was =
    subst (λ (h : HandOut). IfSome h.trace (λ t. IsBookOpenedWell text def o t (device new).trace)) (sym kept)
    (from (device old).handed.trace was)
  where
    from : (start : Option Trace) → IfSome start (λ t. IsBookOpenedWell text def o t (device old).trace)
        → IfSome start (λ t. IsBookOpenedWell text def o t (device new).trace)
    from None well = tt
    from (Some t) well = record {
      ended = well.ended;
      stood = well.stood;
      same = well.same;
      at = well.at;
      later = after_both well.ended (device old).trace (device new).trace well.later after;
    }
