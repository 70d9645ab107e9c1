-- What a value of a type parameter leaves where it ends in another thread.
use Rattle.std.proofs.Common.{Bool, true, false, rules}
use denote.Exit.{Last, if_kept, unseen, left}
use base.Shift.{Keyless}

-- nothing, whether its type is kept or not
pub leaves_nothing : {D : Type 0} (kept : Bool) (x : D) (w : Last (if_kept kept (unseen {D = D}) (unseen {D = D})) x)
    → Keyless (left (if_kept kept (unseen {D = D}) (unseen {D = D})) x w)
leaves_nothing true x w = search rules
leaves_nothing false x w = search rules
