-- The bytes of a summary.
use Rattle.std.specs.Prelude.{◌≡◌, ℕ, ◌+◌, ◌^◌, ◌<◌, Bool, true, if◌then◌else◌, List, [], ◌∷◌, ◌++◌, replicate, Option, None, Some, is_some, IfSome}
use Rattle.trend_num.specs.{Summary, Tuning, InRange, TuningInRange}
use Rattle.archive_file.specs.Fields.{number_bytes, place_bytes}

-- a tuning in 32 bytes, or zeros if it is absent
abbrev pub tuning_bytes : Option Tuning → List ℕ
tuning_bytes None = replicate 32 0
tuning_bytes (Some t) = number_bytes 7 t.exc_dev
    ++ (number_bytes 6 t.exc_max ++ (number_bytes 7 t.comp_dev
    ++ (number_bytes 6 t.comp_min ++ number_bytes 6 t.comp_max)))

-- one bit of the flags
abbrev pub flag : Bool → ℕ → ℕ
flag there bit = if there then bit else 0

-- which parts are there: held 1, pending 2, hinge 4, doors 8, tuning 16
abbrev pub flags : Summary → ℕ
flags s = flag (is_some s.held) 1 + flag (is_some s.pending) 2 + flag (is_some s.hinge) 4 + flag
    (is_some s.upper) 8 + flag (is_some s.tuning) 16

-- the five points of a summary
abbrev pub places_image : Summary → List ℕ
places_image s = place_bytes s.held ++ (place_bytes s.pending
    ++ (place_bytes s.hinge ++ (place_bytes s.upper ++ place_bytes s.lower)))

-- a summary in 128 bytes
abbrev pub summary_image : Summary → List ℕ
summary_image s =
    number_bytes 8 s.taken ++ (number_bytes 4 s.records
    ++ ((flags s ∷ 0 ∷ 0 ∷ 0 ∷ []) ++ (places_image s ++ tuning_bytes s.tuning)))

-- a summary that has a spelling. Held and hinge are both there or both absent, and so are the two doors. The doors and
-- a pending value are there only if held is. All that is there is in range
pub record IsSummary (s : Summary) : Type 0 where
  pub taken : s.taken < 2 ^ 64
  pub records : s.records < 2 ^ 32
  pub together : is_some s.held ≡ is_some s.hinge
  pub pending_after : is_some s.pending ≡ true → is_some s.held ≡ true
  pub doors : is_some s.upper ≡ is_some s.lower
  pub doors_after : is_some s.upper ≡ true → is_some s.held ≡ true
  pub held : IfSome s.held InRange
  pub pending : IfSome s.pending InRange
  pub hinge : IfSome s.hinge InRange
  pub upper : IfSome s.upper InRange
  pub lower : IfSome s.lower InRange
  pub tuning : IfSome s.tuning TuningInRange
