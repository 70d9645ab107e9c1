-- The versions of a block, read in turn.
use Rattle.std.proofs.Common.{arith, ℕ, ◌+◌, ◌<◌, All, List, [], ◌∷◌, ◌++◌, length, get_or, drop, Option, nat_le}
use Rattle.std.proofs.lemmas.List.{drop_more}
use Rattle.archive_file.specs.{Field, BreaksFirst, Keeps, short_at}
use Rattle.group_layout.specs.{version_fields}
use Rattle.archive_file.proofs.FieldLaws.{KeptUpTo, breaks_after, breaks_within, field_of, kept_more}

module _ (c : List ℕ) (before : List ℕ) (start at i : ℕ) (low : i < length before)
    (so_far : KeptUpTo c (version_fields c before start) (version_fields c (drop i before) at)) where
  -- the field of the next version
  abbrev pub next_field : Field
  next_field = field_of at 4 (nat_le (get_or before i 0) (short_at c at))

  -- it comes first
  first_field : KeptUpTo c (version_fields c before start) ((next_field ∷ []) ++ version_fields c (drop (i + 1) before) (at + 4))
  first_field = grind (arith, drop_more)

  -- one version more is kept
  pub version_more : All (Keeps c) (next_field ∷ [])
      → KeptUpTo c (version_fields c before start) (version_fields c (drop (i + 1) before) (at + 4))
  version_more kept = kept_more c _ (next_field ∷ []) _ first_field kept

  -- the next version breaks the rule
  pub version_breaks : (a : ℕ) (byte : Option ℕ) → BreaksFirst c (next_field ∷ []) a byte
      → BreaksFirst c (version_fields c before start) a byte
  version_breaks a byte breaks =
      breaks_after c _ _ a byte first_field (breaks_within c (next_field ∷ []) _ a byte breaks)
