-- The bytes of records.
use Rattle.std.specs.Prelude.{ℕ, List, ◌∷◌, flat_map}
use Rattle.trend_num.specs.{Kind, Rec}
use Rattle.trend_num.specs.declared.archive.Kind.TheVariants.{Kept, Late}
use Rattle.archive_file.specs.Fields.{point_bytes}

-- the letter K or L
abbrev pub kind_byte : Kind → ℕ
kind_byte Kept = 75
kind_byte Late = 76

-- a record: its kind, then its point
abbrev pub rec_image : Rec → List ℕ
rec_image r = kind_byte r.kind ∷ point_bytes r.point

-- records, one after the other
abbrev pub recs_image : List Rec → List ℕ
recs_image rs = flat_map rec_image rs
