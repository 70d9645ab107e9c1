-- The lines in which records and a held point are printed.
use Rattle.std.specs.Prelude.{ℕ, List, [], ◌++◌, Option, None, Some, codes}
use Rattle.std.specs.Fmt.{decimal, signed_decimal}
use Rattle.std.specs.List.{flat_map}
use Rattle.trend_num.specs.{Point, Rec, Kind}
use Rattle.trend_num.specs.declared.archive.Kind.TheVariants.{Kept, Late}

-- `T,V` and a line feed
abbrev pub point_line : Point → List ℕ
point_line p = decimal p.t ++ codes "," ++ signed_decimal p.v ++ codes "\n"

abbrev pub kind_word : Kind → List ℕ
kind_word Kept = codes "kept,"
kind_word Late = codes "late,"

-- `kept,T,V` or `late,T,V`
abbrev pub record_line : Rec → List ℕ
record_line r = kind_word r.kind ++ point_line r.point

-- `held,T,V`, if a point is held
abbrev pub held_line : Option Point → List ℕ
held_line None = []
held_line (Some q) = codes "held," ++ point_line q

-- the lines of the records in order, then that of the held point
abbrev pub archive_text : List Rec → Option Point → List ℕ
archive_text rs q = flat_map record_line rs ++ held_line q
