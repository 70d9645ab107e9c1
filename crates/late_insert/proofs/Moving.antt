-- Pages that are moved on.
use Rattle.std.proofs.Common.{◌≡◌, ℕ, List, ◌++◌, length, map, take, drop, ap, arith, length-append}
use Rattle.std.proofs.lemmas.List.{length-map, take-append-drop}
use Rattle.late_insert.specs.{Page, moved}

-- they are as many as before
pub length-moved : (by k : ℕ) (pages : List Page)
    → length (take k pages ++ map (moved by) (drop k pages)) ≡ length pages
length-moved by k pages =
    omega (
      arith,
      length-append (take k pages) (map (moved by) (drop k pages)),
      length-map (drop k pages) (moved by),
      length-append (take k pages) (drop k pages),
      ap length (take-append-drop k pages),
    )
