-- Texts that are cut where a record is wider than any row. For private functions: no public call cites it.
use Rattle.std.specs.Prelude.{◌≡◌, ◌<◌, ◌≤◌, ◌⊎◌, ℕ, ◌+◌, ◌==◌, ◌||◌, if◌then◌else◌, List, ◌∷◌, ◌++◌, Err, length}
use Rattle.trend_num.specs.declared.refusal.Reason.TheVariants.{Fields}
use Rattle.value_rows.specs.declared.narrow.FieldPart.{FieldPart}
use Rattle.value_rows.specs.declared.narrow.FieldPart.TheVariants.{Begin, Unquoted, Quoted, BehindQuote}
use Rattle.value_rows.specs.RowReader.{ReadsRecords}

-- ---- a scan, one byte after the other

-- outside quotes a comma ends a field, and a line end ends a record
abbrev pub unquoted_after : ℕ → FieldPart
unquoted_after c = if (c == 44) || ((c == 13) || (c == 10)) then Begin else Unquoted

-- where in a field a scan is, after one more byte
abbrev pub part_after : FieldPart → ℕ → FieldPart
part_after Begin c = if c == 34 then Quoted else unquoted_after c
part_after Unquoted c = unquoted_after c
part_after Quoted c = if c == 34 then BehindQuote else Quoted
part_after BehindQuote c = if c == 34 then Quoted else unquoted_after c

-- the same, after a byte that is no quote, no comma and no line end
abbrev pub part_after_other : FieldPart → FieldPart
part_after_other Quoted = Quoted
part_after_other other = Unquoted

-- how many fields of the record at hand have ended, after one more byte
abbrev pub ended_after : FieldPart → ℕ → ℕ → ℕ
ended_after Quoted ended c = ended
ended_after other ended c = if c == 44 then ended + 1 else if (c == 13) || (c == 10) then 0 else ended

-- ---- records of the whole text, and of what it was cut to

-- the record has more fields than any row
abbrev pub IsWide : List (List ℕ) → Type 0
IsWide fields = 4 < length fields

-- the record has one field more than the longest row, or fewer
abbrev pub IsNarrow : List (List ℕ) → Type 0
IsNarrow fields = length fields ≤ 5

-- a record with more fields than any row is refused for their number
abbrev pub RefusesWide : {R : Type 0} → ReadsRecords R → Type 0
RefusesWide row_of = (a b c d e : List ℕ) (more : List (List ℕ)) → row_of (a ∷ b ∷ c ∷ d ∷ e ∷ more) ≡ Err Fields

-- the same records come first in both lists, and then in each one that is wider than any row
pub record PartAtWide (whole cut : List (List (List ℕ))) : Type 0 where
  pub before : List (List (List ℕ))
  pub whole_wide : List (List ℕ)
  pub whole_after : List (List (List ℕ))
  pub cut_wide : List (List ℕ)
  pub cut_after : List (List (List ℕ))
  pub whole_is : whole ≡ before ++ whole_wide ∷ whole_after
  pub cut_is : cut ≡ before ++ cut_wide ∷ cut_after
  pub whole_is_wide : IsWide whole_wide
  pub cut_is_wide : IsWide cut_wide

-- the records are the same, or the same up to one that is wider than any row
abbrev pub AgreeUpToWide : List (List (List ℕ)) → List (List (List ℕ)) → Type 0
AgreeUpToWide whole cut = (whole ≡ cut) ⊎ PartAtWide whole cut
