-- How far a reader of records is in its text, how the places of names are kept, and the rows that a text begins with.
-- For private functions: no public call cites it.
use Rattle.std.specs.Prelude.{◌≡◌, ℕ, ◌+◌, ◌<◌, All, Bool, ◌&&◌, true, false, List, [], ◌∷◌, ◌++◌, Some, get_or, length, map, nat_le, Result, Ok}
use Rattle.std.specs.BTreeMap.{BTreeMap, get_by}
use Rattle.std.specs.Cmp.Lexicographic.{slice_cmp}
use Rattle.std.specs.Ordering.{nat_cmp}
use denote.Ref.{Bor}
use Rattle.csv.specs.Reading.{Ready, default_config, is_bom, is_flexible, reader_config, reader_state, reader_trim, records_from, source_of}
use Rattle.csv.specs.declared.parser.State.{State}
use Rattle.csv.specs.declared.parser.State.TheVariants as st
use Rattle.csv.specs.declared.reader.Reader.{Reader}
use Rattle.csv.specs.declared.reader.Trim.TheVariants as trim
use Rattle.trend_num.specs.{Reason, IsName}
use Rattle.value_rows.specs.Raw.{first_place_of}
use Rattle.value_rows.specs.Reading.{text_records_of}

-- the states between two records
abbrev pub is_between : State → Bool
is_between st.StartRecord = true
is_between st.AfterCr = true
is_between other = false

-- the records of the rest of a text, for a reader in this state
abbrev pub records_left : State → List ℕ → List (List (List ℕ))
records_left s bytes = records_from default_config (length bytes + 1) s bytes

-- the reader reads the records of a text, each of any length, and has these left
pub record HasLeft (r : Reader (Bor (List ℕ))) (left : List (List (List ℕ))) : Type 0 where
  pub config : reader_config r ≡ default_config
  pub flexible : is_flexible r ≡ true
  pub untrimmed : reader_trim r ≡ trim.None
  pub ready : Ready r
  pub between : is_between (reader_state r) ≡ true
  pub bytes : List ℕ
  pub source : source_of (λ s. Some s.now) r ≡ Some bytes
  pub records : left ≡ records_left (reader_state r) bytes

-- a read of the reader's next record: there was one with these fields, and the others are left; or there was none
abbrev pub IsNext : Reader (Bor (List ℕ)) → List (List ℕ) → List (List (List ℕ)) → Bool → Type 0
IsNext r fields left true = (rest : List (List (List ℕ))) × (left ≡ fields ∷ rest) × HasLeft r rest
IsNext r fields left false = left ≡ []

-- the map has the place of each name, and nothing else
abbrev pub ArePlaces : BTreeMap (Bor (List ℕ)) ℕ → List (List ℕ) → Type 0
ArePlaces m names = (name : List ℕ) → get_by (λ k. slice_cmp nat_cmp name k.now) m ≡ first_place_of names name

-- if this is a place among the names, it is the first place of the name there
abbrev pub IsHint : List (List ℕ) → ℕ → Type 0
IsHint names i = i < length names → first_place_of names (get_or names i []) ≡ Some i

-- the map has the place of each name, each slot has the place of a name or none, and the names are names
pub record HasPlaces (m : BTreeMap (Bor (List ℕ)) ℕ) (slots : List ℕ) (names : List (List ℕ)) : Type 0 where
  pub places : ArePlaces m names
  pub count : length slots ≡ 16384
  pub hints : All (IsHint names) slots
  pub named : All IsName names

-- how records are read
abbrev pub ReadsRecords : Type 0 → Type 0
ReadsRecords R = List (List ℕ) → Result R Reason

-- rows that were read, and after them what the records of a text read as
abbrev pub reads_behind : {R : Type 0} → ReadsRecords R → List R → List ℕ → List (Result R Reason)
reads_behind row_of rows bytes = map (λ r. Ok r) rows ++ map row_of (text_records_of bytes)

-- whether a text begins with a byte order mark
abbrev pub has_mark : List ℕ → Bool
has_mark text = nat_le 3 (length text) && is_bom (get_or text 0 0) (get_or text 1 0) (get_or text 2 0)

-- the first record of the text reads as this row, and the others are those of the text after it
pub record IsFirstRow {R : Type 0} (row_of : ReadsRecords R) (text after : List ℕ) (row : R) : Type 0 where
  pub fields : List (List ℕ)
  pub first : records_left st.StartRecord text ≡ fields ∷ records_left st.StartRecord after
  pub reads : row_of fields ≡ Ok row

-- the first records of the text read as these rows, and the others are those of the text after them
abbrev pub AreFirstRows : {R : Type 0} → ReadsRecords R → List ℕ → List ℕ → List R → Type 0
AreFirstRows row_of text after rows =
    map row_of (records_left st.StartRecord text) ≡ map (λ r. Ok r) rows ++ map row_of (records_left st.StartRecord after)
