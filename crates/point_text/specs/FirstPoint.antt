-- The first line of a text of which more may come.
use Rattle.std.specs.Prelude.{◌≡◌, ℕ, ◌+◌, ◌-◌, ◌<◌, ◌≤◌, ◌⊎◌, List, ◌∷◌, ◌++◌, All, true, false, length, get_or, take, drop, map, nat_eq, Result}
use Rattle.std.specs.Char.{is_ascii_digit}
use Rattle.std.specs.List.{list_all}
use Rattle.std.specs.Str.Lines.{lines, strip_carriage_return}
use Rattle.trend_num.specs.{digits_value, Point, Reason}
use Rattle.point_text.specs.Row.{point_of_line}

-- there is no line feed in these bytes
abbrev pub HasNoFeed : List ℕ → Type 0
HasNoFeed bytes = All (λ b. nat_eq b 10 ≡ false) bytes

-- the text begins with a line that reads so, then its line feed and the rest
pub record IsFirstPoint (text after : List ℕ) (read : Result Point Reason) : Type 0 where
  pub line : List ℕ
  pub cut : text ≡ line ++ 10 ∷ after
  pub one : HasNoFeed line
  pub reads : read ≡ point_of_line (strip_carriage_return line)

-- what the lines of a text read as
abbrev pub reads_of : List ℕ → List (Result Point Reason)
reads_of text = map point_of_line (lines text)

-- two texts read the same, whatever follows them
pub record ReadSame (a b : List ℕ) : Type 0 where
  pub same : (more : List ℕ) → reads_of (a ++ more) ≡ reads_of (b ++ more)

-- at `end` begins what ends a line: a line feed, or a carriage return and a line feed; at `feed` is the line feed
pub record EndsAt (text : List ℕ) (end feed : ℕ) : Type 0 where
  pub is : ((get_or text end 0 ≡ 10) × (feed ≡ end)) ⊎ ((get_or text end 0 ≡ 13) × (feed ≡ end + 1))
  pub fed : get_or text feed 0 ≡ 10
  pub within : feed < length text

-- from one index to another there are digits, which spell n; after them comes this byte
pub record IsField (text : List ℕ) (at end byte n : ℕ) : Type 0 where
  pub some : at < end
  pub few : end ≤ at + 16
  pub within : end < length text
  pub digits : list_all is_ascii_digit (take (end - at) (drop at text)) ≡ true
  pub value : n ≡ digits_value (take (end - at) (drop at text))
  pub after : get_or text end 0 ≡ byte
