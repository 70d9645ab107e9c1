-- Limits: how many of each there may be. The code names the same numbers; clauses cite these.
use Rattle.std.specs.Prelude.{ℕ}

-- records of one tag
abbrev pub most_records : ℕ
most_records = 1048576

-- points of an answer that lists points
abbrev pub most_listed : ℕ
most_listed = 256

-- records of all tags that are opened together
abbrev pub most_stored : ℕ
most_stored = 8388608
