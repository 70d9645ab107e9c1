-- The bytes of numbers, values and points, the most significant first.
use Rattle.std.specs.Prelude.{ℕ, ℤ, List, ◌++◌, replicate, take, drop, Option, None, Some}
use Rattle.std.specs.Int.{w64, bytes_high_first, from_be_bytes, cast_unsigned, cast_signed}
use Rattle.trend_num.specs.{Point}

-- a number in k bytes
abbrev pub number_bytes : ℕ → ℕ → List ℕ
number_bytes k n = bytes_high_first k n

-- a value, in two's complement
abbrev pub value_bytes : ℤ → List ℕ
value_bytes v = number_bytes 8 (cast_unsigned w64 v)

-- a point: its time, then its value
abbrev pub point_bytes : Point → List ℕ
point_bytes p = number_bytes 8 p.t ++ value_bytes p.v

-- a point, or zeros if it is absent
abbrev pub place_bytes : Option Point → List ℕ
place_bytes None = replicate 16 0
place_bytes (Some p) = point_bytes p

-- the point in the first 16 bytes
abbrev pub point_at : List ℕ → Point
point_at bytes = record {
  t = from_be_bytes w64 (take 8 bytes);
  v =
      cast_signed w64 (from_be_bytes w64 (take 8 (drop 8 bytes)));
}
