-- The numbers among the words of a command line.
use Rattle.std.specs.Prelude.{ℕ, List, Option, None, Some, nat_eq, option_and_then, if◌then◌else◌}
use Rattle.trend_num.specs.{numeral, natural_upto}

-- the number that a numeral spells, if it is from 0 up to `most`
abbrev pub number_upto : ℕ → List ℕ → Option ℕ
number_upto most word = option_and_then (natural_upto most) (numeral word)

-- the same from 1 on
abbrev pub count_upto : ℕ → List ℕ → Option ℕ
count_upto most word = option_and_then (λ n. if nat_eq n 0 then None else Some n) (number_upto most word)
