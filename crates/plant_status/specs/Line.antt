-- When bytes are one line, and which bytes a line may have.
use Rattle.std.specs.Prelude.{◌≡◌, ℕ, Bool, true, ◌&&◌, List, ◌++◌, codes, nat_le}
use Rattle.std.specs.List.{list_all}

-- a space, a letter, a digit or a mark
abbrev pub is_printable : ℕ → Bool
is_printable b = nat_le 32 b && nat_le b 126

abbrev pub IsPrintable : List ℕ → Type 0
IsPrintable bytes = list_all is_printable bytes ≡ true

-- printable bytes, and one line feed after them
pub record IsLine (bytes : List ℕ) : Type 0 where
  pub body : List ℕ
  pub printable : IsPrintable body
  pub ended : bytes ≡ body ++ codes "\n"
