-- Marks of windows. A mark lies at the place of a window and reaches up to another one.
use Rattle.std.specs.Prelude.{ℕ, ◌+◌, max, Bool, List, [], ◌∷◌, take, nat_lt}

-- the greatest of these numbers, or 0 if there is none
abbrev pub furthest : List ℕ → ℕ
furthest [] = 0
furthest (n ∷ ns) = max n (furthest ns)

-- whether the window k is marked: a mark at its place or before it reaches beyond it
abbrev pub is_marked : List ℕ → ℕ → Bool
is_marked marks k = nat_lt k (furthest (take (k + 1) marks))
