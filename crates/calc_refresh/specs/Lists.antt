-- Lists of lists, as the code keeps them.
use Rattle.std.specs.Prelude.{ℕ, ◌+◌, List, [], ◌∷◌, length, map, Vec}
use Rattle.std.specs.declared.alloc.Global.{Global}

-- these vectors as lists
abbrev pub lists_of : {A : Type 0} → List (Vec A Global) → List (List A)
lists_of vs = map (λ v. v.items) vs

-- how many elements these lists have together
abbrev pub total_length : {A : Type 0} → List (List A) → ℕ
total_length [] = 0
total_length (xs ∷ xss) = length xs + total_length xss
