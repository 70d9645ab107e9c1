-- The poster and the lookers of a new board of one tag.
use Rattle.std.proofs.Common.{◌≡◌, ℕ, List, [], ◌∷◌, ◌++◌, length, replicate, refl, subst, sym, arith}
use Rattle.std.specs.Prelude.{All}
use Rattle.std.proofs.lemmas.List.{length-replicate}
use Rattle.std.proofs.lemmas.List.Elements.{All-replicate}
use Rattle.atomic_table.specs.Seated.{TableId}
use Rattle.snapshot_table.specs.{nothing, Looking, LooksAt, Posting, PostsTo, new_looker, new_posters}

-- it posts to that tag
pub lone_posts : (board : List TableId) (rest : List Posting) (p : Posting) → length board ≡ 1
    → new_posters 0 board ≡ rest ++ p ∷ [] → PostsTo board p
lone_posts [] rest p one same = grind arith
lone_posts (c ∷ []) [] p one same = grind arith
lone_posts (c ∷ []) (x ∷ []) p one same = grind arith
lone_posts (c ∷ []) (x ∷ y ∷ rest) p one same = grind arith
lone_posts (c ∷ d ∷ board) rest p one same = grind arith

-- and has posted nothing
pub lone_is_new : (board : List TableId) (rest : List Posting) (p : Posting) → length board ≡ 1
    → new_posters 0 board ≡ rest ++ p ∷ [] → p.last ≡ nothing
lone_is_new [] rest p one same = grind arith
lone_is_new (c ∷ []) [] p one same = grind arith
lone_is_new (c ∷ []) (x ∷ []) p one same = grind arith
lone_is_new (c ∷ []) (x ∷ y ∷ rest) p one same = grind arith
lone_is_new (c ∷ d ∷ board) rest p one same = grind arith

-- the lookers of a new board look at it
pub all_look : (board : List TableId) (n : ℕ) (lookers : List Looking) → lookers ≡ replicate n (new_looker board)
    → All (LooksAt board) lookers
all_look board n lookers are =
    let looks : LooksAt board (new_looker board) = record { cells = refl; seen = length-replicate (length board) nothing } in
    subst (All (LooksAt board)) (sym are) (All-replicate (LooksAt board) n (new_looker board) looks)
