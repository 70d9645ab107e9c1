-- Bytes added at an end, piece by piece.
use Rattle.std.proofs.Common.{arith, ◌≡◌, ℕ, ◌+◌, ◌<◌, List, [], ◌∷◌, ◌++◌, length, get_or, take, flat_map, sym, ◌∙◌, ap, append_assoc}
use Rattle.std.proofs.lemmas.List.{take_more, flat_map_more}

-- two pieces, one after the other
pub joined : {X : Type 0} (old mid new a b : List X) → mid ≡ old ++ a → new ≡ mid ++ b → new ≡ old ++ (a ++ b)
joined old mid new a b first second = second ∙ ap (λ l. l ++ b) first ∙ append_assoc old a b

-- five pieces
pub joined_5 : {X : Type 0} (o p q r s t a b c d e : List X) → p ≡ o ++ a → q ≡ p ++ b → r ≡ q ++ c → s ≡ r
    ++ d → t ≡ s ++ e
    → t ≡ o ++ (a ++ (b ++ (c ++ (d ++ e))))
joined_5 o p q r s t a b c d e h1 h2 h3 h4 h5 = grind (arith, joined)

-- the images of a list and one element more
pub images_push : {X : Type 0} (image : X → List ℕ) (xs : List X) (x : X)
    → flat_map image (xs ++ x ∷ []) ≡ flat_map image xs ++ image x
images_push image xs x = sym (flat_map_more image [] xs x)

-- those of the first i + 1 elements
pub images_more : {X : Type 0} (image : X → List ℕ) (xs : List X) (i : ℕ) (x : X) → i < length xs
    → x ≡ get_or xs i x → flat_map image (take (i + 1) xs) ≡ flat_map image (take i xs) ++ image x
images_more image xs i x there is =
    ap (flat_map image) (take_more xs i x there ∙ ap (λ y. take i xs ++ y ∷ []) (sym is))
    ∙ images_push image (take i xs) x
