-- What is at a place of a board.
use Rattle.std.proofs.Common.{◌≡◌, ℕ, zero, suc, ◌+◌, ◌<◌, List, [], ◌∷◌, ◌++◌, length, map, get_or, refl, sym, ap, ◌∙◌, slice_get, Some, arith, take}
use Rattle.std.proofs.lemmas.List.{take_more}
use Rattle.std.proofs.Math.ListN.{get_or-map}
use Rattle.std.proofs.lemmas.Option.{get_or_from_slice_get, slice_get-get_or, slice_get_within}
use Rattle.atomic_table.specs.Seated.{TableId}
use Rattle.snapshot_table.specs.{Posting, new_poster, new_posters}

-- the model of the element at a place is at the same place in the list of all models
pub seen_at : {A B : Type 0} (f : A → B) (xs : List A) (i : ℕ) (a : A) (b : B) → a ≡ get_or xs i a
    → slice_get (map f xs) i ≡ Some b → f a ≡ b
seen_at f xs i a b is there = ap f is ∙ (sym (get_or-map f xs i a) ∙ get_or_from_slice_get (map f xs) i b (f a) there)

-- the model of the element at a place is in the list of all models, at that place
pub stands_at : {A B : Type 0} (f : A → B) (xs : List A) (bs : List B) (i : ℕ) (a : A) → map f xs ≡ bs → a ≡ get_or xs i a
    → i < length bs → slice_get bs i ≡ Some (f a)
stands_at f xs bs i a all is h = slice_get-get_or bs i (f a) h
    ∙ ap Some (ap (λ l. get_or l i (f a)) (sym all) ∙ (get_or-map f xs i a ∙ ap f (sym is)))

-- the elements up to a place, and the one there
pub take_at : {A : Type 0} (xs : List A) (i : ℕ) (x : A) → slice_get xs i ≡ Some x → take i xs ++ x ∷ [] ≡ take (i + 1) xs
take_at xs i x is = ap (λ y. take i xs ++ y ∷ []) (sym (get_or_from_slice_get xs i x x is)) ∙ sym (take_more xs i x (slice_get_within xs i x is))

-- one more tag has one more poster
pub new_posters-push : (tag : ℕ) (cells : List TableId) (cell : TableId)
    → new_posters tag (cells ++ cell ∷ []) ≡ new_posters tag cells ++ new_poster (tag + length cells) cell ∷ []
new_posters-push tag [] cell = ap (λ (n : ℕ). new_poster n cell ∷ []) (omega arith)
new_posters-push tag (c ∷ cells) cell = ap (λ ps. new_poster tag c ∷ ps) (new_posters-push (suc tag) cells cell
    ∙ ap (λ (n : ℕ). new_posters (suc tag) cells ++ new_poster n cell ∷ []) (omega arith))

-- each tag has a poster
pub length-new_posters : (tag : ℕ) (cells : List TableId) → length (new_posters tag cells) ≡ length cells
length-new_posters tag [] = refl
length-new_posters tag (c ∷ cells) = ap suc (length-new_posters (suc tag) cells)

-- the poster at a place writes the cell there
pub new_posters-at : (tag : ℕ) (cells : List TableId) (i : ℕ) (d : Posting) (c : TableId) → i < length cells
    → get_or (new_posters tag cells) i d ≡ new_poster (tag + i) (get_or cells i c)
new_posters-at tag [] i d c h = absurd (omega arith)
new_posters-at tag (x ∷ cells) zero d c h = ap (λ (n : ℕ). new_poster n x) (omega arith)
new_posters-at tag (x ∷ cells) (suc i) d c h = new_posters-at (suc tag) cells i d c (omega arith)
    ∙ ap (λ (n : ℕ). new_poster n (get_or cells i c)) (omega arith)

-- a poster at its place among the new ones is that of the cell there
pub poster_at : (cells : List TableId) (i : ℕ) (p : Posting) → i < length cells → p ≡ get_or (new_posters 0 cells) i p
    → p ≡ new_poster i (get_or cells i p.cell)
poster_at cells i p h is = is ∙ (new_posters-at 0 cells i p p.cell h ∙ ap (λ (n : ℕ). new_poster n (get_or cells i p.cell)) (omega arith))

-- so it posts to the board
pub posts_at : (cells : List TableId) (i : ℕ) (p : Posting) → i < length cells → p ≡ get_or (new_posters 0 cells) i p
    → slice_get cells i ≡ Some p.cell
posts_at cells i p h is = slice_get-get_or cells i p.cell h ∙ ap (λ (q : Posting). Some q.cell) (sym (poster_at cells i p h is))
