-- Elements by their places, one more at the end.
use Rattle.std.proofs.Common.{◌≡◌, ℕ, ◌+◌, ◌<◌, List, [], ◌∷◌, ◌++◌, length, take, get_or, sym, ap, ◌∙◌, arith, append-nil, append_assoc, Some, refl, suc, zero}
use Rattle.std.specs.List.{concat, slice_get}
use Rattle.std.specs.Option.{option_map}
use Rattle.std.proofs.lemmas.List.{length-take-le, take_more}
use Rattle.std.proofs.lemmas.List.Folds.{concat-append}
use Rattle.session_report.specs.{placed_answers, texts}

-- what is made of one element more
pub placed_push : {A B : Type 0} (f : ℕ → A → B) (n : ℕ) (xs : List A) (x : A)
    → placed_answers f n (xs ++ x ∷ []) ≡ placed_answers f n xs ++ f (n + length xs) x ∷ []
placed_push f n [] x = let number : n ≡ n + 0 = omega arith in ap (λ k. f k x ∷ []) number
placed_push f n (y ∷ xs) x =
    let number : n + 1 + length xs ≡ n + length (y ∷ xs) = omega arith in
    ap (λ l. f n y ∷ l) (placed_push f (n + 1) xs x ∙ ap (λ k. placed_answers f (n + 1) xs ++ f k x ∷ []) number)

-- of those up to one, and that one
pub placed_more : {A B : Type 0} (f : ℕ → A → B) (xs : List A) (i : ℕ) (x : A) → i < length xs
    → placed_answers f 0 (take (i + 1) xs) ≡ placed_answers f 0 (take i xs) ++ f i (get_or xs i x) ∷ []
placed_more f xs i x within =
    let last = get_or xs i x in
    let number : 0 + length (take i xs) ≡ i = omega (arith, within, length-take-le i xs (omega (arith, within))) in
    ap (placed_answers f 0) (take_more xs i x within) ∙ placed_push f 0 (take i xs) last
    ∙ ap (λ k. placed_answers f 0 (take i xs) ++ f k last ∷ []) number

-- the texts of those up to one, and that of that one
pub texts_more : {A : Type 0} (f : ℕ → A → List ℕ) (xs : List A) (i : ℕ) (x : A) → i < length xs
    → texts f (take (i + 1) xs) ≡ texts f (take i xs) ++ f i (get_or xs i x)
texts_more f xs i x within =
    let last = f i (get_or xs i x) in
    ap concat (placed_more f xs i x within) ∙ concat-append (placed_answers f 0 (take i xs)) (last ∷ [])
    ∙ ap (λ l. texts f (take i xs) ++ l) (append-nil last)

-- a text that had those of the elements up to one, and gained that of that one
pub text_more : {A : Type 0} (f : ℕ → A → List ℕ) (xs : List A) (i : ℕ) (x : A) (start old new : List ℕ) → i < length xs
    → x ≡ get_or xs i x → old ≡ start ++ texts f (take i xs) → new ≡ old ++ f i x → new ≡ start ++ texts f (take (i + 1) xs)
text_more f xs i x start old new within is before gained =
    gained ∙ ap (λ t. t ++ f i x) before ∙ append_assoc start (texts f (take i xs)) (f i x)
    ∙ ap (λ t. start ++ t) (ap (λ y. texts f (take i xs) ++ f i y) is ∙ sym (texts_more f xs i x within))

-- what is made of the element at a place
pub placed_get : {A B : Type 0} (f : ℕ → A → B) (n : ℕ) (xs : List A) (i : ℕ)
    → slice_get (placed_answers f n xs) i ≡ option_map (f (n + i)) (slice_get xs i)
placed_get f n [] i = refl
placed_get f n (x ∷ xs) zero = ap (λ k. Some (f k x)) (omega arith)
placed_get f n (x ∷ xs) (suc i) =
    let number : n + 1 + i ≡ n + suc i = omega arith in
    placed_get f (n + 1) xs i ∙ ap (λ k. option_map (f k) (slice_get xs i)) number
