-- Lists that are gone through, and lists that are related place by place.
use Rattle.std.proofs.Common.{◌≡◌, ℕ, ◌+◌, ◌<◌, List, [], ◌∷◌, ◌++◌, length, map, take, drop, get_or, Option, None, Some, refl, sym, ◌∙◌, ap, subst, arith}
use Rattle.std.specs.Prelude.{All}
use Rattle.std.specs.List.{AllZip, sum_by}
use Rattle.std.specs.Option.{IsSome}
use Rattle.std.proofs.lemmas.List.{drop_more, length-drop, take_more, get_or_append_left, get_or_push, length_push}
use Rattle.std.proofs.lemmas.List.Elements.{All-nil, All-cons}
use Rattle.std.proofs.lemmas.List.Sums.{sum_by-cons}

-- what is something is not nothing
pub no_some : {A : Type 0} (r : Option A) → IsSome r → r ≡ None → ⊥
no_some None some is = absurd (cc (some))
no_some (Some x) some is = absurd (cc (is))

-- an element is the next one of a list from a place on
pub record IsNext {A : Type 0} (xs : List A) (i : ℕ) (x : A) (rest : List A) : Type 0 where
  pub there : i < length xs
  pub is : x ≡ get_or xs i x
  pub front : take (i + 1) xs ≡ take i xs ++ x ∷ []
  pub rest_is : rest ≡ drop (i + 1) xs

pub next_of : {A : Type 0} (xs : List A) (i : ℕ) (x : A) (rest : List A) → drop i xs ≡ x ∷ rest → IsNext xs i x rest
next_of xs i x rest left =
    let there : i < length xs = omega (arith, ap length left, length-drop i xs) in
    let both : get_or xs i x ∷ drop (i + 1) xs ≡ x ∷ rest = sym (drop_more xs i x there) ∙ left in
    let is : get_or xs i x ≡ x = cc in
    record {
      there = there;
      is = sym is;
      front = take_more xs i x there ∙ ap (λ y. take i xs ++ y ∷ []) is;
      rest_is = cc;
    }

-- what holds of each element of a list with one more holds of those before
pub all_before : {A : Type 0} (P : A → Type 0) (xs : List A) (x : A) → All P (xs ++ x ∷ []) → All P xs
all_before P xs x all k d below = subst P (get_or_append_left xs (x ∷ []) d k below)
    (all k d (omega (arith, below, length_push xs x)))

-- and of that one
pub all_last : {A : Type 0} (P : A → Type 0) (xs : List A) (x : A) → All P (xs ++ x ∷ []) → P x
all_last P xs x all = subst P (get_or_push xs x x (length xs) refl) (all (length xs) x (omega (arith, length_push xs x)))

-- ---- two lists

-- what is related to each element of what a list is seen as is related to the list's own
pub zip_seen : {A B C : Type 0} (R : B → C → Type 0) (f : A → B) (xs : List A) (ys : List C) → AllZip R (map f xs) ys
    → AllZip (λ x y. R (f x) y) xs ys
zip_seen R f [] [] all = tt
zip_seen R f [] (y ∷ ys) all = absurd all
zip_seen R f (x ∷ xs) [] all = absurd all
zip_seen R f (x ∷ xs) (y ∷ ys) all = (all.0, zip_seen R f xs ys all.1)

-- and what each is seen as is related where the elements are
pub zip_as : {A B C : Type 0} (Q : A → B → Type 0) (R : A → C → Type 0) (g : B → C) → ((x : A) (y : B) → Q x y → R x (g y))
    → (xs : List A) (ys : List B) → AllZip Q xs ys → AllZip R xs (map g ys)
zip_as Q R g follows [] [] all = tt
zip_as Q R g follows [] (y ∷ ys) all = absurd all
zip_as Q R g follows (x ∷ xs) [] all = absurd all
zip_as Q R g follows (x ∷ xs) (y ∷ ys) all = (follows x y all.0, zip_as Q R g follows xs ys all.1)

-- what follows from the relation of a pair holds of each element of the second list
pub zip_each : {A B : Type 0} (Q : A → B → Type 0) (P : B → Type 0) → ((x : A) (y : B) → Q x y → P y) → (xs : List A)
    (ys : List B) → AllZip Q xs ys → All P ys
zip_each Q P follows [] [] all = All-nil P
zip_each Q P follows [] (y ∷ ys) all = absurd all
zip_each Q P follows (x ∷ xs) [] all = absurd all
zip_each Q P follows (x ∷ xs) (y ∷ ys) all = All-cons P y ys (follows x y all.0) (zip_each Q P follows xs ys all.1)

-- and where two relations of the pairs give it, of each element of the first
pub zip_both : {A B : Type 0} (Q R : A → B → Type 0) (P : A → Type 0) → ((x : A) (y : B) → Q x y → R x y → P x) → (xs : List A)
    (ys : List B) → AllZip Q xs ys → AllZip R xs ys → All P xs
zip_both Q R P follows [] [] all both = All-nil P
zip_both Q R P follows [] (y ∷ ys) all both = absurd all
zip_both Q R P follows (x ∷ xs) [] all both = absurd all
zip_both Q R P follows (x ∷ xs) (y ∷ ys) all both =
    All-cons P x xs (follows x y all.0 both.0) (zip_both Q R P follows xs ys all.1 both.1)

-- two relations of the elements give a third one
pub zip_follows : {A B : Type 0} (Q R P : A → B → Type 0) → ((x : A) (y : B) → Q x y → R x y → P x y) → (xs : List A)
    (ys : List B) → AllZip Q xs ys → AllZip R xs ys → AllZip P xs ys
zip_follows Q R P follows [] [] all both = tt
zip_follows Q R P follows [] (y ∷ ys) all both = absurd all
zip_follows Q R P follows (x ∷ xs) [] all both = absurd all
zip_follows Q R P follows (x ∷ xs) (y ∷ ys) all both = (follows x y all.0 both.0, zip_follows Q R P follows xs ys all.1 both.1)

-- two relations give a third one where the first list of the one is the second of the other
pub zip_joined : {A B C : Type 0} (Q : A → B → Type 0) (R : B → C → Type 0) (P : A → C → Type 0)
    → ((x : A) (y : B) (z : C) → Q x y → R y z → P x z) → (xs : List A) (ys : List B) (zs : List C) → AllZip Q xs ys
    → AllZip R ys zs → AllZip P xs zs
zip_joined Q R P follows [] [] [] first second = tt
zip_joined Q R P follows [] [] (z ∷ zs) first second = absurd second
zip_joined Q R P follows [] (y ∷ ys) zs first second = absurd first
zip_joined Q R P follows (x ∷ xs) [] zs first second = absurd first
zip_joined Q R P follows (x ∷ xs) (y ∷ ys) [] first second = absurd second
zip_joined Q R P follows (x ∷ xs) (y ∷ ys) (z ∷ zs) first second =
    (follows x y z first.0 second.0, zip_joined Q R P follows xs ys zs first.1 second.1)

-- the sum over what the elements are seen as
pub sum_by_seen : {A B : Type 0} (f : B → ℕ) (g : A → B) (xs : List A) → sum_by f (map g xs) ≡ sum_by (λ x. f (g x)) xs
sum_by_seen f g [] = refl
sum_by_seen f g (x ∷ xs) = sum_by-cons f (g x) (map g xs)
    ∙ (ap (λ n. f (g x) + n) (sum_by_seen f g xs) ∙ sym (sum_by-cons (λ y. f (g y)) x xs))
