-- Lists whose elements are related place by place.
use Rattle.std.proofs.Common.{◌≡◌, ℕ, ◌+◌, ◌<◌, inl, inr, List, [], ◌∷◌, ◌++◌, length, take, get_or, set, refl, sym, ap, subst, ◌∙◌, arith}
use Rattle.std.specs.List.{AllZip}
use Rattle.std.proofs.lemmas.Bool.{cases_eq}
use Rattle.std.proofs.lemmas.List.{get_or-set_same, get_or-set_other, get_or_default, length-set, take_more}
use Rattle.session_audit.specs.{AreEach}

pub each_refl : {C : Type 0} (R : C → C → Type 0) → ((c : C) → R c c) → (all : List C) → AreEach R all all
each_refl R same all = record { as_many = refl; each = λ i d. same (get_or all i d) }

pub each_trans : {C : Type 0} (R : C → C → Type 0) → ((a b c : C) → R a b → R b c → R a c) → (a b c : List C)
    → AreEach R a b → AreEach R b c → AreEach R a c
each_trans R joined a b c first second = record {
  as_many = second.as_many ∙ first.as_many;
  each = λ i d. joined (get_or a i d) (get_or b i d) (get_or c i d) (first.each i d) (second.each i d);
}

-- one of them went on
pub each_set : {C : Type 0} (R : C → C → Type 0) → ((a b c : C) → R a b → R b c → R a c) → (first now : List C) (at : ℕ) (c d : C)
    → at < length now → R (get_or now at d) c → AreEach R first now → AreEach R first (set now at c)
each_set R joined first now at c d within step before = record {
  as_many = length-set now at c ∙ before.as_many;
  each = λ i e. elim (cases_eq i at) [
    | inl same ↦ subst (λ n. R (get_or first n e) (get_or (set now at c) n e)) (sym same)
        (subst (λ x. R (get_or first at e) x) (sym (get_or-set_same now at c e within))
        (joined (get_or first at e) (get_or now at e) c (before.each at e)
        (subst (λ x. R x c) (get_or_default now at d e within) step)))
    | inr differ ↦ subst (λ x. R (get_or first i e) x) (sym (get_or-set_other now at i c e differ)) (before.each i e)
  ];
}

-- the elements in the same places of two lists are related up to a place, and so are those in that one
pub paired_next : {C K : Type 0} (R : C → K → Type 0) (xs : List C) (ks : List K) (at : ℕ) (x : C) (k : K) → at < length xs
    → length ks ≡ length xs → x ≡ get_or xs at x → k ≡ get_or ks at k
    → ((i : ℕ) (d : C) (e : K) → i < at → R (get_or xs i d) (get_or ks i e)) → R x k
    → (i : ℕ) (d : C) (e : K) → i < at + 1 → R (get_or xs i d) (get_or ks i e)
paired_next R xs ks at x k within as_many is copy_is before here i d e below = elim (cases_eq i at) [
  | inl same ↦ subst (λ n. R (get_or xs n d) (get_or ks n e)) (sym same)
      (subst (λ y. R y (get_or ks at e)) (is ∙ get_or_default xs at x d within)
      (subst (R x) (copy_is ∙ get_or_default ks at k e (omega (arith, within, as_many))) here))
  | inr differ ↦ before i d e (omega (arith, below, differ))
]

-- ---- two lists that are related place by place

-- one more at the end
zip_push : {A B : Type 0} (R : A → B → Type 0) (xs : List A) (ys : List B) (x : A) (y : B) → AllZip R xs ys → R x y
    → AllZip R (xs ++ x ∷ []) (ys ++ y ∷ [])
zip_push R [] [] x y zip is = (is, tt)
zip_push R [] (b ∷ ys) x y zip is = absurd zip
zip_push R (a ∷ xs) [] x y zip is = absurd zip
zip_push R (a ∷ xs) (b ∷ ys) x y zip is = (zip.0, zip_push R xs ys x y zip.1 is)

-- the first elements of a list, and the next one too
pub zip_more : {A B : Type 0} (R : A → B → Type 0) (xs : List A) (ys : List B) (i : ℕ) (x : A) (y : B) → i < length xs
    → x ≡ get_or xs i x → AllZip R (take i xs) ys → R x y → AllZip R (take (i + 1) xs) (ys ++ y ∷ [])
zip_more R xs ys i x y below at zip is =
    subst (λ l. AllZip R l (ys ++ y ∷ [])) (sym (take_more xs i x below ∙ ap (λ e. take i xs ++ e ∷ []) (sym at)))
    (zip_push R (take i xs) ys x y zip is)
