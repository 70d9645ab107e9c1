-- Places of names in a map: each name more is put where it is not there.
use Rattle.std.proofs.Common.{All, IfSome, ◌≡◌, ℕ, ◌+◌, ◌<◌, ◌≤◌, Bool, true, false, cond, List, [], ◌∷◌, ◌++◌, Option, Some, None, length, take, get_or, refl, sym, ap, ◌∙◌, add-zero, arith, subst, Bor}
use Rattle.std.proofs.lemmas.List.{take_more, length-take-le}
use Rattle.std.proofs.lemmas.Iterator.Adapters.{position_from-zero}
use Rattle.std.proofs.lemmas.List.Elements.{All-get_or}
use Rattle.std.proofs.lemmas.List.Quantifiers.{position-Some}
use Rattle.std.proofs.lemmas.Map.Text.{btree_map_updates_str}
use Rattle.std.proofs.lemmas.Slice.Eq.{bytes_eq-Decides}
use Rattle.std.specs.BTreeMap.{BTreeMap, UpdatesBy, get_by}
use Rattle.std.specs.Cmp.Lexicographic.{slice_cmp}
use Rattle.std.specs.List.{position, position_from}
use Rattle.std.specs.Option.{is_some, option_or}
use Rattle.std.specs.Ordering.{nat_cmp}
use Rattle.std.specs.Str.{bytes_eq}
use Rattle.value_rows.specs.{first_place_of, ArePlaces, IsHint}
use Rattle.trend_num.specs.{IsName}

-- the place of the first that passes, where there is one element more
position_from-push : {X : Type 0} (test : X → Bool) (i : ℕ) (xs : List X) (x : X)
    → position_from test i (xs ++ x ∷ []) ≡ option_or (position_from test i xs) (cond (test x) (Some (i + length xs)) None)
position_from-push test i [] x = ap (λ k. cond (test x) (Some k) None) (sym (add-zero i))
position_from-push test i (y ∷ ys) x =
    elim (test y) as (λ b. cond b (Some i) (position_from test (i + 1) (ys ++ x ∷ []))
    ≡ option_or (cond b (Some i) (position_from test (i + 1) ys)) (cond (test x) (Some (i + length (y ∷ ys))) None)) [
      | true ↦ refl
      | false ↦
          let far : i + 1 + length ys ≡ i + length (y ∷ ys) = omega arith in
          position_from-push test (i + 1) ys x ∙ ap (λ k. option_or (position_from test (i + 1) ys) (cond (test x) (Some k) None)) far
    ]

-- the place of a name among the first ones and one more
place_more : (names : List (List ℕ)) (i : ℕ) (name q : List ℕ) → i < length names → get_or names i name ≡ name
    → first_place_of (take (i + 1) names) q ≡ option_or (first_place_of (take i names) q) (cond (bytes_eq q name) (Some i) None)
place_more names i name q below here =
    let test : List ℕ → Bool = bytes_eq q in
    let first = take i names in
    let count : length first ≡ i = length-take-le i names (omega arith) in
    ap (λ l. position test l) (take_more names i name below ∙ ap (λ x. first ++ x ∷ []) here)
    ∙ position_from-zero test (first ++ name ∷ []) ∙ position_from-push test 0 first name
    ∙ ap (λ o. option_or o (cond (test name) (Some (0 + length first)) None)) (sym (position_from-zero test first))
    ∙ ap (λ k. option_or (position test first) (cond (test name) (Some k) None)) (omega (arith, count))

-- an alternative that is none changes nothing
option_or-None : {X : Type 0} (o : Option X) → option_or o None ≡ o
option_or-None None = refl
option_or-None (Some x) = refl

-- a name that is there already changes no place
pub there_already : (m : BTreeMap (Bor (List ℕ)) ℕ) (names : List (List ℕ)) (i : ℕ) (name : List ℕ) → i < length names → get_or names i name ≡ name
    → ArePlaces m (take i names) → is_some (get_by (λ k. slice_cmp nat_cmp name k.now) m) ≡ true → ArePlaces m (take (i + 1) names)
there_already m names i name below here are there q =
    are q ∙ sym (place_more names i name q below here ∙ same (bytes_eq q name) refl)
  where
    kept : (o : Option ℕ) (p : Option ℕ) → is_some o ≡ true → option_or o p ≡ o
    kept None p none = absurd (cc)
    kept (Some k) p some = refl

    same : (b : Bool) → bytes_eq q name ≡ b → option_or (first_place_of (take i names) q) (cond b (Some i) None) ≡ first_place_of (take i names) q
    same true agrees =
        let one : q ≡ name = (bytes_eq-Decides q name).0 agrees in
        let some : is_some (first_place_of (take i names) q) ≡ true = ap is_some (ap (first_place_of (take i names)) one ∙ sym (are name)) ∙ there in
        kept (first_place_of (take i names) q) (Some i) some
    same false differs = option_or-None (first_place_of (take i names) q)

-- a name that is not there is put
pub put_next : (m n : BTreeMap (Bor (List ℕ)) ℕ) (names : List (List ℕ)) (i : ℕ) (name : List ℕ) → i < length names → get_or names i name ≡ name
    → ArePlaces m (take i names) → is_some (get_by (λ k. slice_cmp nat_cmp name k.now) m) ≡ false
    → UpdatesBy (λ x y. slice_cmp nat_cmp x.now y.now) (λ k. slice_cmp nat_cmp name k.now) m n (Some i) → ArePlaces n (take (i + 1) names)
put_next m n names i name below here are gone updates q =
    btree_map_updates_str name m n (Some i) updates q ∙ sym (place_more names i name q below here ∙ same (bytes_eq q name) (bytes_eq name q) refl refl)
  where
    other : (o : Option ℕ) (p : Option ℕ) → is_some o ≡ false → option_or o p ≡ p
    other None p none = refl
    other (Some k) p some = absurd (cc)

    same : (b d : Bool) → bytes_eq q name ≡ b → bytes_eq name q ≡ d
        → option_or (first_place_of (take i names) q) (cond b (Some i) None) ≡ cond d (Some i) (get_by (λ k. slice_cmp nat_cmp q k.now) m)
    same true true agrees back =
        let one : q ≡ name = (bytes_eq-Decides q name).0 agrees in
        let none : is_some (first_place_of (take i names) q) ≡ false = ap is_some (ap (first_place_of (take i names)) one ∙ sym (are name)) ∙ gone in
        other (first_place_of (take i names) q) (Some i) none
    same true false agrees back =
        let one : q ≡ name = (bytes_eq-Decides q name).0 agrees in
        let again : bytes_eq name q ≡ true = (bytes_eq-Decides name q).1 (sym one) in
        absurd (cc)
    same false true differs back =
        let one : name ≡ q = (bytes_eq-Decides name q).0 back in
        let again : bytes_eq q name ≡ true = (bytes_eq-Decides q name).1 (sym one) in
        absurd (cc)
    same false false differs back = option_or-None (first_place_of (take i names) q) ∙ sym (are q)

-- a place is one of the names'
pub place_within : (names : List (List ℕ)) (name : List ℕ) (o : Option ℕ) → o ≡ first_place_of names name → IfSome o (λ i. i < length names)
place_within names name None is = tt
place_within names name (Some i) is = (position-Some (bytes_eq name) names i [] (sym is)).0

-- and what is there is the name
place_holds : (names : List (List ℕ)) (name : List ℕ) (i : ℕ) → first_place_of names name ≡ Some i → (i < length names) × (name ≡ get_or names i [])
place_holds names name i is = grind (arith, position-Some, bytes_eq-Decides)

-- a name that has a place is a name
pub place_named : (names : List (List ℕ)) (name : List ℕ) (o : Option ℕ) → All IsName names → o ≡ first_place_of names name
    → IfSome o (λ _. IsName name)
place_named names name None named is = tt
place_named names name (Some i) named is =
    let (below, same) = place_holds names name i (sym is) in
    subst IsName (sym same) (All-get_or IsName names i [] below named)

-- the place of a name is a hint
pub place_hint : (names : List (List ℕ)) (name : List ℕ) (i : ℕ) → first_place_of names name ≡ Some i → IsHint names i
place_hint names name i is below =
    let (within, same) = place_holds names name i is in
    ap (first_place_of names) (sym same) ∙ is

-- no name has the greatest place
pub no_hint : (names : List (List ℕ)) (i : ℕ) → length names ≤ i → IsHint names i
no_hint names i past below = absurd (omega arith)

-- a hint at which the name is found is its place
pub hint_holds : (names : List (List ℕ)) (slots : List ℕ) (slot i : ℕ) (name : List ℕ)
    → All (IsHint names) slots → slot < length slots → i ≡ get_or slots slot i → i < length names → name ≡ get_or names i [] → Some i ≡ first_place_of names name
hint_holds names slots slot i name hints within here below same =
    let hint : IsHint names i = subst (IsHint names) (sym here) (All-get_or (IsHint names) slots slot i within hints) in
    sym (ap (first_place_of names) same ∙ hint below)
