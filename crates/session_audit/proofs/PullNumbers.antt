-- Lists of numbers that are compared from the front.
use Rattle.std.proofs.Common.{◌≡◌, ◌≢◌, ℕ, zero, suc, ◌+◌, ◌<◌, ◌≤◌, inl, inr, List, [], ◌∷◌, ◌++◌, length, take, drop, Option, None, Some, refl, sym, ap, ◌∙◌, arith, append-nil}
use Rattle.std.specs.Prelude.{slice_get}
use Rattle.std.proofs.lemmas.List.{length-take, take_all, take_more, take-append-drop}
use Rattle.std.proofs.lemmas.Option.{get_or_from_slice_get, none-some, slice_get_cases, slice_get_past, slice_get_within}
use Rattle.session_audit.specs.{AreApart, seen_of}

-- different numbers are shown differently
pub seen_apart : (a b : Option ℕ) → a ≢ b → seen_of a ≢ seen_of b
seen_apart None None differ same = differ refl
seen_apart None (Some m) differ same = cc
seen_apart (Some n) None differ same = cc
seen_apart (Some n) (Some m) differ same =
    let number : n ≡ m = cc in
    differ (ap Some number)

-- two lists differ first at a place up to which they are the same
pub apart_at : (place : ℕ) (found known : List ℕ) (a b : Option ℕ) → take place found ≡ take place known
    → a ≡ slice_get found place → b ≡ slice_get known place → a ≢ b → AreApart place found known (seen_of a) (seen_of b)
apart_at place found known a b before kept told differ = record {
  before = before;
  kept_is = ap seen_of kept;
  told_is = ap seen_of told;
  differ = seen_apart a b differ;
}

-- the same up to a place and at it
pub take_same_more : {A : Type 0} (place : ℕ) (found known : List A) → take place found ≡ take place known
    → slice_get found place ≡ slice_get known place → take (place + 1) found ≡ take (place + 1) known
take_same_more place found known before here = elim (slice_get_cases found place).1 [
  | inl (x, below, there, got) ↦
      let known_there : slice_get known place ≡ Some x = sym here ∙ there in
      let within = slice_get_within known place x known_there in
      take_more found place x below
      ∙ (ap (λ y. take place found ++ y ∷ []) got
      ∙ (ap (λ l. l ++ x ∷ []) before
      ∙ (ap (λ y. take place known ++ y ∷ []) (sym (get_or_from_slice_get known place x x known_there))
      ∙ sym (take_more known place x within))))
  | inr (past, none) ↦
      let known_past = past_none known place (sym here ∙ none) in
      take_all (place + 1) found (omega (arith, past))
      ∙ (sym (take_all place found past) ∙ (before ∙ (take_all place known known_past
      ∙ sym (take_all (place + 1) known (omega (arith, known_past))))))
]
  where
    past_none : {A : Type 0} (l : List A) (i : ℕ) → slice_get l i ≡ None → length l ≤ i
    past_none l i none = elim (slice_get_cases l i).1 [
      | inl (x, below, there, got) ↦ absurd (none-some x (sym none ∙ there))
      | inr (past, is) ↦ past
    ]

-- the same beyond the end of one of them
pub take_same_all : {A : Type 0} (n : ℕ) (found known : List A) → length known < n → take n found ≡ take n known
    → found ≡ known
take_same_all n found known end same =
    let whole = take_all n known (omega (arith, end)) in
    let size = ap length (same ∙ whole) in
    let few : length found ≤ n = omega (arith, size, length-take n found, end) in
    sym (take_all n found few) ∙ (same ∙ whole)

-- ---- lists of which the rest is known

pub first_some : {A : Type 0} (l : List A) (n : ℕ) (x : A) (rest : List A) → drop n l ≡ x ∷ rest → slice_get l n ≡ Some x
first_some [] zero x rest is = absurd (cc)
first_some [] (suc n) x rest is = absurd (cc)
first_some (y ∷ l) zero x rest is = cc
first_some (y ∷ l) (suc n) x rest is = first_some l n x rest is

pub first_none : {A : Type 0} (l : List A) (n : ℕ) → drop n l ≡ [] → slice_get l n ≡ None
first_none [] n is = slice_get_past [] n (omega arith)
first_none (y ∷ l) zero is = absurd (cc)
first_none (y ∷ l) (suc n) is = first_none l n is

-- after the first of the rest
pub rest_more : {A : Type 0} (l : List A) (n : ℕ) (x : A) (rest : List A) → drop n l ≡ x ∷ rest → drop (n + 1) l ≡ rest
rest_more [] zero x rest is = absurd (cc)
rest_more [] (suc n) x rest is = absurd (cc)
rest_more (y ∷ l) zero x rest is = cc
rest_more (y ∷ l) (suc n) x rest is =
    let number : suc n + 1 ≡ suc (n + 1) = omega arith in
    ap (λ m. drop m (y ∷ l)) number ∙ rest_more l n x rest is

-- where nothing is left, the list was gone over
pub rest_none : {A : Type 0} (l : List A) (n : ℕ) → drop n l ≡ [] → take n l ≡ l
rest_none l n is =
    sym (append-nil (take n l)) ∙ (ap (λ r. take n l ++ r) (sym is) ∙ take-append-drop n l)
