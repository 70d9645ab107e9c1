-- Marks that are counted.
use Rattle.std.proofs.Common.{◌≡◌, ◌↔◌, ℕ, zero, suc, ◌+◌, ◌<◌, ◌≤◌, inl, inr, Bool, true, false, cond, List, [], ◌∷◌, ◌++◌, length, get_or, Some, refl, sym, ap, subst, ◌∙◌, arith}
use Rattle.std.specs.Prelude.{slice_get}
use Rattle.std.specs.List.{count_by}
use Rattle.std.proofs.lemmas.Bool.{cases_eq}
use Rattle.std.proofs.lemmas.List.{get_or_append_left, get_or_push, length_push, same_lists}
use Rattle.std.proofs.lemmas.List.Sums.{count_by-le-length, sum_by-cons}
use Rattle.std.proofs.lemmas.Option.{get_or_from_slice_get, slice_get-get_or}
use Rattle.calc_refresh.specs.{GroupDefParts}
use Rattle.session_audit.specs.{KeptGroup}
use Rattle.session_audit.specs.BookOpenings.{AgreeIn, ArePartsOf, IsDefinedSo}

-- how many there are with one more in front
count_front : (m : Bool) (marks : List Bool) → ◌≡◌ {A = ℕ} (count_by (λ m. m) (m ∷ marks)) (cond m 1 0 + count_by (λ m. m) marks)
count_front m marks = sum_by-cons (λ (m : Bool). cond m 1 0) m marks

-- where all are true, each is
pub all_true : (marks : List Bool) → length marks ≤ count_by (λ m. m) marks → (i : ℕ) → i < length marks
    → slice_get marks i ≡ Some true
all_true [] full i within = absurd (omega (arith, within))
all_true (true ∷ marks) full zero within = refl
all_true (true ∷ marks) full (suc i) within =
    all_true marks (omega (arith, full, count_front true marks)) i (omega (arith, within))
all_true (false ∷ marks) full i within =
    absurd (omega (arith, full, count_front false marks, count_by-le-length (λ m. m) marks))

-- where all parts of a definition are marked, it is the one that was kept
pub parts_all : (group : ℕ) (def : GroupDefParts) (text : List ℕ) (k : KeptGroup) (marks : List Bool)
    → ArePartsOf group def text k marks → 6 ≤ count_by (λ m. m) marks → IsDefinedSo group def text k
parts_all group def text k marks parts full = record {
  group_is = parts.same_group.0 (marked 0 (omega arith));
  def_is = same_def def k.def (parts.inputs.0 (marked 1 (omega arith))) (parts.start.0 (marked 2 (omega arith)))
      (parts.period.0 (marked 3 (omega arith))) (parts.calcs.0 (marked 4 (omega arith)));
  text_is = parts.same_text.0 (marked 5 (omega arith));
}
  where
    marked : (i : ℕ) → i < 6 → slice_get marks i ≡ Some true
    marked i below = all_true marks (omega (arith, full, parts.six)) i (omega (arith, below, parts.six))

    same_def : (a d : GroupDefParts) → a.inputs ≡ d.inputs → a.start ≡ d.start → a.period ≡ d.period → a.calcs ≡ d.calcs → a ≡ d
    same_def a d inputs start period calcs = λ i. record {
      inputs = inputs i;
      start = start i;
      period = period i;
      calcs = calcs i;
    }

-- ---- lists that are compared place by place

pub agree_more : {A : Type 0} (place n : ℕ) (found known : List A) (same : Bool)
    → (same ≡ true) ↔ (slice_get found place ≡ slice_get known place) → AgreeIn place found known n
    → AgreeIn (place + 1) found known (n + cond same 1 0)
agree_more place n found known same is before = record {
  marks = before.marks ++ same ∷ [];
  as_many = length_push before.marks same ∙ ap (λ m. m + 1) before.as_many;
  each = λ i below. elim (cases_eq i place) [
    | inl at ↦ subst (λ j. (slice_get (before.marks ++ same ∷ []) j ≡ Some true) ↔ (slice_get found j ≡ slice_get known j)) (sym at)
        (subst (λ o. (o ≡ Some true) ↔ (slice_get found place ≡ slice_get known place)) (sym here)
        ((λ marked. is.0 (held same marked)), (λ alike. ap Some (is.1 alike))))
    | inr other ↦
        let there : i < length before.marks = omega (arith, below, other, before.as_many) in
        subst (λ o. (o ≡ Some true) ↔ (slice_get found i ≡ slice_get known i)) (sym (left i there))
        (before.each i (omega (arith, below, other)))
  ];
  count = ap (λ m. m + cond same 1 0) before.count ∙ sym (count_back before.marks same);
}
  where
    held : (m : Bool) → Some m ≡ Some true → m ≡ true
    held m e = cc

    here : slice_get (before.marks ++ same ∷ []) place ≡ Some same
    here = slice_get-get_or (before.marks ++ same ∷ []) place same (omega (arith, length_push before.marks same, before.as_many))
        ∙ ap Some (get_or_push before.marks same same place before.as_many)

    left : (i : ℕ) → i < length before.marks → slice_get (before.marks ++ same ∷ []) i ≡ slice_get before.marks i
    left i there = slice_get-get_or (before.marks ++ same ∷ []) i same (omega (arith, there, length_push before.marks same))
        ∙ (ap Some (get_or_append_left before.marks (same ∷ []) same i there) ∙ sym (slice_get-get_or before.marks i same there))

    count_back : (marks : List Bool) (m : Bool) → ◌≡◌ {A = ℕ} (count_by (λ m. m) (marks ++ m ∷ [])) (count_by (λ m. m) marks + cond m 1 0)
    count_back [] m = (let front = count_front m [] in omega (arith, front))
    count_back (x ∷ marks) m =
        let front = count_front x (marks ++ m ∷ []) in
        let rest = count_back marks m in
        let old = count_front x marks in
        omega (arith, front, rest, old)

-- where all places are marked, the lists are the same
pub agree_all : {A : Type 0} (found known : List A) (n : ℕ) → length found ≡ length known → length known ≤ n
    → AgreeIn (length known) found known n → found ≡ known
agree_all found known n as_many full so =
    same_lists found known as_many (λ k d within.
    (let there : k < length known = omega (arith, within, as_many) in
    let marked = all_true so.marks (omega (arith, full, so.count, so.as_many)) k (omega (arith, there, so.as_many)) in
    let alike = (so.each k there).0 marked in
    get_or_from_slice_get found k (get_or known k d) d (alike ∙ slice_get-get_or known k d there)))
