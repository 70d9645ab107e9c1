-- Numbers of openings that are the same.
use Rattle.std.proofs.Common.{◌≡◌, ℕ, List, [], ◌∷◌, ◌++◌, length, length-append, Result, Ok, Err, IfErr, OnOk, Vec, refl, sym, ap, subst, ◌∙◌, arith}
use Rattle.std.specs.declared.alloc.Global.{Global}
use Rattle.std.proofs.lemmas.List.{length-map}
use Rattle.trend_num.specs.{CalcValue}
use Rattle.calc_refresh.specs.{lists_of}
use Rattle.group_book.specs.{GroupOpening, ToldBook}
use Rattle.session_audit.specs.{Difference, KeptGroup}
use Rattle.session_audit.specs.BookOpenings.{DifferSo, IsBookAsKept, IsDefinedSo, IsBookDifference, IsSameOpening, items_of, windows_of}
use Rattle.session_audit.specs.BookOpenings.IsGroupDifference.{OfOpening}

-- the two numbers at the end, and what comes before them
ends_same : (xs ys : List ℕ) (a b c d : ℕ) → xs ++ a ∷ b ∷ [] ≡ ys ++ c ∷ d ∷ [] → (xs ≡ ys) × (b ≡ d)
ends_same [] [] a b c d is = (refl, cc)
ends_same [] (y ∷ ys) a b c d is =
    let size = ap length is in
    absurd (omega (arith, size, length-append ys (c ∷ d ∷ [])))
ends_same (x ∷ xs) [] a b c d is =
    let size = ap length is in
    absurd (omega (arith, size, length-append xs (a ∷ b ∷ [])))
ends_same (x ∷ xs) (y ∷ ys) a b c d is =
    let first : x ≡ y = cc in
    let rest : xs ++ a ∷ b ∷ [] ≡ ys ++ c ∷ d ∷ [] = cc in
    let more = ends_same xs ys a b c d rest in
    ((λ i. first i ∷ more.0 i), more.1)

-- the numbers of an opening, one by one
numbers_same : (o k : GroupOpening) → items_of o ≡ items_of k
    → (o.versions.items ≡ k.versions.items) × (length (lists_of o.rows.items) ≡ length (lists_of k.rows.items))
numbers_same o k is =
    let rest : o.versions.items ++ windows_of (lists_of o.rows.items) ∷ length (lists_of o.rows.items) ∷ []
    ≡ k.versions.items ++ windows_of (lists_of k.rows.items) ∷ length (lists_of k.rows.items) ∷ [] = cc in
    ends_same o.versions.items k.versions.items (windows_of (lists_of o.rows.items)) (length (lists_of o.rows.items))
    (windows_of (lists_of k.rows.items)) (length (lists_of k.rows.items)) rest

-- there are as many rows
pub rows_counted : (o k : GroupOpening) → items_of o ≡ items_of k → length o.rows.items ≡ length k.rows.items
rows_counted o k is =
    sym (length-map o.rows.items (λ (v : Vec CalcValue Global). v.items)) ∙ ((numbers_same o k is).1
    ∙ length-map k.rows.items (λ (v : Vec CalcValue Global). v.items))

-- so where the rows are the same too, the openings are
pub opened_same : {E : Type 0} (o k : GroupOpening) (r : Result (Unit {0}) E) → items_of o ≡ items_of k
    → OnOk r (lists_of o.rows.items ≡ lists_of k.rows.items) → OnOk r (IsSameOpening o k)
opened_same o k (Ok x) is rows = record {
  versions = (numbers_same o k is).0;
  rows = rows;
  moment = cc;
  faults = cc;
}
opened_same o k (Err e) is rows = tt

-- ---- a book of the definition that was kept

pub kept_so : {D E : Type 0} (b : ToldBook D) (k : KeptGroup) (o : GroupOpening) (r : Result (Unit {0}) E) → o ≡ b.opening
    → IsDefinedSo b.group b.def b.text k → OnOk r (IsSameOpening o k.opening) → OnOk r (IsBookAsKept b k)
kept_so b k o (Ok x) is defined same = record {
  defined = defined;
  opened = subst (λ y. IsSameOpening y k.opening) is same;
}
kept_so b k o (Err e) is defined same = tt

pub differs_so : {D T : Type 0} (b : ToldBook D) (k : KeptGroup) (o : GroupOpening) (r : Result T Difference) → o ≡ b.opening
    → IsDefinedSo b.group b.def b.text k → IfErr r (λ d. DifferSo o k.opening d.kept d.told) → IfErr r (λ d. IsBookDifference b k d.kept d.told)
differs_so b k o (Ok x) is defined differs = tt
differs_so b k o (Err d) is defined differs =
    OfOpening defined (subst (λ y. DifferSo y k.opening d.kept d.told) is differs)
