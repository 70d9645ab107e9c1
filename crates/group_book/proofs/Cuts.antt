-- Versions that never fall, and copies cut to them.
use Rattle.std.proofs.Common.{◌≡◌, ℕ, zero, suc, ◌+◌, ◌<◌, ◌≤◌, List, [], ◌∷◌, ◌++◌, length, map, get_or, take, refl, sym, ap, ◌∙◌, subst, arith, length-append}
use Rattle.std.proofs.lemmas.List.{take-append-le, take_all}
use Rattle.trend_num.specs.{Rec}
use Rattle.sheet_law.specs.{longer}
use Rattle.group_book.specs.{cut, NeverFall}

pub never_refl : (vs : List ℕ) → NeverFall vs vs
never_refl vs = record { inputs = refl; rises = λ i low. omega arith }

pub never_trans : (a b c : List ℕ) → NeverFall a b → NeverFall b c → NeverFall a c
never_trans a b c ab bc = grind arith

-- after the first one
pub tail_rises : (v u : ℕ) (vs us : List ℕ) → NeverFall (v ∷ vs) (u ∷ us) → NeverFall vs us
tail_rises v u vs us never = record {
  inputs = let same = never.inputs in omega arith;
  rises = λ i low. never.rises (suc i) (omega arith);
}

-- more records
pub longer_rises : (rss mores : List (List Rec)) → NeverFall (map length rss) (map length (longer rss mores))
longer_rises [] mores = never_refl []
longer_rises (rs ∷ rss) [] = never_refl (map length (rs ∷ rss))
longer_rises (rs ∷ rss) (more ∷ mores) =
    let rest = longer_rises rss mores in
    record {
      inputs = let same = rest.inputs in ap suc same;
      rises = λ i low. rising rest i low;
    }
  where
    rising : NeverFall (map length rss) (map length (longer rss mores)) → (i : ℕ) → i < length (map length (rs ∷ rss))
        → get_or (map length (rs ∷ rss)) i 0 ≤ get_or (map length ((rs ++ more) ∷ longer rss mores)) i 0
    rising rest zero low = omega (arith, length-append rs more)
    rising rest (suc i) low = rest.rises i (omega arith)

-- copies that grew are cut to the same
pub cut-longer : (vs : List ℕ) (rss mores : List (List Rec)) → NeverFall vs (map length rss) → cut vs (longer rss mores) ≡ cut vs rss
cut-longer [] rss mores never = refl
cut-longer (v ∷ vs) [] mores never = refl
cut-longer (v ∷ vs) (rs ∷ rss) [] never = refl
cut-longer (v ∷ vs) (rs ∷ rss) (more ∷ mores) never =
    let low : v ≤ length rs = never.rises 0 (omega arith) in
    λ i. take-append-le v rs more low i ∷ cut-longer vs rss mores (tail_rises v (length rs) vs (map length rss) never) i

-- copies are cut to all they have
pub cut-all : (rss : List (List Rec)) → cut (map length rss) rss ≡ rss
cut-all [] = refl
cut-all (rs ∷ rss) = λ i. take_all (length rs) rs (omega arith) i ∷ cut-all rss i

-- one input more, of parts of lists that are made of each list by its version
pub part_more : (part : List ℕ → List (List Rec) → List (List Rec)) (of : ℕ → List Rec → List Rec) → part [] [] ≡ []
    → ((v : ℕ) (vs : List ℕ) (rs : List Rec) (rss : List (List Rec)) → part (v ∷ vs) (rs ∷ rss) ≡ of v rs ∷ part vs rss)
    → (vs : List ℕ) (rss : List (List Rec)) (i : ℕ) → length rss ≡ length vs → i < length vs
    → part (take (i + 1) vs) (take (i + 1) rss) ≡ part (take i vs) (take i rss) ++ of (get_or vs i 0) (get_or rss i []) ∷ []
part_more part of none more [] rss i same below = absurd (omega (arith, below))
part_more part of none more (v ∷ vs) [] i same below = absurd (omega (arith, same))
part_more part of none more (v ∷ vs) (rs ∷ rss) zero same below =
    more v [] rs [] ∙ ap (λ l. of v rs ∷ l) none ∙ sym (ap (λ l. l ++ of v rs ∷ []) none)
part_more part of none more (v ∷ vs) (rs ∷ rss) (suc i) same below =
    let next : suc (i + 1) ≡ suc i + 1 = omega arith in
    let last = of (get_or vs i 0) (get_or rss i []) in
    subst (λ n. part (take n (v ∷ vs)) (take n (rs ∷ rss)) ≡ part (v ∷ take i vs) (rs ∷ take i rss) ++ last ∷ []) next
    (more v (take (i + 1) vs) rs (take (i + 1) rss)
    ∙ ap (λ l. of v rs ∷ l) (part_more part of none more vs rss i (omega (arith, same)) (omega (arith, below)))
    ∙ sym (ap (λ l. l ++ last ∷ []) (more v (take i vs) rs (take i rss))))
