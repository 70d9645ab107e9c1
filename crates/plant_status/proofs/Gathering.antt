-- The passes of workers are given back, and their notes kept.
use Rattle.std.proofs.Common.{◌≡◌, ℕ, suc, List, [], ◌∷◌, ◌++◌, length, map, fold, refl, sym, ◌∙◌, ap, subst, arith, append_assoc, take, drop}
use Rattle.std.specs.Prelude.{All}
use Rattle.std.proofs.lemmas.Grind.{common_steps}
use Rattle.plant_status.specs.{sum_from, sum_of_fault_counts}

-- what holds of all holds of the first
pub all_first : {A : Type 0} (P : A → Type 0) (all : List A) (x : A) (xs : List A) → all ≡ x ∷ xs → All P all → P x
all_first P all x xs is holds = let each : All P (x ∷ xs) = subst (All P) is holds in each 0 x (omega arith)

-- and of the rest
pub all_rest : {A : Type 0} (P : A → Type 0) (all : List A) (x : A) (xs : List A) → all ≡ x ∷ xs → All P all → All P xs
all_rest P all x xs is holds =
    let each : All P (x ∷ xs) = subst (All P) is holds in λ k d few. each (suc k) d (omega arith)

-- one more is moved from the rest to the notes
pub one_moved : {A B : Type 0} (f : A → B) (notes : List B) (all xs : List A) (x : A) (whole : List B)
    → notes ++ map f all ≡ whole → all ≡ x ∷ xs → (notes ++ f x ∷ []) ++ map f xs ≡ whole
one_moved f notes all xs x whole was is = append_assoc notes (f x ∷ []) (map f xs) ∙ (sym (ap (λ l. notes ++ map f l) is) ∙ was)

-- a list of which all was written
pub whole_again : {A : Type 0} (n : ℕ) (xs ys : List A) → length ys ≡ length xs → n ≡ length xs
    → take n (ys ++ drop (length ys) xs) ≡ ys
whole_again n xs ys same count = grind (arith, common_steps)

-- the passes have counted the stops that the notes record, if each note records those of its pass
pub stops_told : {S N : Type 0} (counted : S → ℕ) (note : S → N) (told : N → ℕ) (workers : List S) (before : ℕ)
    → All (λ s. counted s ≡ told (note s)) workers
    → sum_from before (map counted workers) ≡ fold (λ count n. sum_of_fault_counts count (told n)) before (map note workers)
stops_told counted note told [] before are = refl
stops_told counted note told (s ∷ workers) before are =
    let first : counted s ≡ told (note s) = are 0 s (omega arith) in
    let rest = all_rest (λ s. counted s ≡ told (note s)) (s ∷ workers) s workers refl are in
    ap (λ n. sum_from (sum_of_fault_counts before n) (map counted workers)) first
    ∙ stops_told counted note told workers (sum_of_fault_counts before (told (note s))) rest
