-- Columns of rows: what each row has at one place.
use Rattle.std.proofs.Common.{◌≡◌, ◌≢◌, ℕ, zero, suc, ◌+◌, ◌<◌, ◌≤◌, List, [], ◌∷◌, ◌++◌, Some, length, get_or, map, take, set, fold, All, refl, sym, ap, ◌∙◌, arith}
use Rattle.std.specs.Prelude.{slice_get, Vec, vec_len}
use Rattle.std.specs.declared.alloc.Global.{Global}
use Rattle.std.proofs.Math.Seq.{map-set_same}
use Rattle.std.proofs.lemmas.List.{get_or-map, length_push, length-map, map-set, map_push, take_all, take_more, take_more_set}
use Rattle.std.proofs.lemmas.Option.{slice_get_within, get_or_from_slice_get}
use Rattle.trend_num.specs.{Point, CalcValue}
use Rattle.calc_check.specs.Group.{Calculation, Group}
use Rattle.sheet_law.specs.{scope, value, values, column}
use Rattle.calc_refresh.specs.{lists_of}

-- what is at a place that was written, and at another one
pub get-set_same : {A : Type 0} → (xs : List A) (i : ℕ) (x : A) → i < length xs → slice_get (set xs i x) i ≡ Some x
get-set_same [] i x within = absurd (omega arith)
get-set_same (y ∷ xs) zero x within = refl
get-set_same (y ∷ xs) (suc i) x within = get-set_same xs i x (omega arith)

pub get-set_other : {A : Type 0} → (xs : List A) (i j : ℕ) (x : A) → j ≢ i
    → slice_get (set xs i x) j ≡ slice_get xs j
get-set_other [] i j x other = refl
get-set_other (y ∷ xs) zero zero x other = absurd (other refl)
get-set_other (y ∷ xs) zero (suc j) x other = refl
get-set_other (y ∷ xs) (suc i) zero x other = refl
get-set_other (y ∷ xs) (suc i) (suc j) x other = get-set_other xs i j x (λ same. other (ap suc same))

-- what is in a list that was made longer
pub get-longer : {A : Type 0} → (xs ys : List A) (n k : ℕ) → k < length xs → k < n
    → slice_get (take n xs ++ ys) k ≡ slice_get xs k
get-longer [] ys n k within below = absurd (omega arith)
get-longer (x ∷ xs) ys zero k within below = absurd (omega arith)
get-longer (x ∷ xs) ys (suc n) zero within below = refl
get-longer (x ∷ xs) ys (suc n) (suc k) within below = get-longer xs ys n k (omega arith) (omega arith)

-- a column of rows of which one is another
pub column-set : (rows : List (Vec CalcValue Global)) (i k : ℕ) (row : Vec CalcValue Global)
    → column k (lists_of (set rows i row)) ≡ set (column k (lists_of rows)) i (slice_get row.items k)
column-set rows i k row = grind (arith, map-set)

-- it stays where the row has at this place what the old one had
pub column_kept : (rows : List (Vec CalcValue Global)) (i k : ℕ) (row d : Vec CalcValue Global)
    → slice_get row.items k ≡ slice_get (get_or rows i d).items k
    → column k (lists_of (set rows i row)) ≡ column k (lists_of rows)
column_kept rows i k row d same = flat (set rows i row) ∙ (map-set_same (λ v. slice_get v.items k) rows i row d same ∙ sym (flat rows))
  where
    flat : (vs : List (Vec CalcValue Global)) → column k (lists_of vs) ≡ map (λ v. slice_get v.items k) vs
    flat [] = refl
    flat (v ∷ vs) = ap (λ l. slice_get v.items k ∷ l) (flat vs)

pub length-column : (rows : List (Vec CalcValue Global)) (k : ℕ) → length (column k (lists_of rows)) ≡ length rows
length-column rows k = grind (arith, length-map)

-- the first places of a column, with one row more
pub column_more : (rows : List (Vec CalcValue Global)) (i k : ℕ) (row : Vec CalcValue Global) (v : CalcValue)
    (vals : List CalcValue) → i < length rows → slice_get row.items k ≡ Some v → slice_get vals i ≡ Some v
    → take i (column k (lists_of rows)) ≡ map Some (take i vals)
    → take (i + 1) (column k (lists_of (set rows i row))) ≡ map Some (take (i + 1) vals)
column_more rows i k row v vals within there value before =
    ap (take (i + 1)) (column-set rows i k row)
    ∙ (grind (arith, take_more_set, length-column, map_push, next))
  where
    next : take (i + 1) vals ≡ take i vals ++ v ∷ []
    next =
        take_more vals i v (slice_get_within vals i v value)
        ∙ ap (λ x. take i vals ++ x ∷ []) (get_or_from_slice_get vals i v v value)

-- ---- values

-- there is a value for each calculation
pub length-values : (g : Group) (points : List (List Point)) (from to : ℕ)
    → length (values g points from to) ≡ length g.calcs
length-values g points from to = (let all = go [] g.calcs in omega arith)
  where
    go : (vs : List CalcValue) (cs : List Calculation)
        → length (fold (λ l c. l ++ value (scope g points l) from to c.tree ∷ []) vs cs) ≡ length vs + length cs
    go vs [] = omega arith
    go vs (c ∷ cs) =
        let v = value (scope g points vs) from to c.tree in
        let rest = go (vs ++ v ∷ []) cs in
        omega (arith, length_push vs v)

-- a column that is filled as far as there are rows
pub column_full : (rows : List (Vec CalcValue Global)) (i k : ℕ) (vals : List CalcValue) → length rows ≤ i
    → length vals ≡ length rows → take i (column k (lists_of rows)) ≡ map Some (take i vals)
    → column k (lists_of rows) ≡ map Some vals
column_full rows i k vals within as_many filled = grind (arith, take_all, length-column)

-- rows with the same lengths have it at each place
pub lengths_at : (rows olds : List (Vec CalcValue Global)) (i : ℕ) (v : Vec CalcValue Global) → i < length rows
    → i < length olds → map (λ row. vec_len row) rows ≡ map (λ row. vec_len row) olds
    → vec_len (get_or rows i v) ≡ vec_len (get_or olds i v)
lengths_at rows olds i v within inside same =
    sym (get_or-map (λ row. vec_len row) rows i v 0 within)
    ∙ (ap (λ l. get_or l i 0) same ∙ get_or-map (λ row. vec_len row) olds i v 0 inside)

pub lengths_all : (rows olds : List (Vec CalcValue Global)) (n : ℕ) → length rows ≡ length olds
    → map (λ row. vec_len row) rows ≡ map (λ row. vec_len row) olds → All (λ row. vec_len row ≡ n) olds
    → All (λ row. vec_len row ≡ n) rows
lengths_all rows olds n many same each = λ k d within.
    lengths_at rows olds k d within (omega arith) same ∙ each k d (omega arith)
