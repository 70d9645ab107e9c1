-- The values of calculations, a list that grows by an element at a time, each made of those before it.
use Rattle.std.proofs.Common.{◌≡◌, ℕ, zero, suc, ◌+◌, ◌<◌, List, [], ◌∷◌, ◌++◌, Some, length, map, take, get_or, refl, sym, ◌∙◌, ap, subst, append_assoc, length-append, arith}
use Rattle.std.specs.Prelude.{fold, slice_get}
use Rattle.std.specs.Option.{option_map}
use Rattle.std.proofs.lemmas.List.{append-nil, length-map, take_more}
use Rattle.std.proofs.lemmas.Option.{slice_get-map, slice_get-get_or, slice_get_within, get_or_from_slice_get}
use Rattle.std.proofs.Math.Seq.{take-append_seam}
use Rattle.trend_num.specs.{Point, CalcValue}
use Rattle.calc_parser.specs.Tree.{tree_of}
use Rattle.calc_check.specs.{CalcDef}
use Rattle.calc_check.specs.Group.{Calculation, Group, calculation, group_of}
use Rattle.sheet_law.specs.{scope, value, values}

-- a list with elements added, each made of those before it and of one of xs
abbrev pub grown : {A B : Type 0} → (List B → A → B) → List B → List A → List B
grown f vs xs = fold (λ l x. l ++ f l x ∷ []) vs xs

-- what there was stays in front
pub grows : {A B : Type 0} (f : List B → A → B) (vs : List B) (xs : List A)
    → (more : List B) × (grown f vs xs ≡ vs ++ more)
grows f vs [] = ([], sym (append-nil vs))
grows f vs (x ∷ xs) =
    let after = grows f (vs ++ f vs x ∷ []) xs in
    (f vs x ∷ after.0, after.1 ∙ append_assoc vs (f vs x ∷ []) after.0)

-- the first element of what follows
seam : {B : Type 0} (vs more : List B) (v : B) → slice_get (vs ++ v ∷ more) (length vs) ≡ Some v
seam [] more v = refl
seam (w ∷ vs) more v = seam vs more v

-- the element at a place is made of those before it
pub grown_at : {A B : Type 0} (f : List B → A → B) (vs : List B) (xs : List A) (i n : ℕ) (x : A)
    → n ≡ length vs + i → slice_get xs i ≡ Some x
    → slice_get (grown f vs xs) n ≡ Some (f (take n (grown f vs xs)) x)
grown_at f vs [] i n x place there = absurd (cc)
grown_at f vs (y ∷ xs) zero n x place there =
    let after = grows f (vs ++ f vs y ∷ []) xs in
    let whole = after.1 ∙ append_assoc vs (f vs y ∷ []) after.0 in
    let end : n ≡ length vs = omega arith in
    let same : y ≡ x = cc in
    rw (whole, end, take-append_seam vs (f vs y ∷ after.0), ← same) (seam vs after.0 (f vs y))
grown_at f vs (y ∷ xs) (suc i) n x place there =
    grown_at f (vs ++ f vs y ∷ []) xs i n x (omega (arith, length-append vs (f vs y ∷ []))) there

-- with the element at the next place, one more of the first ones is known
pub take_next : {A : Type 0} (xs : List A) (i : ℕ) (x : A)
    → slice_get xs i ≡ Some x → take (i + 1) xs ≡ take i xs ++ x ∷ []
take_next xs i x there =
    take_more xs i x (slice_get_within xs i x there)
    ∙ ap (λ y. take i xs ++ y ∷ []) (get_or_from_slice_get xs i x x there)

-- there are as many definitions as calculations
pub within_defs : (ds : List CalcDef) (cs : List Calculation) (i : ℕ)
    → map calculation ds ≡ cs → i < length cs → i < length ds
within_defs ds cs i same within = omega (arith, ap length same, length-map ds calculation)

-- the value of one calculation by the values before it is the value of the group at its place
pub eval_value : (g : Group) (points : List (List Point)) (from to : ℕ) (inputs : List (List ℕ))
    (ds : List CalcDef) (lower : List CalcValue) (i : ℕ) (d : CalcDef) (v : CalcValue)
    → inputs ≡ g.inputs → map calculation ds ≡ g.calcs → i < length ds → get_or ds i d ≡ d
    → lower ≡ take i (values g points from to)
    → v ≡ value (scope (group_of inputs ds) points lower) from to (tree_of d.expr)
    → slice_get (values g points from to) i ≡ Some v
eval_value g points from to inputs ds lower i d v same_inputs same_calcs within there before is =
    let own = group_of inputs ds in
    let one : own ≡ g = λ k. record { inputs = same_inputs k; calcs = same_calcs k } in
    let at : slice_get (map calculation ds) i ≡ Some (calculation d) =
    slice_get-map calculation ds i
    ∙ ap (option_map calculation) (slice_get-get_or ds i d within ∙ ap Some there) in
    let P : Group → Type 0 = λ h.
    lower ≡ take i (values h points from to) → slice_get (values h points from to) i ≡ Some v in
    let of_own : P own = λ lower_is.
    grown_at (λ l c. value (scope own points l) from to c.tree) [] (map calculation ds) i i (calculation d)
    (omega arith) at
    ∙ ap Some (ap (λ l. value (scope own points l) from to (tree_of d.expr)) (sym lower_is) ∙ sym is) in
    subst P one of_own before
