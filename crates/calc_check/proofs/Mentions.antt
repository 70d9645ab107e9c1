-- Names of definitions, and the first one in a tree that stands for nothing.
use Rattle.std.proofs.Common.{◌≡◌, ℕ, ◌+◌, ◌<◌, cond, not, ◌||◌, List, [], ◌∷◌, ◌++◌, Option, None, Some, length, map, take, drop, get_or, nat_lt, add-one, refl, sym, ◌∙◌, ap, ap₂, arith}
use Rattle.std.specs.Prelude.{find, position, slice_get}
use Rattle.std.specs.List.{list_any, prefix_len}
use Rattle.std.specs.Option.{option_map, option_or}
use Rattle.std.specs.Str.{bytes_eq}
use Rattle.std.proofs.lemmas.List.{take_more, map-append, length-map, length-take}
use Rattle.std.proofs.lemmas.Option.{slice_get-map, slice_get-get_or}
use Rattle.std.proofs.lemmas.List.Folds.{find-append}
use Rattle.std.proofs.Math.Seq.{drop-cons}
use Rattle.calc_parser.specs.Tree.{tree_of}
use Rattle.calc_check.specs.{CalcDef}
use Rattle.calc_check.specs.Group.{Mention, calculation, names_of, mentioned, is_known, first_unknown, told, first_fault}

-- a definition of a name is one calculation of that name
pub any_named : (name : List ℕ) (ds : List CalcDef)
    → list_any (λ d. bytes_eq name d.name) ds ≡ list_any (bytes_eq name) (names_of (map calculation ds))
any_named name [] = refl
any_named name (d ∷ ds) = ap (λ b. bytes_eq name d.name || b) (any_named name ds)

-- there are as many definitions as calculations before the first one of a name
before_named : (name : List ℕ) (ds : List CalcDef)
    → prefix_len (λ d. not (bytes_eq name d.name)) ds
    ≡ prefix_len (λ n. not (bytes_eq name n)) (names_of (map calculation ds))
before_named name [] = refl
before_named name (d ∷ ds) = ap (λ k. cond (not (bytes_eq name d.name)) (1 + k) 0) (before_named name ds)

-- there are as many names as definitions
length_named : (ds : List CalcDef) → length (names_of (map calculation ds)) ≡ length ds
length_named ds = length-map (map calculation ds) (λ c. c.name) ∙ length-map ds calculation

-- the definition of a name is at the place of its calculation
pub place_named : (name : List ℕ) (ds : List CalcDef)
    → position (λ d. bytes_eq name d.name) ds ≡ position (bytes_eq name) (names_of (map calculation ds))
place_named name ds =
    ap₂ (λ k n. cond (nat_lt k n) (Some k) None) (before_named name ds) (sym (length_named ds))

-- the first name that stands for nothing in the front part is the first of all
pub first_in_front : (inputs before : List (List ℕ)) (xs ys : List Mention) (name : List ℕ)
    → option_map mentioned (find (λ m. not (is_known inputs before m)) xs) ≡ Some name
    → option_map mentioned (find (λ m. not (is_known inputs before m)) (xs ++ ys)) ≡ Some name
first_in_front inputs before xs ys name found =
    ap (option_map mentioned) (find-append _ xs ys) ∙ among (find _ xs) (find _ ys) found
  where
    among : (o p : Option Mention) → option_map mentioned o ≡ Some name
        → option_map mentioned (option_or o p) ≡ Some name
    among None p e = absurd (cc)
    among (Some m) p e = e

-- if all names of the front part stand for something, the first one is that of the other part
pub first_behind : (inputs before : List (List ℕ)) (xs ys : List Mention)
    → option_map mentioned (find (λ m. not (is_known inputs before m)) xs) ≡ None
    → option_map mentioned (find (λ m. not (is_known inputs before m)) (xs ++ ys))
    ≡ option_map mentioned (find (λ m. not (is_known inputs before m)) ys)
first_behind inputs before xs ys none =
    ap (option_map mentioned) (find-append _ xs ys) ∙ among (find _ xs) (find _ ys) none
  where
    among : (o p : Option Mention) → option_map mentioned o ≡ None
        → option_map mentioned (option_or o p) ≡ option_map mentioned p
    among None p e = refl
    among (Some m) p e = absurd (cc)

-- lists of the same calculations have the same one at each place
pub same_at : (a b : List CalcDef) (i : ℕ) (x y : CalcDef) → i < length a → i < length b
    → x ≡ get_or a i x → y ≡ get_or b i y → map calculation a ≡ map calculation b
    → calculation x ≡ calculation y
same_at a b i x y in_a in_b at_a at_b same =
    let left : slice_get (map calculation a) i ≡ Some (calculation x) =
    slice_get-map calculation a i
    ∙ ap (option_map calculation) (slice_get-get_or a i x in_a ∙ ap Some (sym at_a)) in
    let right : slice_get (map calculation b) i ≡ Some (calculation y) =
    slice_get-map calculation b i
    ∙ ap (option_map calculation) (slice_get-get_or b i y in_b ∙ ap Some (sym at_b)) in
    let both : slice_get (map calculation a) i ≡ slice_get (map calculation b) i =
    ap (λ l. slice_get l i) same in
    cc

-- the calculations from a place on
from_place : (ds : List CalcDef) (i : ℕ) (d : CalcDef) → i < length ds → get_or ds i d ≡ d
    → map calculation (drop i ds) ≡ calculation d ∷ map calculation (drop (i + 1) ds)
from_place ds i d within there = rw (drop-cons ds i d, there, add-one)

-- the names before the next place
upto_place : (ds : List CalcDef) (i : ℕ) (d : CalcDef) → i < length ds → get_or ds i d ≡ d
    → names_of (map calculation (take (i + 1) ds)) ≡ names_of (map calculation (take i ds)) ++ d.name ∷ []
upto_place ds i d within there = rw (take_more ds i d, there) (simp map-append)

-- the refusal of a calculation at a place, if a name stands for nothing
pub fault_told : (inputs : List (List ℕ)) (ds : List CalcDef) (i : ℕ) (d : CalcDef) (name : List ℕ)
    → i < length ds → get_or ds i d ≡ d
    → first_unknown inputs (names_of (map calculation (take i ds))) (tree_of d.expr) ≡ Some name
    → first_fault inputs (names_of (map calculation (take i ds))) (map calculation (drop i ds))
    ≡ Some (told i (names_of (map calculation (drop i ds))) name)
fault_told inputs ds i d name within there unknown =
    let place : length (names_of (map calculation (take i ds))) ≡ i =
    length_named (take i ds) ∙ omega (arith, length-take i ds) in
    rw (from_place ds i d within there, unknown, place)

-- where all its names stand for something, the fault is that of the calculations after it
pub fault_after : (inputs : List (List ℕ)) (ds : List CalcDef) (i : ℕ) (d : CalcDef)
    → i < length ds → get_or ds i d ≡ d
    → first_unknown inputs (names_of (map calculation (take i ds))) (tree_of d.expr) ≡ None
    → first_fault inputs (names_of (map calculation (take i ds))) (map calculation (drop i ds))
    ≡ first_fault inputs (names_of (map calculation (take (i + 1) ds))) (map calculation (drop (i + 1) ds))
fault_after inputs ds i d within there known =
    rw (from_place ds i d within there, upto_place ds i d within there, known)
