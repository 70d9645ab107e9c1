-- Lists of lists: one input after another, each with the records that it gets.
use Rattle.std.proofs.Common.{◌≡◌, ℕ, zero, suc, ◌+◌, ◌<◌, ◌≤◌, Bool, true, false, List, [], ◌∷◌, ◌++◌, length, get_or, map, take, set, All, refl, sym, subst, ap, ◌∙◌, arith}
use Rattle.std.specs.Prelude.{◌||◌, Vec}
use Rattle.std.specs.declared.alloc.Global.{Global}
use Rattle.std.proofs.Math.Seq.{map-set_same}
use Rattle.std.proofs.lemmas.List.{get_or-map, get_or-set_other, get_or-set_same, length-append, length-map, length-take-le, map-set, map_more, take_more}
use Rattle.trend_num.specs.{Rec}
use Rattle.trend_model.specs.{ContentState, listed}
use Rattle.sheet_law.specs.{kept_end, any_touched, is_touched, longer}
use Rattle.calc_refresh.specs.{lists_of, total_length}

-- the list at a place
pub lists_at : {A : Type 0} → (vs : List (Vec A Global)) (i : ℕ) (d : Vec A Global) → i < length vs
    → get_or (lists_of vs) i [] ≡ (get_or vs i d).items
lists_at vs i d within = get_or-map (λ v. v.items) vs i d [] within

-- a list in place of one that has the same elements
pub lists_kept : {A : Type 0} → (vs : List (Vec A Global)) (i : ℕ) (v d : Vec A Global)
    → v.items ≡ (get_or vs i d).items → lists_of (set vs i v) ≡ lists_of vs
lists_kept vs i v d same = map-set_same (λ w. w.items) vs i v d same

pub lists_set : {A : Type 0} → (vs : List (Vec A Global)) (i : ℕ) (v : Vec A Global)
    → lists_of (set vs i v) ≡ set (lists_of vs) i v.items
lists_set vs i v = map-set (λ w. w.items) vs i v

-- no records more leave all as they are
pub longer-nil : (rss : List (List Rec)) → longer rss [] ≡ rss
longer-nil [] = refl
longer-nil (rs ∷ rss) = refl

-- the records of the next input
pub longer-push : (rss mores : List (List Rec)) (more : List Rec) → length mores < length rss
    → longer rss (mores ++ more ∷ []) ≡ set (longer rss mores) (length mores) (get_or rss (length mores) [] ++ more)
longer-push [] mores more within = absurd (omega arith)
longer-push (rs ∷ rss) [] more within = ap (λ l. (rs ++ more) ∷ l) (longer-nil rss)
longer-push (rs ∷ rss) (m ∷ mores) more within = ap (λ l. (rs ++ m) ∷ l) (longer-push rss mores more (omega arith))

pub length-longer : (rss mores : List (List Rec)) → length (longer rss mores) ≡ length rss
length-longer [] mores = refl
length-longer (rs ∷ rss) [] = refl
length-longer (rs ∷ rss) (m ∷ mores) = ap suc (length-longer rss mores)

-- the windows that these touch besides the others
pub any_touched-nil : (rss : List (List Rec)) (from to : ℕ) → any_touched rss [] from to ≡ false
any_touched-nil [] from to = refl
any_touched-nil (rs ∷ rss) from to = refl

pub any_touched-push : (rss mores : List (List Rec)) (more : List Rec) (from to : ℕ) → length mores < length rss
    → any_touched rss (mores ++ more ∷ []) from to
    ≡ (any_touched rss mores from to || is_touched (get_or rss (length mores) []) more from to)
any_touched-push [] mores more from to within = absurd (omega arith)
any_touched-push (rs ∷ rss) [] more from to within =
    ap (λ b. is_touched rs more from to || b) (any_touched-nil rss from to) ∙ last (is_touched rs more from to)
  where
    last : (b : Bool) → (b || false) ≡ b
    last true = refl
    last false = refl
any_touched-push (rs ∷ rss) (m ∷ mores) more from to within =
    ap (λ b. is_touched rs m from to || b) (any_touched-push rss mores more from to (omega arith))
    ∙ grouped (is_touched rs m from to) (any_touched rss mores from to) (is_touched (get_or rss (length mores) []) more from to)
  where
    grouped : (a b c : Bool) → (a || (b || c)) ≡ ((a || b) || c)
    grouped true b c = refl
    grouped false b c = refl

-- how many records there are with those of the next input
pub total-push : {A : Type 0} → (xss : List (List A)) (xs : List A)
    → total_length (xss ++ xs ∷ []) ≡ total_length xss + length xs
total-push [] xs = omega arith
total-push (ys ∷ xss) xs = (let rest = total-push xss xs in omega arith)

-- ---- what is at one place in lists that go side by side

same_length : {A B C : Type 0} (f : A → C) (g : B → C) (xs : List A) (ys : List B) → map f xs ≡ map g ys
    → length xs ≡ length ys
same_length f g xs ys same = sym (length-map xs f) ∙ (ap length same ∙ length-map ys g)

-- there is a content for each input
pub as_many : (contents : List ContentState) (vs : List (Vec Rec Global))
    → map (λ c. c.records) contents ≡ map listed (lists_of vs) → length contents ≡ length vs
as_many contents vs same = grind (arith, same_length, length-map)

-- and it reads as the input's records
pub read_at : (contents : List ContentState) (vs : List (Vec Rec Global)) (i : ℕ) (c : ContentState)
    (v : Vec Rec Global) → i < length vs → map (λ c. c.records) contents ≡ map listed (lists_of vs)
    → (get_or contents i c).records ≡ listed (get_or vs i v).items
read_at contents vs i c v within same =
    sym (get_or-map (λ c. c.records) contents i c [] (omega (arith, as_many contents vs same)))
    ∙ (grind (arith, get_or-map, length-map, lists_at))

pub ended_at : (ends : List ℕ) (vs : List (Vec Rec Global)) (i : ℕ) (v : Vec Rec Global) → i < length vs
    → ends ≡ map kept_end (lists_of vs) → get_or ends i 0 ≡ kept_end (get_or vs i v).items
ended_at ends vs i v within same = grind (arith, get_or-map, length-map, lists_at)

-- one content and the records that it reads as take another one's place
pub read_set : (contents : List ContentState) (vs : List (Vec Rec Global)) (i : ℕ) (c : ContentState)
    (v : Vec Rec Global) → map (λ c. c.records) contents ≡ map listed (lists_of vs) → c.records ≡ listed v.items
    → map (λ c. c.records) (set contents i c) ≡ map listed (lists_of (set vs i v))
read_set contents vs i c v same one = grind (arith, map-set, lists_set)

pub ended_set : (ends : List ℕ) (vs : List (Vec Rec Global)) (i n : ℕ) (v : Vec Rec Global)
    → ends ≡ map kept_end (lists_of vs) → n ≡ kept_end v.items
    → set ends i n ≡ map kept_end (lists_of (set vs i v))
ended_set ends vs i n v same one = grind (arith, map-set, lists_set)

-- a fact of each list, at one place
pub each_at : (P : List Rec → Type 0) (vs : List (Vec Rec Global)) (i : ℕ) (v : Vec Rec Global) → i < length vs
    → All P (lists_of vs) → P (get_or vs i v).items
each_at P vs i v within each = grind (arith, lists_at, length-map)

-- the first inputs, and the next one
pub lists_more : (vs : List (Vec Rec Global)) (i : ℕ) (v : Vec Rec Global) → i < length vs
    → lists_of (take (i + 1) vs) ≡ lists_of (take i vs) ++ (get_or vs i v).items ∷ []
lists_more vs i v within = map_more (λ v. v.items) vs i v within

pub length-lists_take : (vs : List (Vec Rec Global)) (i : ℕ) → i ≤ length vs → length (lists_of (take i vs)) ≡ i
length-lists_take vs i within = length-map (take i vs) (λ v. v.items) ∙ length-take-le i vs within

-- the records of the first inputs, and of the next one
pub longer_more : (vs ds : List (Vec Rec Global)) (i : ℕ) (v d : Vec Rec Global) → i < length ds
    → length ds ≡ length vs
    → longer (lists_of vs) (lists_of (take (i + 1) ds))
    ≡ set (longer (lists_of vs) (lists_of (take i ds))) i ((get_or vs i v).items ++ (get_or ds i d).items)
longer_more vs ds i v d within same =
    let count = length-lists_take ds i (omega arith) in
    ap (longer (lists_of vs)) (lists_more ds i d within)
    ∙ (grind (arith, longer-push, length-map, lists_at))

pub any_touched_more : (vs ds : List (Vec Rec Global)) (i from to : ℕ) (v d : Vec Rec Global) → i < length ds
    → length ds ≡ length vs
    → any_touched (lists_of vs) (lists_of (take (i + 1) ds)) from to
    ≡ (any_touched (lists_of vs) (lists_of (take i ds)) from to
    || is_touched (get_or vs i v).items (get_or ds i d).items from to)
any_touched_more vs ds i from to v d within same =
    let count = length-lists_take ds i (omega arith) in
    ap (λ l. any_touched (lists_of vs) l from to) (lists_more ds i d within)
    ∙ (grind (arith, any_touched-push, length-map, lists_at))

-- what is read at a place is one of the lists
pub each_read : (P : List Rec → Type 0) (vs : List (Vec Rec Global)) (i : ℕ) (v : Vec Rec Global) → i < length vs
    → v ≡ get_or vs i v → All P (lists_of vs) → P v.items
each_read P vs i v within is each =
    subst (λ (w : Vec Rec Global). P w.items) (sym is) (each_at P vs i v within each)

-- the records of an input, with those that it gets
pub longer_at : (rss mores : List (List Rec)) (i : ℕ) → i < length rss → i < length mores
    → get_or (longer rss mores) i [] ≡ get_or rss i [] ++ get_or mores i []
longer_at [] mores i within inside = absurd (omega arith)
longer_at (rs ∷ rss) [] i within inside = absurd (omega arith)
longer_at (rs ∷ rss) (m ∷ mores) zero within inside = refl
longer_at (rs ∷ rss) (m ∷ mores) (suc i) within inside = longer_at rss mores i (omega arith) (omega arith)

-- how many records there are, input by input
pub total_more : (rss : List (List Rec)) (i : ℕ) → i < length rss
    → total_length (take (i + 1) rss) ≡ total_length (take i rss) + length (get_or rss i [])
total_more rss i within =
    ap total_length (take_more rss i [] within) ∙ total-push (take i rss) (get_or rss i [])

pub length_at : (vs ds : List (Vec Rec Global)) (i : ℕ) (v d : Vec Rec Global) → i < length vs → i < length ds
    → v ≡ get_or vs i v → d ≡ get_or ds i d
    → length (get_or (longer (lists_of vs) (lists_of ds)) i []) ≡ length v.items + length d.items
length_at vs ds i v d within inside is also = grind (arith, longer_at, length-map, lists_at, length-append)

-- a fact of the first elements, and of the one that is written next
pub each_set : {A : Type 0} → (P : ℕ → A → Type 0) (xs : List A) (i : ℕ) (x : A) → i < length xs
    → ((j : ℕ) (d : A) → j < i → P j (get_or xs j d)) → P i x
    → (j : ℕ) (d : A) → j < i + 1 → P j (get_or (set xs i x) j d)
each_set P xs i x within before here j d upto = grind (arith, get_or-set_same, get_or-set_other)
