-- A rising list, and one more record in it.
use Rattle.std.proofs.Common.{◌≡◌, ℕ, zero, suc, ◌+◌, ◌<◌, ◌≤◌, Bool, true, false, cond, List, [], ◌∷◌, ◌++◌, length, get_or, take, drop, set, All, refl, sym, ap, ◌∙◌, subst, arith, length-append, add-one}
use Rattle.std.specs.Prelude.{insert, not, ◌&&◌}
use Rattle.std.proofs.lemmas.List.{get_or_append_left, get_or-append-add, take-append-drop, drop_more, set_split}
use Rattle.std.proofs.lemmas.List.Elements.{All-nil, All-cons, All-head, All-tail}
use Rattle.std.proofs.lemmas.Bool.{cases_order, lt-ltb, le-ltb}
use Rattle.trend_model.specs.{is_late_record, IsRising, over, placed}
use Rattle.trend_num.specs.{Rec}

-- the time of a record
abbrev pub time : Rec → ℕ
time r = r.point.t

-- each of these records is before t, and after it
abbrev pub AllBefore : List Rec → ℕ → Type 0
AllBefore l t = All (λ x. time x < t) l

abbrev pub AllAfter : ℕ → List Rec → Type 0
AllAfter t l = All (λ x. t < time x) l

-- ---- rising lists

-- of a rising list the first is before the others, which rise
pub rising_head : (x : Rec) (xs : List Rec) → IsRising (x ∷ xs) → AllAfter (time x) xs
rising_head x xs rises k d within = rises 0 (suc k) d (omega arith) (omega arith)

pub rising_tail : (x : Rec) (xs : List Rec) → IsRising (x ∷ xs) → IsRising xs
rising_tail x xs rises i j d below within = rises (suc i) (suc j) d (omega arith) (omega arith)

pub rising_cons : (x : Rec) (xs : List Rec) → AllAfter (time x) xs → IsRising xs → IsRising (x ∷ xs)
rising_cons x xs first rest zero zero d below within = absurd (omega arith)
rising_cons x xs first rest zero (suc j) d below within = first j d (omega arith)
rising_cons x xs first rest (suc i) zero d below within = absurd (omega arith)
rising_cons x xs first rest (suc i) (suc j) d below within = rest i j d (omega arith) (omega arith)

pub rising_nil : IsRising []
rising_nil i j d below within = absurd (omega arith)

-- both parts of a rising list rise
pub rising_left : (xs ys : List Rec) → IsRising (xs ++ ys) → IsRising xs
rising_left xs ys rises i j d below within = grind (arith, get_or_append_left, length-append)

pub rising_right : (xs ys : List Rec) → IsRising (xs ++ ys) → IsRising ys
rising_right [] ys rises = rises
rising_right (x ∷ xs) ys rises = rising_right xs ys (rising_tail x (xs ++ ys) rises)

-- and each of the first is before each of the second
pub rising_across : (xs ys : List Rec) → IsRising (xs ++ ys) → (i j : ℕ) (d : Rec) → i < length xs → j < length ys
    → time (get_or xs i d) < time (get_or ys j d)
rising_across xs ys rises i j d within inside = grind (arith, get_or_append_left, get_or-append-add, length-append)

-- ---- one more record

-- what is at a time has that time
pub time_over : (r x : Rec) (late : Bool) → time r ≡ time x → time (cond late x r) ≡ time x
time_over r x true same = refl
time_over r x false same = same

-- the three ways to place a record
pub placed_by : (P : List Rec → Type 0) (r x : Rec) (xs : List Rec) → (time r < time x → P (r ∷ x ∷ xs))
    → (time x < time r → P (x ∷ placed r xs)) → (time r ≡ time x → P (over r x ∷ xs)) → P (placed r (x ∷ xs))
placed_by P r x xs first later same = grind (arith, cases_order, le-ltb, lt-ltb)

-- the time of what is then at a time
pub time_of_over : (r x : Rec) → time r ≡ time x → time (over r x) ≡ time x
time_of_over r x same = time_over r x (is_late_record x.kind && not (is_late_record r.kind)) same

-- a fact of each time stays one
pub all_placed : (P : ℕ → Type 0) (r : Rec) (l : List Rec) → P (time r) → All (λ x. P (time x)) l → All (λ x. P (time x)) (placed r l)
all_placed P r [] here each = All-cons (λ x. P (time x)) r [] here each
all_placed P r (x ∷ xs) here each =
    let Each : Rec → Type 0 = λ y. P (time y) in
    let head = All-head Each x xs each in
    let tail = All-tail Each x xs each in
    placed_by (All Each) r x xs (λ before. All-cons Each r (x ∷ xs) here each)
    (λ after. All-cons Each x (placed r xs) head (all_placed P r xs here tail))
    (λ same. All-cons Each (over r x) xs (subst P (sym (time_of_over r x same)) head) tail)

-- a list after one more record still rises
pub rising_placed : (r : Rec) (l : List Rec) → IsRising l → IsRising (placed r l)
rising_placed r [] rises = rising_cons r [] (All-nil (λ y. time r < time y)) rises
rising_placed r (x ∷ xs) rises =
    let first = rising_head x xs rises in
    let rest = rising_tail x xs rises in
    placed_by IsRising r x xs
    (λ before. rising_cons r (x ∷ xs) (All-cons (λ y. time r < time y) x xs before (λ k d within. let h = first k d within in omega arith)) rises)
    (λ after. rising_cons x (placed r xs) (all_placed (λ t. time x < t) r xs after first) (rising_placed r xs rest))
    (λ same. rising_cons (over r x) xs (subst (λ t. AllAfter t xs) (sym (time_of_over r x same)) first) rest)

-- it is placed after those that are before it
pub placed_behind : (r : Rec) (xs ys : List Rec) → AllBefore xs (time r) → placed r (xs ++ ys) ≡ xs ++ placed r ys
placed_behind r [] ys before = refl
placed_behind r (x ∷ xs) ys before =
    let head : time x < time r = All-head (λ y. time y < time r) x xs before in
    placed_by (λ l. l ≡ x ∷ (xs ++ placed r ys)) r x (xs ++ ys) (λ h. absurd (omega arith))
    (λ h. ap (λ l. x ∷ l) (placed_behind r xs ys (All-tail (λ y. time y < time r) x xs before))) (λ h. absurd (omega arith))

-- and before those that are after it
pub placed_before : (r : Rec) (xs ys : List Rec) → AllAfter (time r) ys → placed r (xs ++ ys) ≡ placed r xs ++ ys
placed_before r [] [] after = refl
placed_before r [] (y ∷ ys) after =
    let head : time r < time y = All-head (λ z. time r < time z) y ys after in
    placed_by (λ l. l ≡ r ∷ y ∷ ys) r y ys (λ h. refl) (λ h. absurd (omega arith)) (λ h. absurd (omega arith))
placed_before r (x ∷ xs) ys after =
    placed_by (λ l. l ≡ placed r (x ∷ xs) ++ ys) r x (xs ++ ys)
    (λ h. placed_by (λ l. r ∷ x ∷ (xs ++ ys) ≡ l ++ ys) r x xs (λ g. refl) (λ g. absurd (omega arith)) (λ g. absurd (omega arith)))
    (λ h. placed_by (λ l. x ∷ placed r (xs ++ ys) ≡ l ++ ys) r x xs (λ g. absurd (omega arith))
    (λ g. ap (λ l. x ∷ l) (placed_before r xs ys after)) (λ g. absurd (omega arith)))
    (λ h. placed_by (λ l. over r x ∷ (xs ++ ys) ≡ l ++ ys) r x xs (λ g. absurd (omega arith)) (λ g. absurd (omega arith)) (λ g. refl))

-- so in the middle alone
pub placed_middle : (r : Rec) (xs p ys : List Rec) → AllBefore xs (time r) → AllAfter (time r) ys
    → placed r (xs ++ (p ++ ys)) ≡ xs ++ (placed r p ++ ys)
placed_middle r xs p ys before after = placed_behind r xs (p ++ ys) before ∙ ap (λ l. xs ++ l) (placed_before r p ys after)

-- in a gap it is inserted
pub placed_in_gap : (r : Rec) (l : List Rec) (i : ℕ) → AllBefore (take i l) (time r) → AllAfter (time r) (drop i l)
    → placed r l ≡ insert l i r
placed_in_gap r l i before after =
    ap (placed r) (sym (take-append-drop i l))
    ∙ (placed_behind r (take i l) (drop i l) before ∙ ap (λ m. take i l ++ m) (placed_before r [] (drop i l) after))

-- at a time that is there the newer one is put over the other
pub placed_at : (r : Rec) (l : List Rec) (i : ℕ) (d : Rec) → i < length l → AllBefore (take i l) (time r) → time r ≡ time (get_or l i d)
    → placed r l ≡ set l i (over r (get_or l i d))
placed_at r l i d within before same =
    let x = get_or l i d in
    let there : placed r (x ∷ drop (i + 1) l) ≡ over r x ∷ drop (i + 1) l =
    placed_by (λ m. m ≡ over r x ∷ drop (i + 1) l) r x (drop (i + 1) l) (λ h. absurd (omega arith)) (λ h. absurd (omega arith)) (λ h. refl) in
    ap (placed r) (sym (take-append-drop i l))
    ∙ (placed_behind r (take i l) (drop i l) before
    ∙ (grind (arith, drop_more, add-one, set_split)))

-- there is one record more at most
pub length-placed : (r : Rec) (l : List Rec) → (length l ≤ length (placed r l)) × (length (placed r l) ≤ length l + 1)
length-placed r [] = (omega arith, omega arith)
length-placed r (x ∷ xs) =
    let Fits : List Rec → Type 0 = λ m. (suc (length xs) ≤ length m) × (length m ≤ suc (length xs) + 1) in
    let rest = length-placed r xs in
    placed_by Fits r x xs (λ h. (omega arith, omega arith)) (λ h. (omega arith, omega arith)) (λ h. (omega arith, omega arith))
