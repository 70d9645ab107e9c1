-- Places of answers on tapes, found entry by entry and tape by tape.
use Rattle.std.proofs.Common.{◌≡◌, ℕ, ◌+◌, ◌<◌, List, [], ◌∷◌, ◌++◌, length, take, get_or, refl, suc, zero, sym, ap, ◌∙◌, arith, Option, None, Some, Bool, true, false, cond, nat_eq, nat_lt}
use Rattle.std.specs.Prelude.{◌≢◌}
use Rattle.std.specs.List.{find, position, position_from, position_or_len, slice_get}
use Rattle.std.specs.Option.{option_and_then, option_map_or, option_or}
use Rattle.std.proofs.lemmas.Bool.{eqb-false, eqb-true, ltb-false}
use Rattle.std.proofs.lemmas.List.{length-take-le, take_more}
use Rattle.std.proofs.lemmas.List.Folds.{find_at}
use Rattle.std.proofs.lemmas.Iterator.Adapters.{position_from-zero}
use Rattle.std.proofs.lemmas.Option.{slice_get-get_or, slice_get_past}
use Rattle.std.proofs.lemmas.List.Quantifiers.{position-Some}
use Rattle.plant_status.specs.declared.unit.Unit.{Unit as UnitOf}
use Rattle.plant_status.specs.declared.unit.Unit.TheVariants as unit
use Rattle.value_rows.specs.{Query}
use Rattle.value_rows.specs.declared.asked.Query.TheVariants.{Tag, Snap, Row}
use Rattle.tag_cell.specs.{TagHistory}
use Rattle.group_book.specs.{GroupHistory}
use Rattle.session_report.specs.{Asker, first_by, group_asker, is_by, tag_asker, ArePlaces, ArePlacesFilled, Table, is_about, kept_first, place_by, place_in, answer_place_of, query_in}

-- ---- the first place of a list at which a test passes

-- of an element more
position_from_push : {X : Type 0} (test : X → Bool) (i : ℕ) (xs : List X) (x : X)
    → position_from test i (xs ++ x ∷ []) ≡ option_or (position_from test i xs) (cond (test x) (Some (i + length xs)) None)
position_from_push test i [] x = let number : i ≡ i + 0 = omega arith in ap (λ n. cond (test x) (Some n) None) number
position_from_push test i (y ∷ xs) x = by (test y) (position_from_push test (i + 1) xs x)
  where
    number : i + 1 + length xs ≡ i + length (y ∷ xs)
    number = omega arith

    by : (b : Bool) → position_from test (i + 1) (xs ++ x ∷ [])
        ≡ option_or (position_from test (i + 1) xs) (cond (test x) (Some (i + 1 + length xs)) None)
        → cond b (Some i) (position_from test (i + 1) (xs ++ x ∷ []))
        ≡ option_or (cond b (Some i) (position_from test (i + 1) xs)) (cond (test x) (Some (i + length (y ∷ xs))) None)
    by true rest = refl
    by false rest = rest
        ∙ ap (λ n. option_or (position_from test (i + 1) xs) (cond (test x) (Some n) None)) number

-- the same from the begin of the list
position_push : {X : Type 0} (test : X → Bool) (xs : List X) (x : X)
    → position test (xs ++ x ∷ []) ≡ option_or (position test xs) (cond (test x) (Some (length xs)) None)
position_push test xs x =
    let number : 0 + length xs ≡ length xs = omega arith in
    position_from-zero test (xs ++ x ∷ []) ∙ position_from_push test 0 xs x
    ∙ ap (λ n. option_or (position_from test 0 xs) (cond (test x) (Some n) None)) number
    ∙ ap (λ p. option_or p (cond (test x) (Some (length xs)) None)) (sym (position_from-zero test xs))

-- the first element that passes is that at the first place
find_is : {X : Type 0} (test : X → Bool) (xs : List X) → find test xs ≡ option_and_then (slice_get xs) (position test xs)
find_is test xs = find_at test xs ∙ by (nat_lt (position_or_len test xs) (length xs)) refl
  where
    by : (b : Bool) → nat_lt (position_or_len test xs) (length xs) ≡ b
        → slice_get xs (position_or_len test xs) ≡ option_and_then (slice_get xs) (cond b (Some (position_or_len test xs)) None)
    by true is = refl
    by false is = slice_get_past xs (position_or_len test xs) (ltb-false (position_or_len test xs) (length xs) is)

-- the first entry that answers a row of a reader, where its place is known
pub first_there : {E : Type 0} (asker : E → Option Asker) (reader row : ℕ) (tape : List E) (place : ℕ) (e : E)
    → Some place ≡ place_by asker reader row tape → e ≡ get_or tape place e → first_by asker reader row tape ≡ Some e
first_there {E = E} asker reader row tape place e found is =
    let test : E → Bool = λ x. is_by reader row (asker x) in
    let within = (position-Some test tape place e (sym found)).0 in
    find_is test tape ∙ ap (option_and_then (slice_get tape)) (sym found) ∙ slice_get-get_or tape place e within ∙ ap (λ x. Some x) (sym is)

-- and where there is none
pub first_none : {E : Type 0} (asker : E → Option Asker) (reader row : ℕ) (tape : List E)
    → None ≡ place_by asker reader row tape → first_by asker reader row tape ≡ None
first_none {E = E} asker reader row tape none =
    let test : E → Bool = λ x. is_by reader row (asker x) in
    find_is test tape ∙ ap (option_and_then (slice_get tape)) (sym none)

-- what is nothing that was found is none
pub none_of : {X : Type 0} (o : Option X) → ((x : X) → o ≡ Some x → ⊥) → o ≡ None
none_of None nothing = refl
none_of (Some x) nothing = absurd (nothing x refl)

-- ---- entries

-- where nothing is new, nothing is kept
pub kept_nothing : (its : UnitOf) (asked : Option Query) (old : Option ℕ) → old ≡ kept_first its asked old None
kept_nothing its asked old = by (is_about its asked) old
  where
    by : (b : Bool) (o : Option ℕ) → o ≡ cond b (option_or o None) o
    by true None = refl
    by true (Some p) = refl
    by false o = refl

-- what is kept of two places, one after the other, is what is kept of the first of them
kept_twice : (its : UnitOf) (asked : Option Query) (old one two : Option ℕ)
    → kept_first its asked (kept_first its asked old one) two ≡ kept_first its asked old (option_or one two)
kept_twice its asked old one two = by (is_about its asked) old
  where
    by : (b : Bool) (o : Option ℕ) → cond b (option_or (cond b (option_or o one) o) two) (cond b (option_or o one) o)
        ≡ cond b (option_or o (option_or one two)) o
    by true None = refl
    by true (Some p) = refl
    by false o = refl

module _ {E : Type 0} (asker : E → Option Asker) (readers : List (List Query)) (its : UnitOf) (tape : List E) (i : ℕ) (e : E)
    (old now : Table) (there : i < length tape) (is : get_or tape i e ≡ e)
    (filled : ArePlacesFilled asker readers its (take i tape) old now) where
  -- the place of an answer, with an entry more
  place_more : (reader row : ℕ) → place_by asker reader row (take (i + 1) tape)
      ≡ option_or (place_by asker reader row (take i tape)) (cond (is_by reader row (asker e)) (Some i) None)
  place_more reader row =
      let test : E → Bool = λ x. is_by reader row (asker x) in
      ap (position test) (take_more tape i e there ∙ ap (λ x. take i tape ++ x ∷ []) is) ∙ position_push test (take i tape) e
      ∙ ap (λ n. option_or (position test (take i tape)) (cond (test e) (Some n) None)) (length-take-le i tape (omega (arith, there)))

  -- the place of an entry that answers is kept where it is the first
  pub filled_answer : (by : Asker) (new : Table) → asker e ≡ Some by
      → ((reader k : ℕ) → place_in new reader k ≡ kept_first its (query_in readers reader k) (place_in now reader k)
      (cond (is_by reader (k + 1) (Some by)) (Some i) None))
      → ArePlacesFilled asker readers its (take (i + 1) tape) old new
  filled_answer by new answers kept reader k =
      let asked = query_in readers reader k in
      let before = place_by asker reader (k + 1) (take i tape) in
      let here : Option Asker → Option ℕ = λ who. cond (is_by reader (k + 1) who) (Some i) None in
      kept reader k ∙ ap (λ p. kept_first its asked p (here (Some by))) (filled reader k)
      ∙ kept_twice its asked (place_in old reader k) before (here (Some by))
      ∙ ap (λ who. kept_first its asked (place_in old reader k) (option_or before (here who))) (sym answers)
      ∙ ap (kept_first its asked (place_in old reader k)) (sym (place_more reader (k + 1)))

  -- an entry that answers nothing changes nothing
  pub filled_other : asker e ≡ None → ArePlacesFilled asker readers its (take (i + 1) tape) old now
  filled_other answers reader k =
      let asked = query_in readers reader k in
      let before = place_by asker reader (k + 1) (take i tape) in
      filled reader k ∙ ap (kept_first its asked (place_in old reader k)) (nothing_more before
      ∙ ap (λ who. option_or before (cond (is_by reader (k + 1) who) (Some i) None)) (sym answers) ∙ sym (place_more reader (k + 1)))
    where
      nothing_more : (p : Option ℕ) → p ≡ option_or p None
      nothing_more None = refl
      nothing_more (Some n) = refl

-- ---- tapes

-- the tape of a unit, of these
abbrev tape_at : {H E : Type 0} → (H → List E) → List H → ℕ → List E
tape_at tape_of units n = option_map_or tape_of (slice_get units n) []

-- with a unit more
last_tape : {H E : Type 0} (tape_of : H → List E) (units : List H) (x : H) → tape_at tape_of (units ++ x ∷ []) (length units) ≡ tape_of x
last_tape tape_of [] x = refl
last_tape tape_of (y ∷ units) x = last_tape tape_of units x

no_tape : {H E : Type 0} (tape_of : H → List E) (units : List H) → tape_at tape_of units (length units) ≡ []
no_tape tape_of [] = refl
no_tape tape_of (y ∷ units) = no_tape tape_of units

other_tape : {H E : Type 0} (tape_of : H → List E) (units : List H) (x : H) (n : ℕ) → n ≢ length units
    → tape_at tape_of (units ++ x ∷ []) n ≡ tape_at tape_of units n
other_tape tape_of [] x zero other = absurd (other refl)
other_tape tape_of [] x (suc n) other = refl
other_tape tape_of (y ∷ units) x zero other = refl
other_tape tape_of (y ∷ units) x (suc n) other = other_tape tape_of units x n (λ same. other (ap suc same))

-- the place of an answer on the tape of a unit, with a unit more
place_on : {H E : Type 0} (asker : E → Option Asker) (tape_of : H → List E) (reader row : ℕ) (units : List H) (x : H) (n : ℕ)
    → cond (nat_eq n (length units)) (option_or (place_by asker reader row (tape_at tape_of units n)) (place_by asker reader row (tape_of x)))
    (place_by asker reader row (tape_at tape_of units n)) ≡ place_by asker reader row (tape_at tape_of (units ++ x ∷ []) n)
place_on {E = E} asker tape_of reader row units x n = by (nat_eq n (length units)) refl
  where
    place : List E → Option ℕ
    place tape = place_by asker reader row tape

    by : (b : Bool) → nat_eq n (length units) ≡ b → cond b (option_or (place (tape_at tape_of units n)) (place (tape_of x)))
        (place (tape_at tape_of units n)) ≡ place (tape_at tape_of (units ++ x ∷ []) n)
    by true is =
        let same : n ≡ length units = eqb-true n (length units) is in
        ap (λ m. option_or (place (tape_at tape_of units m)) (place (tape_of x))) same
        ∙ ap (λ t. option_or (place t) (place (tape_of x))) (no_tape tape_of units)
        ∙ ap place (sym (last_tape tape_of units x))
        ∙ ap (λ m. place (tape_at tape_of (units ++ x ∷ []) m)) (sym same)
    by false is = ap place (sym (other_tape tape_of units x n (eqb-false n (length units) is)))

-- the places on the tapes of the tags up to one are kept, and then those on that one's
pub tags_more : (readers : List (List Query)) (tags : List TagHistory) (i : ℕ) (x : TagHistory) (old new : Table) → i < length tags
    → get_or tags i x ≡ x → ArePlaces readers (take i tags) [] old
    → ArePlacesFilled tag_asker readers (unit.Tag i) x.tape.items old new → ArePlaces readers (take (i + 1) tags) [] new
tags_more readers tags i x old new there is are filled reader k =
    filled reader k ∙ ap (λ p. kept_first (unit.Tag i) asked p (place_by tag_asker reader (k + 1) x.tape.items)) (are reader k)
    ∙ ap (λ n. kept_first (unit.Tag n) asked (answer_place_of (take i tags) [] reader k asked) (place_by tag_asker reader (k + 1) x.tape.items))
    (sym count)
    ∙ by asked ∙ ap (λ l. answer_place_of l [] reader k asked) (sym more)
  where
    asked : Option Query
    asked = query_in readers reader k

    count : length (take i tags) ≡ i
    count = length-take-le i tags (omega (arith, there))

    more : take (i + 1) tags ≡ take i tags ++ x ∷ []
    more = take_more tags i x there ∙ ap (λ h. take i tags ++ h ∷ []) is

    by : (q : Option Query) → kept_first (unit.Tag (length (take i tags))) q (answer_place_of (take i tags) [] reader k q)
        (place_by tag_asker reader (k + 1) x.tape.items) ≡ answer_place_of (take i tags ++ x ∷ []) [] reader k q
    by None = refl
    by (Some (Tag tag query)) = place_on tag_asker (λ h. h.tape.items) reader (k + 1) (take i tags) x tag
    by (Some (Snap tag)) = refl
    by (Some (Row group calc w)) = refl

-- and so are those of groups
pub groups_more : (readers : List (List Query)) (tags : List TagHistory) (groups : List GroupHistory) (i : ℕ) (x : GroupHistory)
    (old new : Table) → i < length groups → get_or groups i x ≡ x → ArePlaces readers tags (take i groups) old
    → ArePlacesFilled group_asker readers (unit.Group i) x.tape.items old new → ArePlaces readers tags (take (i + 1) groups) new
groups_more readers tags groups i x old new there is are filled reader k =
    filled reader k ∙ ap (λ p. kept_first (unit.Group i) asked p (place_by group_asker reader (k + 1) x.tape.items)) (are reader k)
    ∙ ap (λ n. kept_first (unit.Group n) asked (answer_place_of tags (take i groups) reader k asked) (place_by group_asker reader (k + 1) x.tape.items))
    (sym count)
    ∙ by asked ∙ ap (λ l. answer_place_of tags l reader k asked) (sym more)
  where
    asked : Option Query
    asked = query_in readers reader k

    count : length (take i groups) ≡ i
    count = length-take-le i groups (omega (arith, there))

    more : take (i + 1) groups ≡ take i groups ++ x ∷ []
    more = take_more groups i x there ∙ ap (λ h. take i groups ++ h ∷ []) is

    by : (q : Option Query) → kept_first (unit.Group (length (take i groups))) q (answer_place_of tags (take i groups) reader k q)
        (place_by group_asker reader (k + 1) x.tape.items) ≡ answer_place_of tags (take i groups ++ x ∷ []) reader k q
    by None = refl
    by (Some (Tag tag query)) = refl
    by (Some (Snap tag)) = refl
    by (Some (Row group calc w)) = place_on group_asker (λ h. h.tape.items) reader (k + 1) (take i groups) x group
