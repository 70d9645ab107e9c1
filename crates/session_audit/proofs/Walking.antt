-- A walk over a tape, one entry further.
use Rattle.std.proofs.Common.{◌≡◌, ◌≢◌, ℕ, zero, suc, ◌+◌, ◌-◌, ◌<◌, ◌≤◌, inl, inr, true, false, nat_eq, List, [], ◌∷◌, ◌++◌, length, get_or, set, take, Option, None, Some, IsSome, IsSomeAnd, MatchOption, All, slice_get, refl, sym, ap}
use Rattle.std.proofs.Common.{subst, ◌∙◌, arith, append-nil}
use Rattle.std.specs.Prelude.{filter_map, option_and_then}
use Rattle.std.specs.Option.{option_map_or, unwrap_or}
use Rattle.std.proofs.lemmas.Bool.{cases_eq, cases_lt, false≢true}
use Rattle.std.proofs.lemmas.Bool.Decides.{nat_tests}
use Rattle.std.proofs.lemmas.List.{get_or-set_same, get_or-set_other, get_or_past, take_more, length-set}
use Rattle.std.proofs.lemmas.List.Elements.{All-from_get_or, All-get_or, filter_map-append}
use Rattle.std.proofs.lemmas.Option.{none-some, get_or_from_slice_get, slice_get_cases, slice_get_past, slice_get_within, slice_get-get_or}
use Rattle.plant_status.specs.{Seen}
use Rattle.plant_status.specs.declared.mismatch.Seen.TheVariants.{Nothing}
use Rattle.session_audit.specs.{Item, Shown, AreFound, AreFurther, IsAdvanced, IsDifference, IsFirstPart, IsFollowed, IsFurther, IsOtherDue, IsUnfound, Reached, due_of, found, found_of, next_due, place_at, seen_by, tape_shows}
use Rattle.session_audit.specs.Agendas.{IsNext, due, due_at, seen_at}
use Rattle.session_audit.proofs.Begun.{due_same, found_of_first}

-- ---- rows that were passed

-- one row more
due_one : (unit : ℕ) (items : List (Option Item)) (i : ℕ) → i < length items
    → due unit (take (i + 1) items) ≡ due unit (take i items) ++ due unit (get_or items i None ∷ [])
due_one unit items i within =
    ap (due unit) (take_more items i None within) ∙ filter_map-append (seen_at unit) (take i items) (get_or items i None ∷ [])

-- a row that is not due leaves nothing, and one that is leaves this
due_none : (unit : ℕ) (row : Option Item) → seen_at unit row ≡ None → due unit (row ∷ []) ≡ []
due_none unit row none = rw none refl

due_some : (unit : ℕ) (row : Option Item) (seen : Seen) → seen_at unit row ≡ Some seen → due unit (row ∷ []) ≡ seen ∷ []
due_some unit row seen is = rw is refl

-- up to the next row that is due, none is
due_gap : (unit : ℕ) (items : List (Option Item)) (from to g : ℕ) → IsNext unit items from to → from + g ≤ to
    → due unit (take (from + g) items) ≡ due unit (take from items)
due_gap unit items from to zero next within = ap (λ n. due unit (take n items)) (omega arith)
due_gap unit items from to (suc g) next within =
    let number : from + suc g ≡ from + g + 1 = omega arith in
    let none = next.none_between (from + g) (omega arith) (omega (arith, within)) in
    ap (λ n. due unit (take n items)) number
    ∙ (due_one unit items (from + g) (omega (arith, within, next.within))
    ∙ (ap (λ l. due unit (take (from + g) items) ++ l) (due_none unit (get_or items (from + g) None) none)
    ∙ (append-nil (due unit (take (from + g) items)) ∙ due_gap unit items from to g next (omega (arith, within)))))

pub due_passed : (unit : ℕ) (items : List (Option Item)) (from to : ℕ) → IsNext unit items from to
    → due unit (take to items) ≡ due unit (take from items)
due_passed unit items from to next =
    let number : to ≡ from + (to - from) = omega (arith, next.order) in
    ap (λ n. due unit (take n items)) number ∙ due_gap unit items from to (to - from) next (omega (arith, next.order))

-- a row that is due somewhere is there
due_within : (unit : ℕ) (items : List (Option Item)) (i : ℕ) (seen : Seen) → due_at unit items i ≡ Some seen
    → i < length items
due_within unit items i seen is = elim (cases_lt i (length items)) [
  | inl below ↦ below
  | inr behind ↦ absurd (none-some seen (sym (ap (seen_at unit) (get_or_past items i None behind)) ∙ is))
]

-- ---- one worker

-- the next row of a unit was found
pub found_more : (unit : ℕ) (old new : Reached) (seen : Seen) → IsAdvanced unit old new → next_due old unit ≡ Some seen
    → unit < length old.at → found new unit ≡ found old unit ++ seen ∷ []
found_more unit old new seen step is known =
    let at = place_at old unit in
    let within = due_within unit old.items at seen is in
    let moved = ap (λ p. found p unit) step.changed
    ∙ ap (λ n. due unit (take n old.items)) (get_or-set_same old.at unit step.place 0 known) in
    moved ∙ (due_passed unit old.items (at + 1) step.place step.is_next
    ∙ (due_one unit old.items at within
    ∙ ap (λ l. due unit (take at old.items) ++ l) (due_some unit (get_or old.items at None) seen is)))

-- the next row after all that was found of a unit is the row that is due there
first_shown : (unit : ℕ) (x : Option Item) (rest : List (Option Item)) (o : Option Seen) → seen_at unit x ≡ o → IsSome o
    → slice_get (due unit (x ∷ rest)) 0 ≡ o
first_shown unit x rest None is some = absurd (false≢true some)
first_shown unit x rest (Some seen) is some = rw is refl

behind_shown : (unit : ℕ) (x : Option Item) (rest : List (Option Item)) (i : ℕ) (r o : Option Seen) → seen_at unit x ≡ o
    → slice_get (due unit rest) (length (due unit (take i rest))) ≡ r
    → slice_get (due unit (x ∷ rest)) (length (due unit (x ∷ take i rest))) ≡ r
behind_shown unit x rest i r None is same = rw is same
behind_shown unit x rest i r (Some seen) is same = rw is same

pub next_shown : (unit : ℕ) (items : List (Option Item)) (at : ℕ) → (at < length items → IsSome (due_at unit items at))
    → slice_get (due unit items) (length (due unit (take at items))) ≡ due_at unit items at
next_shown unit [] zero there = refl
next_shown unit [] (suc i) there = refl
next_shown unit (x ∷ rest) zero there = first_shown unit x rest (seen_at unit x) refl (there (omega arith))
next_shown unit (x ∷ rest) (suc i) there =
    behind_shown unit x rest i (due_at unit rest i) (seen_at unit x) refl
    (next_shown unit rest i (λ below. there (omega (arith, below))))

-- ---- all workers

-- a list with another element at a place
get_same : {X : Type 0} (xs : List X) (i : ℕ) (x y : X) → slice_get xs i ≡ Some y → slice_get (set xs i x) i ≡ Some x
get_same xs i x y there =
    let within = slice_get_within xs i y there in
    slice_get-get_or (set xs i x) i x (omega (arith, within, length-set xs i x))
    ∙ ap Some (get_or-set_same xs i x x within)

get_other : {X : Type 0} (xs : List X) (i j : ℕ) (x : X) → j ≢ i → slice_get (set xs i x) j ≡ slice_get xs j
get_other xs i j x other = elim (cases_lt j (length xs)) [
  | inl below ↦ slice_get-get_or (set xs i x) j x (omega (arith, below, length-set xs i x))
      ∙ (ap Some (get_or-set_other xs i j x x other) ∙ sym (slice_get-get_or xs j x below))
  | inr behind ↦ slice_get_past (set xs i x) j (omega (arith, behind, length-set xs i x)) ∙ sym (slice_get_past xs j behind)
]

-- a list has its units, and so has each of its elements
pub at_place : {X : Type 0} (P : X → Type 0) (xs : List X) (i : ℕ) (x : X) → All P xs → slice_get xs i ≡ Some x → P x
at_place P xs i x each there =
    subst P (get_or_from_slice_get xs i x x there) (All-get_or P xs i x (slice_get_within xs i x there) each)

-- what was found of a worker whose next row was found, and of another one
pub followed_same : (worker unit : ℕ) (kept : Seen) (old new : List Reached) → IsFollowed worker unit kept old new
    → All (λ p. unit < length p.at) old → found_of new worker unit ≡ found_of old worker unit ++ kept ∷ []
followed_same worker unit kept old new step known =
    let known_there = at_place (λ p. unit < length p.at) old worker step.before known step.there in
    let now = ap (λ l. slice_get l worker) step.changed ∙ get_same old worker step.after step.before step.there in
    rw (now, step.there) (found_more unit step.before step.after kept step.advanced step.due_is known_there)

pub followed_other : (worker other unit : ℕ) (kept : Seen) (old new : List Reached)
    → IsFollowed worker unit kept old new → other ≢ worker → found_of new other unit ≡ found_of old other unit
followed_other worker other unit kept old new step differ =
    ap (λ o. option_map_or (λ p. found p unit) o [])
    (ap (λ l. slice_get l other) step.changed ∙ get_other old worker other step.after differ)

-- the next row of the worker at a place was found
pub followed_here : (works : List Reached) (worker unit : ℕ) (kept : Seen) (c d q : Reached) → worker < length works
    → next_due (get_or works worker c) unit ≡ Some kept → IsAdvanced unit (get_or works worker d) q
    → IsFollowed worker unit kept works (set works worker q)
followed_here works worker unit kept c d q within due step = record {
  before = get_or works worker d;
  after = q;
  there = slice_get-get_or works worker d within;
  due_is = ap (λ p. next_due p unit)
      (sym (get_or_from_slice_get works worker (get_or works worker d) c (slice_get-get_or works worker d within))) ∙ due;
  advanced = step;
  changed = refl;
}

-- ---- tapes

-- an entry of no worker shows nothing more
shown_none : {E : Type 0} (work : E → Option Shown) (worker : ℕ) (tape : List E) (e : E) → work e ≡ None
    → tape_shows work worker (tape ++ e ∷ []) ≡ tape_shows work worker tape
shown_none work worker tape e none =
    let one : filter_map (seen_by work worker) (e ∷ []) ≡ [] = rw none refl in
    filter_map-append (seen_by work worker) tape (e ∷ [])
    ∙ (ap (λ l. tape_shows work worker tape ++ l) one ∙ append-nil (tape_shows work worker tape))

-- an entry of a worker shows this more
shown_more : {E : Type 0} (work : E → Option Shown) (worker : ℕ) (tape : List E) (e : E) (kept : Seen)
    → work e ≡ Some (record { worker = worker; seen = kept }) → tape_shows work worker (tape ++ e ∷ []) ≡ tape_shows work worker tape ++ kept ∷ []
shown_more work worker tape e kept is =
    let same : nat_eq worker worker ≡ true = grind (arith, nat_tests) in
    let one : filter_map (seen_by work worker) (e ∷ []) ≡ kept ∷ [] = rw (is, same) refl in
    filter_map-append (seen_by work worker) tape (e ∷ []) ∙ ap (λ l. tape_shows work worker tape ++ l) one

-- and nothing of another one
shown_other : {E : Type 0} (work : E → Option Shown) (worker other : ℕ) (tape : List E) (e : E) (kept : Seen)
    → work e ≡ Some (record { worker = worker; seen = kept }) → other ≢ worker → tape_shows work other (tape ++ e ∷ []) ≡ tape_shows work other tape
shown_other work worker other tape e kept is differ =
    let others : nat_eq worker other ≡ false = grind (arith, nat_tests, differ) in
    let one : filter_map (seen_by work other) (e ∷ []) ≡ [] = rw (is, others) refl in
    filter_map-append (seen_by work other) tape (e ∷ [])
    ∙ (ap (λ l. tape_shows work other tape ++ l) one ∙ append-nil (tape_shows work other tape))

-- ---- what a walk keeps

-- before the first entry nothing is found
pub found_at_start : {E : Type 0} (work : E → Option Shown) (unit : ℕ) (works : List Reached)
    → All (IsUnfound unit) works → AreFound work unit [] works
found_at_start work unit works each = record {
  each = λ worker. elim (slice_get_cases works worker).1 [
    | inl (p, below, there, _) ↦ rw there
        (sym (due_passed unit p.items 0 (place_at p unit) (at_place (IsUnfound unit) works worker p each there)))
    | inr (past, none) ↦ rw none refl
  ];
}

-- an entry that is of no worker
pub found_past : {E : Type 0} (work : E → Option Shown) (unit : ℕ) (tape : List E) (e : E) (works : List Reached)
    → work e ≡ None → AreFound work unit tape works → AreFound work unit (tape ++ e ∷ []) works
found_past work unit tape e works none before = record {
  each = λ worker. shown_none work worker tape e none ∙ before.each worker;
}

-- an entry that is its worker's next row
pub found_step : {E : Type 0} (work : E → Option Shown) (unit worker : ℕ) (kept : Seen) (tape : List E) (e : E)
    (old new : List Reached) → work e ≡ Some (record { worker = worker; seen = kept }) → IsFollowed worker unit kept old new
    → All (λ p. unit < length p.at) old → AreFound work unit tape old → AreFound work unit (tape ++ e ∷ []) new
found_step work unit worker kept tape e old new is step known before = record {
  each = λ other. elim (cases_eq other worker) [
    | inl same ↦ subst (λ w. tape_shows work w (tape ++ e ∷ []) ≡ found_of new w unit) (sym same)
        (shown_more work worker tape e kept is ∙ (ap (λ l. l ++ kept ∷ []) (before.each worker)
        ∙ sym (followed_same worker unit kept old new step known)))
    | inr differ ↦ shown_other work worker other tape e kept is differ
        ∙ (before.each other ∙ sym (followed_other worker other unit kept old new step differ))
  ];
}

-- ---- nothing else changes

-- what is found of one unit leaves the others alone
further_refl : (unit : ℕ) (p : Reached) → IsFurther unit p p
further_refl unit p = record { same_items = refl; as_many = refl; others = λ v other. refl }

further_trans : (unit : ℕ) (p q r : Reached) → IsFurther unit p q → IsFurther unit q r → IsFurther unit p r
further_trans unit p q r first second = record {
  same_items = second.same_items ∙ first.same_items;
  as_many = second.as_many ∙ first.as_many;
  others = λ v other. second.others v other ∙ first.others v other;
}

further_step : (unit : ℕ) (old new : Reached) → IsAdvanced unit old new → IsFurther unit old new
further_step unit old new step = record {
  same_items = ap (λ p. p.items) step.changed;
  as_many = ap (λ p. length p.at) step.changed ∙ length-set old.at unit step.place;
  others = λ v other. ap (λ p. place_at p v) step.changed ∙ get_or-set_other old.at unit v step.place 0 other;
}

pub all_further : (unit : ℕ) (works : List Reached) → AreFurther unit works works
all_further unit works = record { as_many = refl; each = λ worker p. further_refl unit (get_or works worker p) }

pub all_further_step : (worker unit : ℕ) (kept : Seen) (first old new : List Reached) → AreFurther unit first old
    → IsFollowed worker unit kept old new → AreFurther unit first new
all_further_step worker unit kept first old new before step = record {
  as_many = ap length step.changed ∙ (length-set old worker step.after ∙ before.as_many);
  each = λ other p. elim (cases_eq other worker) [
    | inl same ↦ subst (λ w. IsFurther unit (get_or first w p) (get_or new w p)) (sym same)
        (subst (λ q. IsFurther unit (get_or first worker p) q)
        (sym (ap (λ l. get_or l worker p) step.changed
        ∙ get_or-set_same old worker step.after p (slice_get_within old worker step.before step.there)))
        (further_trans unit (get_or first worker p) step.before step.after
        (subst (λ q. IsFurther unit (get_or first worker p) q) (get_or_from_slice_get old worker step.before p step.there)
        (before.each worker p)) (further_step unit step.before step.after step.advanced)))
    | inr differ ↦ subst (λ q. IsFurther unit (get_or first other p) q)
        (sym (ap (λ l. get_or l other p) step.changed ∙ get_or-set_other old worker other step.after p differ))
        (before.each other p)
  ];
}

-- each worker has its units still
pub still_known : (unit : ℕ) (old new : List Reached) → AreFurther unit old new → All (λ p. unit < length p.at) old
    → All (λ p. unit < length p.at) new
still_known unit old new further known =
    let none : Reached = record { items = []; at = [] } in
    All-from_get_or (λ p. unit < length p.at) new none (λ i below.
    (let before = All-get_or (λ p. unit < length p.at) old i none (omega (arith, below, further.as_many)) known in
    let same = (further.each i none).as_many in omega (arith, before, same)))

-- the entry that is not its worker's next row
pub difference_at : {E : Type 0} (work : E → Option Shown) (unit worker place : ℕ) (kept told : Seen) (tape : List E)
    (e d : E) (first now : List Reached) → place < length tape → e ≡ get_or tape place d → work e ≡ Some (record { worker = worker; seen = kept })
    → AreFound work unit (take place tape) now → AreFurther unit first now
    → IsOtherDue now worker unit kept told → IsDifference work (due_of first unit) tape place kept told
difference_at work unit worker place kept told tape e d first now within is shows found_so further other = record {
  entry = e;
  worker = worker;
  there = slice_get-get_or tape place d within ∙ ap Some (sym is);
  shows = shows;
  before = λ w.
      subst (λ l. IsFirstPart l (due_of first unit w)) (sym (found_so.each w))
      (subst (IsFirstPart (found_of now w unit)) (due_same first now further.as_many (λ v p. (further.each v p).same_items) unit w)
      (found_of_first now unit w));
  told_is = other.told_is ∙ ap (λ o. unwrap_or o Nothing) (elim (slice_get_cases now worker).1 [
    | inl (p, below, there, got) ↦
        let count : length (tape_shows work worker (take place tape)) ≡ length (due unit (take (place_at p unit) p.items))
        = ap length (found_so.each worker ∙ ap (λ o. option_map_or (λ q. found q unit) o []) there) in
        ap (λ o. option_and_then (λ q. next_due q unit) o) there
        ∙ (sym (next_shown unit p.items (place_at p unit) ((other.next p there).there))
        ∙ (ap (λ n. slice_get (due unit p.items) n) (sym count)
        ∙ ap (λ l. slice_get l (length (tape_shows work worker (take place tape)))) (sym (rows p below got))))
    | inr (past, none) ↦
        ap (λ o. option_and_then (λ q. next_due q unit) o) none
        ∙ sym (ap (λ o. slice_get (option_map_or (λ q. due unit q.items) o []) (length (tape_shows work worker (take place tape))))
        (slice_get_past first worker (omega (arith, past, further.as_many))))
  ]);
  differ = other.differ;
}
  where
    rows : (p : Reached) → worker < length now → get_or now worker p ≡ p → due_of first unit worker ≡ due unit p.items
    rows p below got =
        ap (λ o. option_map_or (λ q. due unit q.items) o []) (slice_get-get_or first worker p (omega (arith, below, further.as_many)))
        ∙ ap (due unit) (sym ((further.each worker p).same_items) ∙ ap (λ q. q.items) got)

-- ---- one turn of a walk

-- what is found after one entry more
pub found_turn : {E : Type 0} (work : E → Option Shown) (unit place : ℕ) (tape : List E) (e : E) (shown : Option Shown)
    (old new : List Reached) → place < length tape → e ≡ get_or tape place e → shown ≡ work e
    → MatchOption shown (new ≡ old) (λ s. IsFollowed s.worker unit s.seen old new) → All (λ p. unit < length p.at) old
    → AreFound work unit (take place tape) old → AreFound work unit (take (place + 1) tape) new
found_turn work unit place tape e None old new within is shows same known before =
    subst (λ l. AreFound work unit l new)
    (ap (λ x. take place tape ++ x ∷ []) is ∙ sym (take_more tape place e within))
    (found_past work unit (take place tape) e new (sym shows)
    (subst (λ w. AreFound work unit (take place tape) w) (sym same) before))
found_turn work unit place tape e (Some s) old new within is shows step known before =
    subst (λ l. AreFound work unit l new)
    (ap (λ x. take place tape ++ x ∷ []) is ∙ sym (take_more tape place e within))
    (found_step work unit s.worker s.seen (take place tape) e old new (sym shows) step known before)

pub further_turn : (unit : ℕ) (shown : Option Shown) (first old new : List Reached)
    → MatchOption shown (new ≡ old) (λ s. IsFollowed s.worker unit s.seen old new) → AreFurther unit first old
    → AreFurther unit first new
further_turn unit None first old new same before = subst (AreFurther unit first) (sym same) before
further_turn unit (Some s) first old new step before = all_further_step s.worker unit s.seen first old new before step

-- why a walk ends at an entry
pub difference_turn : {E : Type 0} (work : E → Option Shown) (unit place : ℕ) (kept told : Seen) (tape : List E) (e : E)
    (shown : Option Shown) (first now : List Reached) → place < length tape → e ≡ get_or tape place e → shown ≡ work e
    → AreFound work unit (take place tape) now → AreFurther unit first now
    → IsSomeAnd shown (λ s. (kept ≡ s.seen) × IsOtherDue now s.worker unit kept told)
    → IsDifference work (due_of first unit) tape place kept told
difference_turn work unit place kept told tape e (Some s) first now within is shows found_so further (same, other) =
    difference_at work unit s.worker place kept told tape e e first now within is
    (sym shows ∙ ap (λ k. Some (record { worker = s.worker; seen = k })) (sym same)) found_so further other
difference_turn work unit place kept told tape e None first now within is shows found_so further none = absurd none

-- ---- other units

-- what was found at another unit stays
pub found_beside : {E : Type 0} (work : E → Option Shown) (unit other : ℕ) (tape : List E) (old new : List Reached)
    → AreFurther unit old new → other ≢ unit → AreFound work other tape old → AreFound work other tape new
found_beside work unit other tape old new further differ before = record {
  each = λ worker. before.each worker ∙ elim (slice_get_cases old worker).1 [
    | inl (p, below, there, got) ↦
        let q = get_or new worker p in
        let now = slice_get-get_or new worker p (omega (arith, below, further.as_many)) in
        let step = further.each worker p in
        let same : get_or old worker p ≡ p = got in
        let items : q.items ≡ p.items = step.same_items ∙ ap (λ r. r.items) same in
        let at : place_at q other ≡ place_at p other = step.others other differ ∙ ap (λ r. place_at r other) same in
        ap (λ o. option_map_or (λ r. found r other) o []) there
        ∙ (sym (ap (λ l. due other (take (place_at p other) l)) items)
        ∙ (sym (ap (λ n. due other (take n q.items)) at) ∙ sym (ap (λ o. option_map_or (λ r. found r other) o []) now)))
    | inr (past, none) ↦
        ap (λ o. option_map_or (λ r. found r other) o []) none
        ∙ sym (ap (λ o. option_map_or (λ r. found r other) o []) (slice_get_past new worker (omega (arith, past, further.as_many))))
  ];
}
