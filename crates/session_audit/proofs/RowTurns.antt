-- A row that a tape lacks, once its call has left the entry.
use Rattle.std.proofs.Common.{◌≡◌, ◌≢◌, ℕ, ◌+◌, ◌<◌, ◌≤◌, inl, inr, true, false, nat_le, List, [], ◌∷◌, ◌++◌, All, length, get_or, set, Option, None, Some, refl, sym, ap, subst, ◌∙◌, arith}
use Rattle.std.specs.Prelude.{slice_get}
use Rattle.std.specs.Option.{option_map_or}
use Rattle.std.proofs.lemmas.Bool.{cases_eq, cases_lt}
use Rattle.std.proofs.lemmas.Bool.Decides.{nat_tests}
use Rattle.std.proofs.lemmas.List.{get_or-set_same, get_or-set_other, length-set}
use Rattle.std.proofs.lemmas.List.Elements.{All-from_get_or}
use Rattle.std.proofs.lemmas.Option.{get_or_from_slice_get, slice_get_within}
use Rattle.plant_status.specs.{Seen}
use Rattle.session_audit.specs.{Item, Shown, AreFound, IsAdvanced, IsCaughtUp, IsFollowed, Reached, lacks, next_due, place_at, AreOthersSame, AreTapesFound, IsOver}
use Rattle.session_audit.specs.Agendas.{IsNext}
use Rattle.session_audit.proofs.Catching.{caught_due, caught_here, lacks_some}
use Rattle.session_audit.proofs.Numbers.{length-numbered}
use Rattle.session_audit.proofs.Walking.{all_further, all_further_step, followed_here, found_beside, found_step}

-- a unit has one entry more on its tape; `tape_of` has the tape
pub record HasEntry {C E : Type 0} (tape_of : C → List E) (tag : ℕ) (e : E) (old new : List C) : Type 0 where
  pub before : C
  pub after : C
  pub there : slice_get old tag ≡ Some before
  pub tape : tape_of after ≡ tape_of before ++ e ∷ []
  pub changed : new ≡ set old tag after

-- a worker's row at a place is due at a tag, and lacks there; none before it lacks
pub record IsMissing (worker place tag : ℕ) (seen : Seen) (works : List Reached) (p : Reached) : Type 0 where
  pub there : worker < length works
  pub is : p ≡ get_or works worker p
  pub item : get_or p.items place None ≡ Some (record { unit = tag; seen = seen })
  pub within : place < length p.items
  pub missing : lacks p place ≡ true
  pub next : IsNext tag p.items (place_at p tag) (place_at p tag)
  pub known : tag < length p.at
  pub caught : IsCaughtUp place p

-- its row is the next one at the tag
stands : (worker place tag : ℕ) (seen : Seen) (works : List Reached) (p : Reached)
    → IsMissing worker place tag seen works p → place_at p tag ≡ place
stands worker place tag seen works p m =
    caught_here p place (record { unit = tag; seen = seen }) m.caught m.within m.item m.missing m.next

-- so it is due next
pub due_next : (worker place tag : ℕ) (seen : Seen) (works : List Reached) (p : Reached)
    → IsMissing worker place tag seen works p → next_due p tag ≡ Some seen
due_next worker place tag seen works p m =
    caught_due p place (record { unit = tag; seen = seen }) m.item (stands worker place tag seen works p m)

-- the worker's row was found at the tag
followed : (worker place tag : ℕ) (seen : Seen) (works : List Reached) (p q : Reached)
    → IsMissing worker place tag seen works p → IsAdvanced tag p q → IsFollowed worker tag seen works (set works worker q)
followed worker place tag seen works p q m step =
    followed_here works worker tag seen p p q m.there
    (ap (λ r. next_due r tag) (sym m.is) ∙ due_next worker place tag seen works p m) (subst (λ r. IsAdvanced tag r q) m.is step)

-- so none of the rows up to it lacks any more
pub caught_more : (worker place tag : ℕ) (seen : Seen) (works : List Reached) (p q : Reached)
    → IsMissing worker place tag seen works p → IsAdvanced tag p q → IsCaughtUp (place + 1) q
caught_more worker place tag seen works p q m step i below =
    subst (λ r. lacks r i ≡ false) (sym step.changed) (of (get_or p.items i None) refl)
  where
    now : Reached
    now = record p { at = set p.at tag step.place }

    none : i < step.place → nat_le step.place i ≡ false
    none h = grind (arith, nat_tests, h)

    -- the row at that place is due at the tag
    here : (item : Item) → get_or p.items i None ≡ Some item → place ≤ i → item.unit ≡ tag
    here item is from =
        let same : place ≡ i = omega (arith, below, from) in
        ap (λ o. option_map_or (λ x. x.unit) o 0) (sym is ∙ (ap (λ n. get_or p.items n None) (sym same) ∙ m.item))

    of : (o : Option Item) → get_or p.items i None ≡ o → lacks now i ≡ false
    of None is = rw is refl
    of (Some item) is = elim (cases_eq item.unit tag) [
      | inl same ↦ lacks_some now i item is ∙ (ap (λ u. nat_le (place_at now u) i) same
          ∙ (ap (λ n. nat_le n i) (get_or-set_same p.at tag step.place 0 m.known)
          ∙ none (omega (arith, below, step.is_next.order, stands worker place tag seen works p m))))
      | inr differ ↦ lacks_some now i item is
          ∙ (ap (λ n. nat_le n i) (get_or-set_other p.at tag item.unit step.place 0 differ)
          ∙ (sym (lacks_some p i item is) ∙ elim (cases_lt i place) [
            | inl before ↦ m.caught i before
            | inr from ↦ absurd (differ (here item is from))
          ]))
    ]

-- what is found on all tapes with the entry that the row's call left
pub found_turn : {C E : Type 0} (tape_of : C → List E) (work : E → Option Shown) (worker place tag : ℕ) (seen : Seen) (e : E)
    (old new : List C) (works : List Reached) (p q : Reached) → IsMissing worker place tag seen works p
    → IsAdvanced tag p q → work e ≡ Some (record { worker = worker; seen = seen }) → HasEntry tape_of tag e old new
    → All (λ r. tag < length r.at) works → AreTapesFound tape_of work old works
    → AreTapesFound tape_of work new (set works worker q)
found_turn {C = C} tape_of work worker place tag seen e old new works p q m step shows has known before = record {
  each = λ other d below. elim (cases_eq other tag) [
    | inl same ↦ subst (λ n. AreFound work n (tape_of (get_or new n d)) (set works worker q)) (sym same)
        (subst (λ l. AreFound work tag l (set works worker q)) (sym (here d))
        (found_step work tag worker seen (tape_of has.before) e works (set works worker q) shows
        (followed worker place tag seen works p q m step) known
        (subst (λ c. AreFound work tag (tape_of c) works) (get_or_from_slice_get old tag has.before d has.there)
        (before.each tag d within))))
    | inr differ ↦ subst (λ c. AreFound work other (tape_of c) (set works worker q)) (sym (there other d differ))
        (found_beside work tag other (tape_of (get_or old other d)) works (set works worker q)
        (all_further_step worker tag seen works works (set works worker q) (all_further tag works)
        (followed worker place tag seen works p q m step)) differ
        (before.each other d (omega (arith, below, size))))
  ];
}
  where
    within : tag < length old
    within = slice_get_within old tag has.before has.there

    size : length new ≡ length old
    size = ap length has.changed ∙ length-set old tag has.after

    here : (d : C) → tape_of (get_or new tag d) ≡ tape_of has.before ++ e ∷ []
    here d = ap (λ l. tape_of (get_or l tag d)) has.changed ∙ (ap tape_of (get_or-set_same old tag has.after d within) ∙ has.tape)

    there : (other : ℕ) (d : C) → other ≢ tag → get_or new other d ≡ get_or old other d
    there other d differ = ap (λ l. get_or l other d) has.changed ∙ get_or-set_other old tag other has.after d differ

-- ---- what a turn leaves

-- the progress of the other workers
pub others_stay : (worker : ℕ) (works : List Reached) → AreOthersSame worker works works
others_stay worker works = record { as_many = refl; same = λ w p differ. refl }

pub others_trans : (worker : ℕ) (a b c : List Reached) → AreOthersSame worker a b → AreOthersSame worker b c
    → AreOthersSame worker a c
others_trans worker a b c first second = record {
  as_many = second.as_many ∙ first.as_many;
  same = λ w p differ. second.same w p differ ∙ first.same w p differ;
}

-- each worker has so many units
pub all_known : {A : Type 0} (item_of : ℕ → ℕ → A → Option Item) (tags worker tag : ℕ) (rows : List A) (works : List Reached)
    → IsOver item_of tags worker rows works → tag < tags → All (λ r. tag < length r.at) works
all_known item_of tags worker tag rows works over below =
    let none : Reached = record { items = []; at = [] } in
    All-from_get_or (λ r. tag < length r.at) works none (λ i within. omega (arith, below, over.units i none within))

-- there is a row at each place of a file
pub row_within : {A : Type 0} (item_of : ℕ → ℕ → A → Option Item) (tags worker place : ℕ) (rows : List A)
    (works : List Reached) (d : Reached) → IsOver item_of tags worker rows works → place < length rows
    → place < length (get_or works worker d).items
row_within item_of tags worker place rows works d over within =
    omega (arith, within, ap length (over.items d) ∙ length-numbered (item_of worker) 1 rows)
