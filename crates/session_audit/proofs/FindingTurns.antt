-- The tapes of units, gone over one after another. `tape_of` has the tape of a unit.
use Rattle.std.proofs.Common.{◌≡◌, ◌≢◌, ℕ, ◌+◌, ◌<◌, ◌≤◌, inl, inr, List, [], All, length, get_or, take, Option, Some, refl, sym, ap, subst, ◌∙◌, arith}
use Rattle.std.specs.Prelude.{slice_get}
use Rattle.std.specs.Option.{unwrap_or}
use Rattle.std.proofs.lemmas.Bool.{cases_eq}
use Rattle.std.proofs.lemmas.List.{get_or_default}
use Rattle.std.proofs.lemmas.List.Elements.{All-from_get_or, All-get_or}
use Rattle.std.proofs.lemmas.Option.{slice_get-get_or}
use Rattle.plant_status.specs.{Seen}
use Rattle.plant_status.specs.declared.mismatch.Seen.TheVariants.{Nothing}
use Rattle.session_audit.specs.{Item, Shown, AreFound, AreFurther, IsDifference, IsFirstPart, IsUnfound, Reached, due_of, found_of, place_at, tape_shows, AreOver, AreUnfound, AreSameRows, IsMismatchAt}
use Rattle.session_audit.specs.Agendas.{IsNext}
use Rattle.session_audit.proofs.Walking.{found_beside}
use Rattle.session_audit.proofs.Begun.{due_same, found_of_first}

-- the tapes of the first tags were gone over, and those after them were not
pub record AreFoundTo {C E : Type 0} (tape_of : C → List E) (work : E → Option Shown) (upto : ℕ) (cells : List C)
    (first now : List Reached) : Type 0 where
  pub same : AreSameRows first now
  pub units : (worker : ℕ) (p : Reached) → worker < length now → length (get_or now worker p).at ≡ length cells
  pub found : (tag : ℕ) (d : C) → tag < upto → AreFound work tag (tape_of (get_or cells tag d)) now
  pub unfound : (tag worker : ℕ) (p : Reached) → upto ≤ tag → tag < length cells → worker < length now
      → IsUnfound tag (get_or now worker p)

-- before the first tag
pub found_none : {C E : Type 0} (tape_of : C → List E) (work : E → Option Shown) (cells : List C) (works : List Reached)
    → AreUnfound (length cells) works → AreFoundTo tape_of work 0 cells works works
found_none tape_of work cells works unfound = record {
  same = record { as_many = refl; items = λ w p. refl; units = λ w p. refl };
  units = λ w p below. All-get_or (λ q. length q.at ≡ length cells) works w p below unfound.units;
  found = λ tag d below. absurd (omega (arith, below));
  unfound = λ tag w p from within below.
      All-get_or (λ q. (t : ℕ) → t < length cells → IsUnfound t q) works w p below unfound.each tag within;
}

-- what the walk over the next tag's tape asks
pub known_next : {C E : Type 0} (tape_of : C → List E) (work : E → Option Shown) (tag : ℕ) (cells : List C) (first now : List Reached)
    → AreFoundTo tape_of work tag cells first now → tag < length cells → All (λ p. tag < length p.at) now
known_next tape_of work tag cells first now so within =
    let none : Reached = record { items = []; at = [] } in
    All-from_get_or (λ p. tag < length p.at) now none (λ i below. omega (arith, within, so.units i none below))

pub unfound_next : {C E : Type 0} (tape_of : C → List E) (work : E → Option Shown) (tag : ℕ) (cells : List C) (first now : List Reached)
    → AreFoundTo tape_of work tag cells first now → tag < length cells → All (IsUnfound tag) now
unfound_next tape_of work tag cells first now so within =
    let none : Reached = record { items = []; at = [] } in
    All-from_get_or (IsUnfound tag) now none (λ i below. so.unfound tag i none (omega arith) within below)

-- rows that stay, though more of one unit's were found
rows_trans : (unit : ℕ) (first old new : List Reached) → AreSameRows first old → AreFurther unit old new → AreSameRows first new
rows_trans unit first old new before step = record {
  as_many = step.as_many ∙ before.as_many;
  items = λ w p. (step.each w p).same_items ∙ before.items w p;
  units = λ w p. (step.each w p).as_many ∙ before.units w p;
}

pub rows_after : {C E : Type 0} (tape_of : C → List E) (work : E → Option Shown) (tag : ℕ) (cells : List C) (first old new : List Reached)
    → AreFoundTo tape_of work tag cells first old → AreFurther tag old new → AreSameRows first new
rows_after tape_of work tag cells first old new so step = rows_trans tag first old new so.same step

-- one tag further
pub found_next_tag : {C E : Type 0} (tape_of : C → List E) (work : E → Option Shown) (tag : ℕ) (cells : List C) (c : C)
    (first old new : List Reached) → tag < length cells → c ≡ get_or cells tag c → AreFoundTo tape_of work tag cells first old
    → AreFurther tag old new → AreFound work tag (tape_of c) new → AreFoundTo tape_of work (tag + 1) cells first new
found_next_tag tape_of work tag cells c first old new within is so step here = record {
  same = rows_trans tag first old new so.same step;
  units = λ w p below. (step.each w p).as_many ∙ so.units w p (omega (arith, below, step.as_many));
  found = λ other d below. elim (cases_eq other tag) [
    | inl same ↦ subst (λ n. AreFound work n (tape_of (get_or cells n d)) new) (sym same)
        (subst (λ x. AreFound work tag (tape_of x) new) (is ∙ get_or_default cells tag c d within) here)
    | inr differ ↦ found_beside work tag other (tape_of (get_or cells other d)) old new step differ
        (so.found other d (omega (arith, below, differ)))
  ];
  unfound = λ other w p from below there.
      (let differ : other ≢ tag = λ same. omega (arith, from, same) in
      let before = so.unfound other w p (omega (arith, from)) below (omega (arith, there, step.as_many)) in
      let items : (get_or old w p).items ≡ (get_or new w p).items = sym (step.each w p).same_items in
      let at : place_at (get_or old w p) other ≡ place_at (get_or new w p) other = sym ((step.each w p).others other differ) in
      subst (λ n. IsNext other (get_or new w p).items 0 n) at (subst (λ l. IsNext other l 0 (place_at (get_or old w p) other)) items before));
}

-- an entry that is not its worker's next row, by the rows as they were at first
pub mismatch_here : {C E : Type 0} (tape_of : C → List E) (work : E → Option Shown) (tag place : ℕ) (kept told : Seen) (cells : List C)
    (c : C) (first now : List Reached) → tag < length cells → c ≡ get_or cells tag c → AreFoundTo tape_of work tag cells first now
    → IsDifference work (due_of now tag) (tape_of c) place kept told → IsMismatchAt tape_of work cells first tag place kept told
mismatch_here tape_of work tag place kept told cells c first now within is so d = record {
  one = c;
  there = slice_get-get_or cells tag c within ∙ ap Some (sym is);
  differs = record {
    entry = d.entry;
    worker = d.worker;
    there = d.there;
    shows = d.shows;
    before = λ w. subst (IsFirstPart (tape_shows work w (take place (tape_of c)))) (rows tag w) (d.before w);
    told_is = d.told_is ∙ ap (λ l. unwrap_or (slice_get l (length (tape_shows work d.worker (take place (tape_of c))))) Nothing) (rows tag d.worker);
    differ = d.differ;
  };
  front = λ k worker e before.
      subst (λ l. IsFirstPart l (due_of first k worker)) (sym ((so.found k e before).each worker))
      (subst (IsFirstPart (found_of now worker k)) (rows k worker) (found_of_first now k worker));
}
  where
    rows : (unit worker : ℕ) → due_of now unit worker ≡ due_of first unit worker
    rows = due_same first now so.same.as_many so.same.items

-- progress over files is over them still
pub over_same : {A : Type 0} (item_of : ℕ → ℕ → A → Option Item) (tags : ℕ) (files : List (List A)) (old new : List Reached)
    → AreSameRows old new → AreOver item_of tags files old → AreOver item_of tags files new
over_same item_of tags files old new same over = record {
  few = over.few;
  as_many = same.as_many ∙ over.as_many;
  items = λ w rows p below. same.items w p ∙ over.items w rows p below;
  units = λ w p below. same.units w p ∙ over.units w p (omega (arith, below, same.as_many));
}
