-- What was found on tapes is the first of what is due.
use Rattle.std.proofs.Common.{◌≡◌, ℕ, ◌∙◌, inl, inr, List, [], length, get_or, take, drop, Option, None, Some, refl, sym, ap, subst, arith, append-nil}
use Rattle.std.specs.Prelude.{slice_get}
use Rattle.std.specs.Option.{option_map_or}
use Rattle.std.proofs.lemmas.Bool.{cases_lt}
use Rattle.std.proofs.lemmas.List.{take-append-drop}
use Rattle.std.proofs.lemmas.List.Elements.{filter_map-append}
use Rattle.std.proofs.lemmas.Option.{slice_get-get_or, slice_get_past}
use Rattle.session_audit.specs.{Item, Shown, IsFirstPart, Reached, due_of, found, found_of, place_at, tape_shows, AreOver, AreTapesBegun, AreTapesFound, AreTapesWhole, file_due}
use Rattle.session_audit.specs.Agendas.{due, numbered, seen_at}

-- of one worker
pub found_first : (p : Reached) (unit : ℕ) → IsFirstPart (found p unit) (due unit p.items)
found_first p unit = record {
  rest = due unit (drop (place_at p unit) p.items);
  is = ap (due unit) (sym (take-append-drop (place_at p unit) p.items))
      ∙ filter_map-append (seen_at unit) (take (place_at p unit) p.items) (drop (place_at p unit) p.items);
}

-- of a worker among others
pub found_of_first : (works : List Reached) (unit worker : ℕ) → IsFirstPart (found_of works worker unit) (due_of works unit worker)
found_of_first works unit worker = by (slice_get works worker)
  where
    by : (o : Option Reached) → IsFirstPart (option_map_or (λ p. found p unit) o []) (option_map_or (λ p. due unit p.items) o [])
    by None = record { rest = []; is = refl }
    by (Some p) = found_first p unit

-- what is due of a worker is the same as long as its rows are
pub due_same : (first now : List Reached) → length now ≡ length first
    → ((worker : ℕ) (p : Reached) → (get_or now worker p).items ≡ (get_or first worker p).items) → (unit worker : ℕ)
    → due_of now unit worker ≡ due_of first unit worker
due_same first now as_many items unit worker = elim (cases_lt worker (length first)) [
  | inl below ↦
      ap (λ o. option_map_or (λ p. due unit p.items) o []) (slice_get-get_or now worker none (omega (arith, below, as_many)))
      ∙ (ap (due unit) (items worker none)
      ∙ sym (ap (λ o. option_map_or (λ p. due unit p.items) o []) (slice_get-get_or first worker none below)))
  | inr past ↦
      ap (λ o. option_map_or (λ p. due unit p.items) o []) (slice_get_past now worker (omega (arith, past, as_many)))
      ∙ sym (ap (λ o. option_map_or (λ p. due unit p.items) o []) (slice_get_past first worker past))
]
  where
    none : Reached
    none = record { items = []; at = [] }

-- what is due of a worker by its progress is due by its file
pub due_of_file : {A : Type 0} (item_of : ℕ → ℕ → A → Option Item) (many : ℕ) (files : List (List A)) (works : List Reached)
    → AreOver item_of many files works → (worker unit : ℕ) → due_of works unit worker ≡ file_due item_of files worker unit
due_of_file item_of many files works over worker unit = elim (cases_lt worker (length files)) [
  | inl within ↦
      ap (λ o. option_map_or (λ (p : Reached). due unit p.items) o []) (slice_get-get_or works worker none (omega (arith, within, over.as_many)))
      ∙ (ap (due unit) (over.items worker [] none within)
      ∙ sym (ap (λ o. option_map_or (λ l. due unit (numbered (item_of worker) 1 l)) o []) (slice_get-get_or files worker [] within)))
  | inr past ↦
      ap (λ o. option_map_or (λ (p : Reached). due unit p.items) o []) (slice_get_past works worker (omega (arith, past, over.as_many)))
      ∙ sym (ap (λ o. option_map_or (λ l. due unit (numbered (item_of worker) 1 l)) o []) (slice_get_past files worker past))
]
  where
    none : Reached
    none = record { items = []; at = [] }

module _ {C E A : Type 0} (tape_of : C → List E) (work : E → Option Shown) (item_of : ℕ → ℕ → A → Option Item) where
  -- of all workers
  pub tapes_begun : (many : ℕ) (files : List (List A)) (units : List C) (works : List Reached) → AreOver item_of many files works
      → AreTapesFound tape_of work units works → AreTapesBegun tape_of work item_of files units
  tapes_begun many files units works over found_so = record {
    each = λ unit worker d below. subst (λ l. IsFirstPart l (file_due item_of files worker unit))
        (sym ((found_so.each unit d below).each worker))
        (subst (IsFirstPart (found_of works worker unit)) (due_of_file item_of many files works over worker unit)
        (found_of_first works unit worker));
  }

  -- where all was found
  pub whole_begun : (files : List (List A)) (units : List C) → AreTapesWhole tape_of work item_of files units
      → AreTapesBegun tape_of work item_of files units
  whole_begun files units whole = record {
    each = λ unit worker d below. record {
      rest = [];
      is = sym (append-nil (tape_shows work worker (tape_of (get_or units unit d))) ∙ whole.each unit worker d below);
    };
  }
