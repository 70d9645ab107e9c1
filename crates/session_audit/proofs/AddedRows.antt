-- A row that a tape lacks, by the rows of its file.
use Rattle.std.proofs.Common.{◌≡◌, ℕ, ◌+◌, ◌<◌, List, length, get_or, set, None, Some, IfSome, Option, refl, sym, ap, subst, ◌∙◌}
use Rattle.std.specs.Prelude.{IsSome}
use Rattle.std.proofs.lemmas.List.{get_or-set_same, get_or_default, length-set}
use Rattle.std.proofs.lemmas.Option.{slice_get-get_or}
use Rattle.plant_status.specs.{Seen}
use Rattle.session_audit.specs.{Item, Shown, IsAdded, IsLacking, IsStopped, Reached, IsCaughtTo, IsOver}
use Rattle.session_audit.proofs.Numbers.{numbered_at}
use Rattle.session_audit.proofs.RowTurns.{HasEntry, IsMissing, due_next, row_within}

module _ {A : Type 0} (item_of : ℕ → ℕ → A → Option Item) (many worker place unit : ℕ) (rows : List A) (works : List Reached) (d : Reached)
    (over : IsOver item_of many worker rows works) (within : place < length rows) (lack : IsLacking (get_or works worker d) place unit) where
  -- there is that unit
  pub row_known : unit < many
  row_known = subst (λ n. unit < n) (over.units worker d over.there) lack.known

  -- the row is due there
  pub row_due : (row : A) → row ≡ get_or rows place row → item_of worker (place + 1) row ≡ Some (record { unit = unit; seen = lack.due.seen })
  row_due row is =
      ap (item_of worker (place + 1)) is ∙ sym (numbered_at (item_of worker) 1 rows place row None within)
      ∙ ap (λ l. get_or l place None) (sym (over.items d)) ∙ lack.due.is

  -- none before it lacks
  pub row_missing : (e : Reached) → IsCaughtTo place worker works → IsMissing worker place unit lack.due.seen works (get_or works worker e)
  row_missing e caught =
      subst (IsMissing worker place unit lack.due.seen works) (get_or_default works worker d e over.there) (record {
        there = over.there;
        is = get_or_default works worker d (get_or works worker d) over.there;
        item = lack.due.is;
        within = row_within item_of many worker place rows works d over within;
        missing = lack.missing;
        next = lack.next;
        known = lack.known;
        caught = caught d;
      })

  -- where nothing is added for it
  pub row_stopped : {C N : Type 0} (refuses : C → N → Type 0) (units : List C) (one : C) (why : N) → IsCaughtTo place worker works
      → unit < length units → refuses one why → IsStopped refuses (set units unit one) works unit why
  row_stopped refuses units one why caught known refused = record {
    one = one;
    there = slice_get-get_or (set units unit one) unit one (subst (λ n. unit < n) (sym (length-set units unit one)) known)
        ∙ ap Some (get_or-set_same units unit one one known);
    refused = refused;
    worker = worker;
    working = over.there;
    due = λ p. subst (λ o. IsSome o) (sym (due_next worker place unit lack.due.seen works (get_or works worker p) (row_missing p caught))) refl;
  }

-- a unit has the entry that was added
pub added_entry : {C E : Type 0} (tape_of : C → List E) (shows : E → Option Shown) (worker unit : ℕ) (units : List C) (d new : C)
    (item : Option Item) (a : IsAdded tape_of shows worker item (get_or units unit d) new) → unit < length units
    → HasEntry tape_of unit a.entry units (set units unit new)
added_entry tape_of shows worker unit units d new item a within = record {
  before = get_or units unit d;
  after = new;
  there = slice_get-get_or units unit d within;
  tape = a.tape;
  changed = refl;
}

-- it shows the row
pub added_shows : {C E : Type 0} (tape_of : C → List E) (shows : E → Option Shown) (worker unit : ℕ) (seen : Seen) (old new : C)
    (item : Option Item) (a : IsAdded tape_of shows worker item old new) → item ≡ Some (record { unit = unit; seen = seen })
    → shows a.entry ≡ Some (record { worker = worker; seen = seen })
added_shows tape_of shows worker unit seen old new item a is =
    subst (λ o. IfSome o (λ i. shows a.entry ≡ Some (record { worker = worker; seen = i.seen }))) is a.shown
