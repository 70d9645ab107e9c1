-- A book's history after a question, and after a refresh.
use Rattle.std.proofs.Common.{arith, ◌≡◌, ◌↔◌, ℕ, ◌<◌, ◌≤◌, All, Bool, true, false, List, [], ◌∷◌, ◌++◌, Contains, length, map, get_or, slice_get, Vec, Option, None, Some, IfSome, IsSome, option_and_then, nat_lt, ltb-true, ltb-false, refl}
use Rattle.std.proofs.Common.{sym, ap, ◌∙◌, subst, if◌then◌else◌}
use Rattle.std.specs.Option.{option_map}
use Rattle.std.specs.declared.alloc.Global.{Global}
use Rattle.std.proofs.lemmas.List.Elements.{All-cons, All-nil}
use Rattle.std.proofs.lemmas.Option.{slice_get-map}
use Rattle.trend_num.specs.{Rec, CalcValue}
use Rattle.disk_model.specs.{Trace}
use Rattle.calc_check.specs.Group.{Group}
use Rattle.calc_refresh.specs.{GroupDefParts, lists_of, grid_of}
use Rattle.sheet_law.specs.{Grid, IsScratch, column, values_at, complete_windows, longer}
use Rattle.group_layout.specs.{cell_of}
use Rattle.group_layout.proofs.RowsAdded.{cell_past}
use Rattle.group_book.specs.{Turn, GroupOpening, cut, saved_at, book_start, versions_since, book_walked, AreRowsOver, IsBookLegal, IsRight, NeverFall, is_due_since, scratch_at, IsBookSafe, StandsForOne, IsKept, Saved}
use Rattle.group_book.specs.declared.turn.Turn.TheVariants.{Refresh, Ask}
use Rattle.group_book.proofs.Columns.{same_cells}
use Rattle.group_book.proofs.Cuts.{cut-all, cut-longer, longer_rises, never_refl}
use Rattle.group_book.proofs.Turns.{contains_left, fit_longer, fit_push, right_back, saved-ask, saved-refresh, saved_rises, since-ask, since-refresh, since_rises, walk_rises, walked-push}

-- ---- a cell of rows from scratch

-- a cell whose column is known
cell_in : (row : Option (List CalcValue)) (value : Option CalcValue) (k : ℕ)
    → option_map (λ r. slice_get r k) row ≡ option_map Some value → option_and_then (λ r. slice_get r k) row ≡ value
cell_in None None k is = refl
cell_in None (Some v) k is = cc
cell_in (Some r) None k is = cc
cell_in (Some r) (Some v) k is = cc

-- rows that are from scratch in a window have the value from scratch there
pub cell_due : (g : Group) (w : Grid) (rss : List (List Rec)) (rows : List (List CalcValue)) (calc k : ℕ)
    → All (λ row. length row ≡ complete_windows w rss) rows
    → (k < complete_windows w rss → column k rows ≡ map Some (values_at g w rss k))
    → cell_of rows calc k ≡ scratch_at g w rss calc k
cell_due g w rss rows calc k windows values = go (nat_lt k (complete_windows w rss)) refl
  where
    go : (b : Bool) → nat_lt k (complete_windows w rss) ≡ b
        → cell_of rows calc k ≡ (if b then slice_get (values_at g w rss k) calc else None)
    go true low =
        cell_in (slice_get rows calc) (slice_get (values_at g w rss k) calc) k
        (sym (slice_get-map (λ row. slice_get row k) rows calc)
        ∙ ap (λ l. slice_get l calc) (values (ltb-true k (complete_windows w rss) low))
        ∙ slice_get-map Some (values_at g w rss k) calc)
    go false past = cell_past rows calc k (complete_windows w rss) windows (ltb-false k (complete_windows w rss) past)

-- rows from scratch have the value from scratch
pub cell_scratch : (g : Group) (w : Grid) (rss : List (List Rec)) (rows : List (List CalcValue)) (calc k : ℕ)
    → IsScratch g w rss rows → cell_of rows calc k ≡ scratch_at g w rss calc k
cell_scratch g w rss rows calc k scratch = cell_due g w rss rows calc k scratch.windows (scratch.values k)

-- ---- a question

module _ (g : Group) (grid : Grid) (o : GroupOpening) (tape : List Turn) (versions : List ℕ) (copies : List (List Rec))
    (rows : List (List CalcValue)) (legal : IsBookLegal g grid o tape versions copies rows) where
  -- the copies are cut to what they have
  cut_here : cut (book_walked (book_start o) tape).versions copies ≡ copies
  cut_here = ap (λ v. cut v copies) (sym legal.last ∙ legal.copied) ∙ cut-all copies

  -- the versions at the end are those of the copies
  pub at_end : (book_walked (book_start o) tape).versions ≡ map length copies
  at_end = sym legal.last ∙ legal.copied

  -- the opening is not above them
  pub opened_low : NeverFall o.versions.items (map length copies)
  opened_low = subst (NeverFall o.versions.items) at_end (walk_rises g grid o copies (book_start o) tape legal.turns)

  pub legal_asked : (reader row calc k : ℕ)
      → IsSome (cell_of rows calc k) ↔ ((calc < length g.calcs) × (k < complete_windows grid copies))
      → AreRowsOver g grid o copies rows
      → IsBookLegal g grid o (tape ++ Ask reader row calc k (cell_of rows calc k) ∷ []) versions copies rows
  legal_asked reader row calc k there over = record {
    turns = fit_push g grid o copies (book_start o) tape (Ask reader row calc k (cell_of rows calc k)) legal.turns (record {
      there = subst (λ rss. IsSome (cell_of rows calc k) ↔ ((calc < length g.calcs) × (k < complete_windows grid rss))) (sym cut_here) there;
      due = subst (λ rss. is_due_since grid o rss k ≡ true → cell_of rows calc k ≡ scratch_at g grid rss calc k) (sym cut_here)
          (λ due. cell_due g grid copies rows calc k over.windows (λ within. over.due k within due));
      others = subst (λ rss. is_due_since grid o rss k ≡ false → cell_of rows calc k ≡ cell_of (lists_of o.rows.items) calc k) (sym cut_here)
          (λ still. same_cells rows (lists_of o.rows.items) calc k (over.others k still));
      value = λ right. cell_scratch g grid copies rows calc k (legal.scratch right)
          ∙ ap (λ rss. scratch_at g grid rss calc k) (sym cut_here);
    });
    last = legal.last ∙ ap (λ w. w.versions) (sym (walked-push (book_start o) tape (Ask reader row calc k (cell_of rows calc k))));
    copied = legal.copied;
    scratch = legal.scratch;
  }

  -- ---- a refresh

  module _ (mores : List (List Rec)) (rows_after : List (List CalcValue)) (new : Vec ℕ Global)
      (new_are : new.items ≡ map length (longer copies mores))
      (scratch : IsScratch g grid copies rows → IsScratch g grid (longer copies mores) rows_after) where
    pub legal_refreshed : IsBookLegal g grid o (tape ++ Refresh new ∷ []) new.items (longer copies mores) rows_after
    legal_refreshed = record {
      turns = fit_push g grid o (longer copies mores) (book_start o) tape (Refresh new)
          (fit_longer g grid o copies mores (book_start o) tape opened_low
          (subst (λ v. NeverFall v (map length copies)) (sym at_end) (never_refl (map length copies))) legal.turns)
          (subst (NeverFall (book_walked (book_start o) tape).versions) (sym new_are)
          (subst (λ v. NeverFall v (map length (longer copies mores))) (sym at_end) (longer_rises copies mores)));
      last = ap (λ w. w.versions) (sym (walked-push (book_start o) tape (Refresh new)));
      copied = new_are;
      scratch = λ right. scratch (legal.scratch (right_back g grid o copies mores opened_low right));
    }

    -- what stood for one of the versions stands for it
    pub safe_refreshed : (text : List ℕ) (left : ℕ → List ℕ → Type 0) → IsBookSafe text g grid o copies tape left
        → IsBookSafe text g grid o (longer copies mores) (tape ++ Refresh new ∷ []) left
    safe_refreshed text left safe = record {
      images = λ t c since there.
          let one = safe.images t c since there in
          let list = versions_since t o.versions.items (o.versions.items ∷ []) tape in
          let low = subst (NeverFall (get_or list one.among.0 one.versions)) at_end
          (since_rises g grid o copies t (book_start o) (o.versions.items ∷ []) tape legal.turns
          (All-cons (λ v. NeverFall v o.versions.items) o.versions.items [] (never_refl o.versions.items)
          (All-nil (λ v. NeverFall v o.versions.items))) one.among.0 one.versions one.among.1) in
          let same : cut one.versions (longer copies mores) ≡ cut one.versions copies
          = cut-longer one.versions copies mores (subst (λ v. NeverFall v (map length copies)) one.among.2 low) in
          record {
            versions = one.versions;
            rows = one.rows;
            among = subst (λ l. Contains l one.versions) (sym (since-refresh t o.versions.items (o.versions.items ∷ []) tape new))
                (contains_left list (new.items ∷ []) one.versions one.among);
            stands = one.stands;
            rows_are = subst (λ rss. AreRowsOver g grid o rss one.rows) (sym same) one.rows_are;
            scratch = λ right. subst (λ rss. IsScratch g grid rss one.rows) (sym same)
                (one.scratch (right_back g grid o copies mores opened_low right));
          };
    }

-- the device keeps what it kept
pub kept_asked : (text : List ℕ) (def : GroupDefParts) (o : GroupOpening) (tape : List Turn) (copies : List (List Rec)) (saved : Saved)
    (failed : Bool) (trace : Option Trace) (ticks faults : ℕ) (reader row calc k : ℕ) (reply : Option CalcValue)
    → IsKept text def o tape copies saved failed trace ticks faults
    → IsKept text def o (tape ++ Ask reader row calc k reply ∷ []) copies saved failed trace ticks faults
kept_asked text def o tape copies saved failed trace ticks faults reader row calc k reply kept =
    grind (arith, saved-ask, walked-push)

pub safe_asked : (text : List ℕ) (g : Group) (grid : Grid) (o : GroupOpening) (copies : List (List Rec)) (tape : List Turn)
    (left : ℕ → List ℕ → Type 0) (reader row calc k : ℕ) (reply : Option CalcValue)
    → IsBookSafe text g grid o copies tape left → IsBookSafe text g grid o copies (tape ++ Ask reader row calc k reply ∷ []) left
safe_asked text g grid o copies tape left reader row calc k reply safe = record {
  images = λ t c since there.
      subst (λ l. StandsForOne text g grid o copies l c)
      (sym (since-ask t o.versions.items (o.versions.items ∷ []) tape reader row calc k reply)) (safe.images t c since there);
}

pub kept_refreshed : (text : List ℕ) (def : GroupDefParts) (o : GroupOpening) (tape : List Turn) (versions : List ℕ)
    (copies : List (List Rec)) (rows : List (List CalcValue)) (mores : List (List Rec)) (new : Vec ℕ Global) (saved : Saved)
    (failed : Bool) (trace : Option Trace) (ticks faults : ℕ)
    → IsBookLegal def.calcs (grid_of def.start def.period) o tape versions copies rows
    → IsKept text def o tape copies saved failed trace ticks faults
    → IsKept text def o (tape ++ Refresh new ∷ []) (longer copies mores) saved failed trace ticks faults
kept_refreshed text def o tape versions copies rows mores new saved failed trace ticks faults legal kept = record {
  shut = kept.shut;
  holds = kept.holds;
  range = kept.range;
  rows_are = subst (λ rss. AreRowsOver def.calcs (grid_of def.start def.period) o rss saved.rows)
      (sym (cut-longer saved.versions copies mores low)) kept.rows_are;
  scratch = λ right. subst (λ rss. IsScratch def.calcs (grid_of def.start def.period) rss saved.rows)
      (sym (cut-longer saved.versions copies mores low)) (kept.scratch (back right));
  versions = kept.versions ∙ sym (saved-refresh o.versions.items o.versions.items tape new);
  inputs = kept.inputs;
  number = subst (λ w. IfSome w.number (λ n. n ≡ saved.number)) (sym (walked-push (book_start o) tape (Refresh new))) kept.number;
  past = subst (λ w. w.moment ≤ ticks) (sym (walked-push (book_start o) tape (Refresh new))) kept.past;
  opened_before = kept.opened_before;
  faultless = kept.faultless;
  cause = kept.cause;
}
  where
    back : IsRight def.calcs (grid_of def.start def.period) o (longer copies mores)
        → IsRight def.calcs (grid_of def.start def.period) o copies
    back right = right_back def.calcs (grid_of def.start def.period) o copies mores
        (opened_low def.calcs (grid_of def.start def.period) o tape versions copies rows legal) right

    low : NeverFall saved.versions (map length copies)
    low = subst (λ v. NeverFall v (map length copies)) (sym kept.versions)
        (subst (NeverFall (saved_at o.versions.items o.versions.items tape))
        (at_end def.calcs (grid_of def.start def.period) o tape versions copies rows legal)
        (saved_rises def.calcs (grid_of def.start def.period) o copies (book_start o) o.versions.items tape legal.turns
        (never_refl o.versions.items)))
