-- Books that get all records of their tags.
use Rattle.std.proofs.Common.{◌≡◌, ℕ, zero, suc, ◌<◌, ◌≤◌, Bool, true, false, List, [], ◌∷◌, length, get_or, Option, Some, None, refl, sym, ap, ap₂, subst, ltb-true, ltb-false, ◌∙◌, arith}
use Rattle.std.specs.Prelude.{◌*◌, nat_lt, if◌then◌else◌}
use Rattle.std.proofs.lemmas.List.{get_or-map, length-map, length-take}
use Rattle.trend_num.specs.{Rec}
use Rattle.calc_check.specs.Group.{Group}
use Rattle.calc_refresh.specs.{SheetNo, total_length, fault_after, limit_fault, most_cells, most_copies, grid_of}
use Rattle.calc_refresh.specs.declared.refusal.SheetNo.TheVariants as sheet
use Rattle.calc_refresh.proofs.Applying.{limits_hold}
use Rattle.sheet_law.specs.{longer, complete_windows}
use Rattle.group_book.specs.{RefreshNo, Turn, IsListsRefusal, lists_at, IsBookToldOf, cut, uncut, IsPublished, ToldBook, versions_of}
use Rattle.group_book.specs.declared.refusal.RefreshNo.TheVariants.{Ahead, CellLimit, CopyLimit, WantOfMemory}
use Rattle.group_book.proofs.InputLists.{longer-uncut}
use Rattle.store_commands.specs.{IsCutBook, IsOverIn, IsRefreshedOnce, book_cells}

-- the first records of lists, and those after them, are the lists
whole_book : {D : Type 0} (records : List (List Rec)) (b : ToldBook D) → IsCutBook records b → length b.tags ≡ length b.sheet.copies
    → longer b.sheet.copies (uncut (versions_of b) (lists_at records b.tags)) ≡ lists_at records b.tags
whole_book records b so inputs =
    ap (λ l. longer l (uncut (versions_of b) (lists_at records b.tags))) so.copies
    ∙ longer-uncut (versions_of b) (lists_at records b.tags)
    (length-map b.tags (λ tag. get_or records tag []) ∙ inputs ∙ sym (length-map b.sheet.copies length))

-- a book into which all was taken
pub refreshed_once : {D : Type 0} (records : List (List Rec)) (old new : ToldBook D) → IsCutBook records old
    → old.sheet.group ≡ old.def.calcs → old.sheet.grid ≡ grid_of old.def.start old.def.period
    → length old.tags ≡ length old.sheet.copies → IsPublished (uncut (versions_of old) (lists_at records old.tags)) old new
    → IsRefreshedOnce records old new
refreshed_once records old new so group grid inputs published = record {
  copies = copies;
  within =
      let fits = limits_hold (complete_windows new.sheet.grid new.sheet.copies * length new.sheet.group.calcs)
      (total_length new.sheet.copies) published.refreshed.within in
      let cells : complete_windows new.sheet.grid new.sheet.copies * length new.sheet.group.calcs
      ≡ book_cells old.def (lists_at records old.tags)
      = ap₂ (λ w (x : Group). complete_windows w new.sheet.copies * length x.calcs) (published.refreshed.grid ∙ grid)
      (published.refreshed.group ∙ group)
      ∙ ap (λ l. complete_windows (grid_of old.def.start old.def.period) l * length old.def.calcs.calcs) copies in
      record { few_cells = omega (arith, cells, fits.0); few_copies = omega (arith, ap total_length copies, fits.1) };
  changed = published.changed
      ∙ ap (λ (t : List Turn). record old { tape = t; sheet = new.sheet }) (sym (ap (λ b. b.tape) published.changed));
}
  where
    copies : new.sheet.copies ≡ lists_at records old.tags
    copies = published.refreshed.copies ∙ whole_book records old so inputs

-- ---- a refusal

-- what is cut of lists has no more than they
cut_within : (vs : List ℕ) (rss : List (List Rec)) (i : ℕ) → length (get_or (cut vs rss) i []) ≤ length (get_or rss i [])
cut_within [] rss i = omega arith
cut_within (v ∷ vs) [] i = omega arith
cut_within (v ∷ vs) (rs ∷ rss) zero = omega (arith, length-take v rs)
cut_within (v ∷ vs) (rs ∷ rss) (suc i) = cut_within vs rss i

-- so no version is above its list
none_ahead : {D : Type 0} (records : List (List Rec)) (b : ToldBook D) (i : ℕ) → IsCutBook records b → i < length b.sheet.copies
    → get_or (versions_of b) i 0 ≤ length (get_or (lists_at records b.tags) i [])
none_ahead records b i so within =
    let version = get_or-map length b.sheet.copies i [] 0 within in
    let first = ap (λ l. length (get_or l i [])) so.copies in
    omega (arith, version, first, cut_within (versions_of b) (lists_at records b.tags) i)

-- a limit that is told was passed, and copies are told only where cells are not too many
over_of : (cells : ℕ) (recovered : List (List Rec)) (fault : Option SheetNo) (reason : RefreshNo)
    → fault ≡ limit_fault cells (total_length recovered) → IsBookToldOf fault reason → IsOverIn cells recovered reason
over_of cells recovered fault reason same told =
    by (nat_lt most_cells cells) (nat_lt most_copies (total_length recovered)) refl refl reason
    (subst (λ f. IsBookToldOf f reason) same told)
  where
    by : (b d : Bool) → nat_lt most_cells cells ≡ b → nat_lt most_copies (total_length recovered) ≡ d → (why : RefreshNo)
        → IsBookToldOf (if b then Some (sheet.CellLimit cells)
        else (if d then Some (sheet.CopyLimit (total_length recovered)) else None)) why → IsOverIn cells recovered why
    by b d above many (Ahead input version records) is = absurd is
    by b d above many WantOfMemory is = tt
    by true d above many (CellLimit n) is =
        let number : cells ≡ n = cc (is) in
        (sym number, subst (λ m. most_cells < m) number (ltb-true most_cells cells above))
    by false true above many (CellLimit n) is = absurd (cc (is))
    by false false above many (CellLimit n) is = absurd (cc (is))
    by true d above many (CopyLimit n) is = absurd (cc (is))
    by false true above many (CopyLimit n) is =
        let number : total_length recovered ≡ n = cc (is) in (
          ltb-false most_cells cells above,
          sym number,
          subst (λ m. most_copies < m) number (ltb-true most_copies (total_length recovered) many),
        )
    by false false above many (CopyLimit n) is = absurd (cc (is))

-- a book that is refused would have come to too much
pub over_once : {D : Type 0} (records : List (List Rec)) (b : ToldBook D) (reason : RefreshNo) → IsCutBook records b
    → b.sheet.group ≡ b.def.calcs → b.sheet.grid ≡ grid_of b.def.start b.def.period
    → length b.tags ≡ length b.sheet.copies → IsListsRefusal (lists_at records b.tags) b reason
    → IsOverIn (book_cells b.def (lists_at records b.tags)) (lists_at records b.tags) reason
over_once {D} records b reason so group grid inputs refused = by reason refused
  where
    same : fault_after b.sheet (uncut (versions_of b) (lists_at records b.tags))
        ≡ limit_fault (book_cells b.def (lists_at records b.tags)) (total_length (lists_at records b.tags))
    same =
        ap (λ l. limit_fault (complete_windows b.sheet.grid l * length b.sheet.group.calcs) (total_length l)) (whole_book records b so inputs)
        ∙ ap₂ (λ w (x : Group). limit_fault (complete_windows w (lists_at records b.tags) * length x.calcs) (total_length (lists_at records b.tags)))
        grid group

    by : (why : RefreshNo) → IsListsRefusal (lists_at records b.tags) b why
        → IsOverIn (book_cells b.def (lists_at records b.tags)) (lists_at records b.tags) why
    by (Ahead input version found) is =
        absurd (omega (
          arith,
          is.1,
          is.2,
          is.3,
          none_ahead records b input so (omega (arith, is.0, inputs, length-map b.tags (λ tag. get_or records tag []))),
        ))
    by (CellLimit n) is = over_of _ _ _ (CellLimit n) same is
    by (CopyLimit n) is = over_of _ _ _ (CopyLimit n) same is
    by WantOfMemory is = tt
