-- Places that are kept in a table, one at a time.
use Rattle.std.proofs.Common.{◌≡◌, ℕ, ◌+◌, ◌<◌, List, [], length, get_or, set, refl, sym, ap, subst, ◌∙◌, arith, Vec, Option, None, Some, Bool, true, false, cond, ◌&&◌, nat_eq}
use Rattle.std.specs.Prelude.{◌≢◌}
use Rattle.std.specs.List.{slice_get}
use Rattle.std.specs.Option.{option_or}
use Rattle.std.specs.declared.alloc.Global.{Global}
use Rattle.std.proofs.lemmas.Bool.{eqb-false, eqb-true}
use Rattle.std.proofs.lemmas.List.{get_or-map, length-map, map-set}
use Rattle.plant_status.specs.declared.unit.Unit.{Unit as UnitOf}
use Rattle.value_rows.specs.{Query}
use Rattle.tag_cell.specs.{TagHistory}
use Rattle.group_book.specs.{GroupHistory}
use Rattle.calc_refresh.specs.{lists_of}
use Rattle.session_report.specs.{Asker, ArePlaces, HasPlaceOfEach, IsAboutOther, IsQueryAbout, Table, is_about, kept_first, place_in, answer_place_of, query_in}
use Rattle.session_report.proofs.Filling.{kept_nothing}
use Rattle.session_report.proofs.Tables.{set_place, place_set, other_query, other_reader}

-- a list, of lists as the code keeps them
pub list_at : {A : Type 0} (vs : List (Vec A Global)) (i : ℕ) (v : Vec A Global) → i < length vs → v ≡ get_or vs i v
    → get_or (lists_of vs) i [] ≡ v.items
list_at vs i v within is = get_or-map (λ x. x.items) vs i v [] within ∙ ap (λ x. x.items) (sym is)

-- with another one in its place
pub lists_set : {A : Type 0} (vs : List (Vec A Global)) (i : ℕ) (v : Vec A Global) (xs : List A) → v.items ≡ xs
    → lists_of (set vs i v) ≡ set (lists_of vs) i xs
lists_set vs i v xs is = map-set (λ x. x.items) vs i v ∙ ap (set (lists_of vs) i) is

-- the table with the place of the query that someone asked, if it had none
abbrev pub with_place : Asker → ℕ → Table → ℕ → Table
with_place asker place table n = set_place table asker.reader n (option_or (place_in table asker.reader n) (Some place))

module _ (readers : List (List Query)) (its : UnitOf) (asker : Asker) (place : ℕ) (table : Table) where
  -- what is kept where a query has this place, and that is answered
  abbrev kept : Table → ℕ → ℕ → Bool → Type 0
  kept new r k answered = place_in new r k ≡ kept_first its (query_in readers r k) (place_in table r k)
      (cond answered (Some place) None)

  -- the place of an answer to another unit's query is not kept
  pub kept_none : IsAboutOther readers its asker → (r k : ℕ) → kept table r k (nat_eq asker.reader r && nat_eq asker.row (k + 1))
  kept_none other r k = by (nat_eq asker.reader r) (nat_eq asker.row (k + 1)) refl refl
    where
      by : (a b : Bool) → nat_eq asker.reader r ≡ a → nat_eq asker.row (k + 1) ≡ b → kept table r k (a && b)
      by false b one two = kept_nothing its (query_in readers r k) (place_in table r k)
      by true false one two = kept_nothing its (query_in readers r k) (place_in table r k)
      by true true one two =
          let not_about : is_about its (query_in readers r k) ≡ false =
          subst (λ n. is_about its (query_in readers n k) ≡ false) (eqb-true asker.reader r one)
          (other k (eqb-true asker.row (k + 1) two)) in
          sym (ap (λ c. cond c (option_or (place_in table r k) (Some place)) (place_in table r k)) not_about)

  -- that of an answer to a query of this unit is, where there is none
  pub kept_some : (n : ℕ) → HasPlaceOfEach readers table → IsQueryAbout readers its asker n → (r k : ℕ)
      → kept (with_place asker place table n) r k (nat_eq asker.reader r && nat_eq asker.row (k + 1))
  kept_some n shape is r k = by (nat_eq asker.reader r) (nat_eq asker.row (k + 1)) refl refl
    where
      x : Option ℕ
      x = option_or (place_in table asker.reader n) (Some place)

      in_table : asker.reader < length table
      in_table = omega (arith, is.reader, shape.as_many)

      in_row : n < length (get_or table asker.reader [])
      in_row = omega (arith, is.within, shape.rows asker.reader)

      here : kept (with_place asker place table n) asker.reader n true
      here = place_set table asker.reader n x in_table in_row ∙ sym (ap (λ c. cond c x (place_in table asker.reader n)) is.about)

      by : (a b : Bool) → nat_eq asker.reader r ≡ a → nat_eq asker.row (k + 1) ≡ b → kept (with_place asker place table n) r k (a && b)
      by true true one two =
          let row : asker.row ≡ k + 1 = eqb-true asker.row (k + 1) two in
          let number : n ≡ k = omega (arith, is.row, row) in
          subst (λ m. kept (with_place asker place table n) m k true) (eqb-true asker.reader r one)
          (subst (λ m. kept (with_place asker place table n) asker.reader m true) number here)
      by true false one two =
          let other : k ≢ n = λ same. eqb-false asker.row (k + 1) two (omega (arith, is.row, same)) in
          subst (λ m. kept (with_place asker place table n) m k false) (eqb-true asker.reader r one)
          (other_query table asker.reader n x k in_table other
          ∙ kept_nothing its (query_in readers asker.reader k) (place_in table asker.reader k))
      by false b one two =
          other_reader table asker.reader n x r k (λ same. eqb-false asker.reader r one (sym same))
          ∙ kept_nothing its (query_in readers r k) (place_in table r k)

-- the same of lists as the code keeps them: the reader's list is another one, which has the place
pub lists_kept : (vs : List (Vec (Option ℕ) Global)) (asker : Asker) (place n : ℕ) (old new : Vec (Option ℕ) Global)
    → asker.reader < length vs → old ≡ get_or vs asker.reader old
    → new.items ≡ set old.items n (option_or (get_or old.items n None) (Some place))
    → lists_of (set vs asker.reader new) ≡ with_place asker place (lists_of vs) n
lists_kept vs asker place n old new within is changed =
    lists_set vs asker.reader new (set (get_or (lists_of vs) asker.reader []) n (option_or (place_in (lists_of vs) asker.reader n) (Some place)))
    (changed ∙ ap (λ l. set l n (option_or (get_or l n None) (Some place))) (sym (list_at vs asker.reader old within is)))

-- ---- what was found for the queries of a reader

module _ (files : List (Vec Query Global)) (table : List (Vec (Option ℕ) Global)) (i : ℕ) (queries : Vec Query Global)
    (found : Vec (Option ℕ) Global) (shape : HasPlaceOfEach (lists_of files) (lists_of table)) (there : i < length files)
    (is_file : queries ≡ get_or files i queries) (is_row : found ≡ get_or table i found) where
  -- the lists of the reader
  file_at : get_or (lists_of files) i [] ≡ queries.items
  file_at = list_at files i queries there is_file

  row_at : get_or (lists_of table) i [] ≡ found.items
  row_at =
      let asked : Vec Query Global → List Query = λ v. v.items in
      let told : Vec (Option ℕ) Global → List (Option ℕ) = λ v. v.items in
      list_at table i found (omega (arith, there, shape.as_many, length-map files asked, length-map table told)) is_row

  -- there is a place for each query
  pub as_many_found : length found.items ≡ length queries.items
  as_many_found = sym (ap length row_at) ∙ shape.rows i ∙ ap length file_at

  -- and it is that of the answer
  pub found_at : (tags : List TagHistory) (groups : List GroupHistory) → ArePlaces (lists_of files) tags groups (lists_of table)
      → (k : ℕ) → get_or found.items k None ≡ answer_place_of tags groups i k (slice_get queries.items k)
  found_at tags groups are k = sym (ap (λ l. get_or l k None) row_at) ∙ are i k ∙ ap (λ l. answer_place_of tags groups i k (slice_get l k)) file_at
