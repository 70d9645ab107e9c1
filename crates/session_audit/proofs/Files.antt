-- The files of all workers, one after another.
use Rattle.std.proofs.Common.{◌∷◌, ◌+◌, nat_eq, take, ◌++◌, ◌≡◌, ℕ, ◌<◌, ◌≤◌, inl, inr, List, [], All, length, get_or, Option, Vec, sym, ap, subst, ◌∙◌, arith}
use Rattle.std.specs.declared.alloc.Global.{Global}
use Rattle.std.specs.Option.{option_map_or}
use Rattle.std.proofs.lemmas.Bool.{cases_eq, cases_lt}
use Rattle.std.proofs.lemmas.List.{map_more, get_or-map, get_or_default, length-map}
use Rattle.std.proofs.lemmas.List.Elements.{All-get_or, All-map}
use Rattle.std.proofs.lemmas.Option.{slice_get-get_or, slice_get_past}
use Rattle.std.specs.List.{count_by}
use Rattle.value_rows.specs.{RawRow, Query}
use Rattle.session_audit.specs.{tag_rows, Item, Shown, IsCaughtUp, Reached, found, found_of, IsKnownAsk, AreOthersSame, AreOver, AreTapesFound, AreTapesWhole, IsCaughtTo, IsOver, file_due}
use Rattle.value_rows.specs.declared.asked.Query.TheVariants as query
use Rattle.calc_refresh.specs.{lists_of}
use Rattle.collector_pool.specs.{IsQueryOf}
use Rattle.session_audit.specs.Agendas.{due, numbered}
use Rattle.session_audit.proofs.Catching.{caught_whole}
use Rattle.session_audit.proofs.Numbers.{length-numbered}

-- the rows of a file
pub file_at : {A : Type 0} (files : List (Vec A Global)) (i : ℕ) (v : Vec A Global) (d : List A) → i < length files
    → v ≡ get_or files i v → v.items ≡ get_or (lists_of files) i d
file_at files i v d within is =
    ap (λ (w : Vec _ Global). w.items) is ∙ sym (get_or-map (λ (w : Vec _ Global). w.items) files i v d within)

-- there are as many
pub file_within : {A : Type 0} (files : List (Vec A Global)) (i : ℕ) → i < length files → i < length (lists_of files)
file_within files i within = omega (arith, within, length-map files (λ (w : Vec _ Global). w.items))

-- what is so of each file is so of each list of rows
pub each_file : {A : Type 0} (P : List A → Type 0) (files : List (Vec A Global)) → All (λ v. P v.items) files
    → All P (lists_of files)
each_file {A = A} P files each = All-map {X = List A} P (λ (v : Vec A Global). v.items) files each

-- these are the rows of a file that there is
pub record IsFile {A : Type 0} (files : List (List A)) (worker : ℕ) (rows : List A) : Type 0 where
  pub within : worker < length files
  pub are : rows ≡ get_or files worker []

-- so are those that were read there
pub file_read : {A : Type 0} (files : List (Vec A Global)) (worker : ℕ) (v : Vec A Global) (rows : List A) → worker < length files
    → v ≡ get_or files worker v → rows ≡ v.items → IsFile (lists_of files) worker rows
file_read files worker v rows within is read = record {
  within = file_within files worker within;
  are = read ∙ file_at files worker v [] within is;
}

-- what is known of the rows of all files is known of those of one, where there are as many units still
pub known_file : {A : Type 0} {worker : ℕ} {rows : List A} (P : ℕ → A → Type 0) (many more : ℕ) (files : List (Vec A Global))
    → more ≡ many → All (λ v. All (P many) v.items) files → IsFile (lists_of files) worker rows → All (P more) rows
known_file {worker = worker} {rows = rows} P many more files same each file =
    subst (λ n. All (P n) rows) (sym same)
    (subst (All (P many)) (sym file.are)
    (All-get_or (All (P many)) (lists_of files) worker [] file.within (each_file (All (P many)) files each)))

-- the progress of one worker is over the rows of its file
pub over_file : {A : Type 0} (item_of : ℕ → ℕ → A → Option Item) (many : ℕ) (files : List (List A)) (works : List Reached)
    (worker : ℕ) (rows : List A) → AreOver item_of many files works → IsFile files worker rows → IsOver item_of many worker rows works
over_file item_of many files works worker rows over file = record {
  there = omega (arith, file.within, over.as_many);
  items = λ p. over.items worker [] p file.within ∙ ap (numbered (item_of worker) 1) (sym file.are);
  units = λ w p below. over.units w p below;
}

-- so all are still, once one of them has gone on
pub over_again : {A : Type 0} (item_of : ℕ → ℕ → A → Option Item) (many more : ℕ) (files : List (List A))
    (old new : List Reached) (worker : ℕ) (rows : List A) → AreOver item_of many files old → IsFile files worker rows
    → IsOver item_of more worker rows new → AreOthersSame worker old new → AreOver item_of more files new
over_again item_of many more files old new worker rows over file one others = record {
  few = over.few;
  as_many = others.as_many ∙ over.as_many;
  items = λ w e p below. elim (cases_eq w worker) [
    | inl same ↦ subst (λ n. (get_or new n p).items ≡ numbered (item_of n) 1 (get_or files n e)) (sym same)
        (one.items p ∙ ap (numbered (item_of worker) 1) (file.are ∙ get_or_default files worker [] e file.within))
    | inr differ ↦ ap (λ r. r.items) (others.same w p differ) ∙ over.items w e p below
  ];
  units = λ w p below. one.units w p below;
}

-- none of the rows of the first files lacks, once the next one is caught up
pub caught_file : {A : Type 0} (files : List (List A)) (old new : List Reached) (worker : ℕ) (rows : List A) → IsFile files worker rows
    → ((w : ℕ) → w < worker → IsCaughtTo (length (get_or files w [])) w old) → IsCaughtTo (length rows) worker new
    → AreOthersSame worker old new → (w : ℕ) → w < worker + 1 → IsCaughtTo (length (get_or files w [])) w new
caught_file files old new worker rows file before caught others w below = elim (cases_eq w worker) [
  | inl same ↦ subst (λ n. IsCaughtTo (length (get_or files n [])) n new) (sym same)
      (subst (λ l. IsCaughtTo (length l) worker new) file.are caught)
  | inr differ ↦ λ p. subst (IsCaughtUp (length (get_or files w []))) (sym (others.same w p differ))
      (before w (omega (arith, below, differ)) p)
]

-- where none of the rows of a file lacks, all that are due at a tag were found there
shown_all : {C E A : Type 0} (tape_of : C → List E) (work : E → Option Shown) (item_of : ℕ → ℕ → A → Option Item)
    (tags : ℕ) (files : List (List A)) (cells : List C) (works : List Reached) → AreOver item_of tags files works
    → AreTapesFound tape_of work cells works
    → ((w : ℕ) → w < length files → IsCaughtTo (length (get_or files w [])) w works)
    → AreTapesWhole tape_of work item_of files cells
shown_all tape_of work item_of tags files cells works over found_so caught = record {
  each = λ tag worker d below. (found_so.each tag d below).each worker ∙ elim (cases_lt worker (length files)) [
    | inl within ↦ whole tag worker within
    | inr past ↦ ap (λ o. option_map_or (λ p. found p tag) o [])
        (slice_get_past works worker (omega (arith, past, over.as_many)))
        ∙ sym (ap (λ o. option_map_or (λ rows. due tag (numbered (item_of worker) 1 rows)) o [])
        (slice_get_past files worker past))
  ];
}
  where
    none : Reached
    none = record { items = []; at = [] }

    whole : (tag worker : ℕ) → worker < length files → found_of works worker tag ≡ file_due item_of files worker tag
    whole tag worker within =
        let p = get_or works worker none in
        let rows = get_or files worker [] in
        let items : p.items ≡ numbered (item_of worker) 1 rows = over.items worker [] none within in
        let size : length rows ≡ length p.items = sym (ap length items ∙ length-numbered (item_of worker) 1 rows) in
        ap (λ o. option_map_or (λ q. found q tag) o [])
        (slice_get-get_or works worker none (omega (arith, within, over.as_many)))
        ∙ (caught_whole p tag (subst (λ n. IsCaughtUp n p) size (caught worker within none))
        ∙ (ap (due tag) items ∙ sym (ap (λ o. option_map_or (λ l. due tag (numbered (item_of worker) 1 l)) o [])
        (slice_get-get_or files worker [] within))))

-- so it is once all files are caught up
pub shown_files : {C E A : Type 0} (tape_of : C → List E) (work : E → Option Shown) (item_of : ℕ → ℕ → A → Option Item)
    (many next : ℕ) (files : List (Vec A Global)) (units : List C) (works : List Reached)
    → AreOver item_of many (lists_of files) works → AreTapesFound tape_of work units works
    → ((w : ℕ) → w < next → IsCaughtTo (length (get_or (lists_of files) w [])) w works) → length files ≤ next
    → AreTapesWhole tape_of work item_of (lists_of files) units
shown_files tape_of work item_of many next files units works over found_so caught all =
    shown_all tape_of work item_of many (lists_of files) units works over found_so
    (λ w below. caught w (omega (arith, below, all, length-map files (λ (v : Vec _ Global). v.items))))

-- questions of readers that are of a plant's tags and groups are of its tags
pub known_asks_of : (tags groups : ℕ) (files : List (Vec Query Global))
    → All (λ queries. All (IsQueryOf tags groups) queries.items) files
    → All (λ queries. All (IsKnownAsk tags) queries.items) files
known_asks_of tags groups files each = λ k d below. λ i e within. one (get_or (get_or files k d).items i e) (each k d below i e within)
  where
    one : (q : Query) → IsQueryOf tags groups q → IsKnownAsk tags q
    one (query.Tag tag asked) known = known
    one (query.Snap tag) known = tt
    one (query.Row group calc k) known = tt

-- the rows of one file more
rows_push : (tag : ℕ) (files : List (List RawRow)) (rows : List RawRow)
    → tag_rows tag (files ++ rows ∷ []) ≡ tag_rows tag files + count_by (λ r. nat_eq r.tag tag) rows
rows_push tag [] rows = omega arith
rows_push tag (x ∷ files) rows = (let rest = rows_push tag files rows in omega (arith, rest))

pub rows_more : (tag i : ℕ) (files : List (Vec RawRow Global)) (v : Vec RawRow Global) → i < length files → v ≡ get_or files i v
    → tag_rows tag (lists_of (take (i + 1) files)) ≡ tag_rows tag (lists_of (take i files)) + count_by (λ r. nat_eq r.tag tag) v.items
rows_more tag i files v within is =
    ap (tag_rows tag) (map_more (λ (w : Vec RawRow Global). w.items) files i v within)
    ∙ (rows_push tag (lists_of (take i files)) (get_or files i v).items
    ∙ ap (λ (w : Vec RawRow Global). tag_rows tag (lists_of (take i files)) + count_by (λ r. nat_eq r.tag tag) w.items) (sym is))
