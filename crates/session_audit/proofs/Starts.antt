-- Workers whose rows are gone over for the first time, one more.
use Rattle.std.proofs.Common.{◌≡◌, ℕ, ◌+◌, ◌<◌, inl, inr, List, [], ◌∷◌, ◌++◌, All, length, get_or, Option, None, IfSome, Vec, sym, ap, subst, ◌∙◌, arith}
use Rattle.std.proofs.lemmas.Bool.{cases_eq, cases_lt}
use Rattle.std.proofs.lemmas.List.{get_or_append_left, get_or_default, get_or_past, get_or_push, length_push}
use Rattle.std.proofs.lemmas.List.Elements.{All-get_or}
use Rattle.std.specs.declared.alloc.Global.{Global}
use Rattle.value_rows.specs.{Query, RawRow}
use Rattle.value_rows.specs.declared.asked.Query.TheVariants as query
use Rattle.session_audit.specs.{Item, IsUnfound, Reached, IsKnownRowAsk, IsKnownAsk, IsDueWithin}
use Rattle.session_audit.specs.Agendas.{ask_item, numbered, phase_item, row_item}
use Rattle.session_audit.proofs.Numbers.{length-numbered, numbered_at}
use Rattle.collector_pool.specs.{IsRowOf}

-- the first workers are started over the rows of their files
pub record AreStarted {A : Type 0} (item_of : ℕ → ℕ → A → Option Item) (tags upto : ℕ) (files : List (List A))
    (works : List Reached) : Type 0 where
  pub as_many : length works ≡ upto
  pub items : (w : ℕ) (rows : List A) (p : Reached) → w < upto
      → (get_or works w p).items ≡ numbered (item_of w) 1 (get_or files w rows)
  pub units : (w : ℕ) (p : Reached) → w < upto → length (get_or works w p).at ≡ tags
  pub unfound : (w : ℕ) (p : Reached) → w < upto → (tag : ℕ) → tag < tags → IsUnfound tag (get_or works w p)

-- one more
pub started_more : {A : Type 0} (item_of : ℕ → ℕ → A → Option Item) (tags upto : ℕ) (files : List (List A))
    (works : List Reached) (q : Reached) (rows : List A) → upto < length files → rows ≡ get_or files upto []
    → q.items ≡ numbered (item_of upto) 1 rows → length q.at ≡ tags → ((tag : ℕ) → tag < tags → IsUnfound tag q)
    → AreStarted item_of tags upto files works → AreStarted item_of tags (upto + 1) files (works ++ q ∷ [])
started_more item_of tags upto files works q rows within is items units unfound before = record {
  as_many = length_push works q ∙ ap (λ n. n + 1) before.as_many;
  items = λ w e p below. elim (cases_eq w upto) [
    | inl same ↦ subst (λ n. (get_or (works ++ q ∷ []) n p).items ≡ numbered (item_of n) 1 (get_or files n e)) (sym same)
        (ap (λ x. x.items) (here p) ∙ (items ∙ ap (numbered (item_of upto) 1) (is ∙ get_or_default files upto [] e within)))
    | inr differ ↦ ap (λ x. x.items) (there w p (omega (arith, below, differ)))
        ∙ before.items w e p (omega (arith, below, differ))
  ];
  units = λ w p below. elim (cases_eq w upto) [
    | inl same ↦ subst (λ n. length (get_or (works ++ q ∷ []) n p).at ≡ tags) (sym same) (ap (λ x. length x.at) (here p) ∙ units)
    | inr differ ↦ ap (λ x. length x.at) (there w p (omega (arith, below, differ))) ∙ before.units w p (omega (arith, below, differ))
  ];
  unfound = λ w p below tag known. elim (cases_eq w upto) [
    | inl same ↦ subst (λ n. IsUnfound tag (get_or (works ++ q ∷ []) n p)) (sym same)
        (subst (IsUnfound tag) (sym (here p)) (unfound tag known))
    | inr differ ↦ subst (IsUnfound tag) (sym (there w p (omega (arith, below, differ))))
        (before.unfound w p (omega (arith, below, differ)) tag known)
  ];
}
  where
    here : (p : Reached) → get_or (works ++ q ∷ []) upto p ≡ q
    here p = get_or_push works q p upto before.as_many

    there : (w : ℕ) (p : Reached) → w < upto → get_or (works ++ q ∷ []) w p ≡ get_or works w p
    there w p below = get_or_append_left works (q ∷ []) p w (omega (arith, below, before.as_many))

-- each row of a file is due at a unit that there is
pub known_rows : {A : Type 0} (item_of : ℕ → ℕ → A → Option Item) (many worker : ℕ) (rows : List A)
    → All (IsDueWithin item_of many) rows
    → (i : ℕ) → IfSome (get_or (numbered (item_of worker) 1 rows) i None) (λ item. item.unit < many)
known_rows item_of many worker [] each i = tt
known_rows item_of many worker (x ∷ rest) each i = elim (cases_lt i (length (x ∷ rest))) [
  | inl below ↦ subst (λ o. IfSome o (λ item. item.unit < many))
      (sym (numbered_at (item_of worker) 1 (x ∷ rest) i x None below))
      (All-get_or (IsDueWithin item_of many) (x ∷ rest) i x below each worker (i + 1))
  | inr past ↦ subst (λ o. IfSome o (λ item. item.unit < many))
      (sym (get_or_past (numbered (item_of worker) 1 (x ∷ rest)) i None
      (omega (arith, past, length-numbered (item_of worker) 1 (x ∷ rest))))) tt
]

-- values of collectors, and questions of readers, that are of so many tags or groups
pub takes_due : (earlier tags : ℕ) (files : List (Vec RawRow Global)) → All (λ rows. All (IsRowOf tags) rows.items) files
    → All (λ rows. All (IsDueWithin (phase_item earlier) tags) rows.items) files
takes_due earlier tags files each = λ k d below. λ i e within worker number. (each k d below i e within).tag

pub asks_due : (tags : ℕ) (files : List (Vec Query Global)) → All (λ queries. All (IsKnownAsk tags) queries.items) files
    → All (λ queries. All (IsDueWithin ask_item tags) queries.items) files
asks_due tags files each = λ k d below. λ i e within. one (get_or (get_or files k d).items i e) (each k d below i e within)
  where
    one : (q : Query) → IsKnownAsk tags q → IsDueWithin ask_item tags q
    one (query.Tag tag asked) known = λ worker number. known.0
    one (query.Snap tag) known = λ worker number. tt
    one (query.Row group calc k) known = λ worker number. tt

pub row_asks_due : (groups : ℕ) (files : List (Vec Query Global)) → All (λ queries. All (IsKnownRowAsk groups) queries.items) files
    → All (λ queries. All (IsDueWithin row_item groups) queries.items) files
row_asks_due groups files each = λ k d below. λ i e within. one (get_or (get_or files k d).items i e) (each k d below i e within)
  where
    one : (q : Query) → IsKnownRowAsk groups q → IsDueWithin row_item groups q
    one (query.Tag tag asked) known = λ worker number. tt
    one (query.Snap tag) known = λ worker number. tt
    one (query.Row group calc k) known = λ worker number. known
