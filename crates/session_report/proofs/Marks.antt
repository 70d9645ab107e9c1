-- Tags that are marked as queries are looked at.
use Rattle.std.proofs.Common.{◌≡◌, ℕ, ◌+◌, ◌<◌, Bool, false, ◌||◌, List, [], ◌∷◌, ◌++◌, length, get_or, take, refl, sym, ap, ◌∙◌, arith, Vec}
use Rattle.std.specs.declared.alloc.Global.{Global}
use Rattle.std.specs.List.{list_any}
use Rattle.std.proofs.Math.Bool.{or-false, or_assoc}
use Rattle.std.proofs.lemmas.List.{map_push, take_more}
use Rattle.std.proofs.lemmas.List.Folds.{list_any-append}
use Rattle.value_rows.specs.{Query}
use Rattle.calc_refresh.specs.{lists_of}
use Rattle.session_report.specs.{AreMarked, is_snap, is_snapped}

pub none_marked : (marks : List Bool) → AreMarked (λ tag. false) marks marks
none_marked marks = record { as_many = refl; each = λ t within. sym (or-false (get_or marks t false)) }

marked_more : (f g h : ℕ → Bool) (old mid new : List Bool) → ((t : ℕ) → h t ≡ (f t || g t)) → AreMarked f old mid
    → AreMarked g mid new → AreMarked h old new
marked_more f g h old mid new both first last = record {
  as_many = last.as_many ∙ first.as_many;
  each = λ t within. last.each t (omega (arith, within, first.as_many)) ∙ ap (λ b. b || g t) (first.each t within)
      ∙ or_assoc (get_or old t false) (f t) (g t) ∙ ap (λ b. get_or old t false || b) (sym (both t));
}

-- of one query more
pub query_marked : (queries : List Query) (i : ℕ) (query : Query) (old mid new : List Bool) → i < length queries
    → query ≡ get_or queries i query → AreMarked (λ t. list_any (is_snap t) (take i queries)) old mid
    → AreMarked (λ t. is_snap t query) mid new → AreMarked (λ t. list_any (is_snap t) (take (i + 1) queries)) old new
query_marked queries i query old mid new there is first last =
    marked_more (λ t. list_any (is_snap t) (take i queries)) (λ t. is_snap t query)
    (λ t. list_any (is_snap t) (take (i + 1) queries)) old mid new both first last
  where
    both : (t : ℕ) → list_any (is_snap t) (take (i + 1) queries) ≡ (list_any (is_snap t) (take i queries) || is_snap t query)
    both t =
        ap (list_any (is_snap t)) (take_more queries i query there ∙ ap (λ q. take i queries ++ q ∷ []) (sym is))
        ∙ list_any-append (is_snap t) (take i queries) (query ∷ [])
        ∙ ap (λ b. list_any (is_snap t) (take i queries) || b) (or-false (is_snap t query))

-- of the queries of one reader more
pub reader_marked : (files : List (Vec Query Global)) (i : ℕ) (queries : Vec Query Global) (old mid new : List Bool) → i < length files
    → queries ≡ get_or files i queries → AreMarked (λ t. is_snapped (lists_of (take i files)) t) old mid
    → AreMarked (λ t. list_any (is_snap t) queries.items) mid new
    → AreMarked (λ t. is_snapped (lists_of (take (i + 1) files)) t) old new
reader_marked files i queries old mid new there is first last =
    marked_more (λ t. is_snapped (lists_of (take i files)) t) (λ t. list_any (is_snap t) queries.items)
    (λ t. is_snapped (lists_of (take (i + 1) files)) t) old mid new both first last
  where
    items : Vec Query Global → List Query
    items v = v.items

    both : (t : ℕ) → is_snapped (lists_of (take (i + 1) files)) t
        ≡ (is_snapped (lists_of (take i files)) t || list_any (is_snap t) queries.items)
    both t =
        ap (λ l. is_snapped (lists_of l) t) (take_more files i queries there ∙ ap (λ q. take i files ++ q ∷ []) (sym is))
        ∙ ap (λ l. is_snapped l t) (map_push items (take i files) queries)
        ∙ list_any-append (list_any (is_snap t)) (lists_of (take i files)) (queries.items ∷ [])
        ∙ ap (λ b. is_snapped (lists_of (take i files)) t || b) (or-false (list_any (is_snap t) queries.items))
