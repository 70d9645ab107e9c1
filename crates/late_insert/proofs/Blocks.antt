-- Summaries of blocks of pages.
use Rattle.std.proofs.Common.{◌≡◌, ℕ, ◌+◌, ◌-◌, ◌*◌, ◌/◌, ◌<◌, ◌≤◌, inl, inr, List, [], ◌∷◌, ◌++◌, length, get_or, set, take, drop, map, All, refl, sym, ap, ap₂, ◌∙◌, arith, length-append}
use Rattle.std.specs.Prelude.{insert}
use Rattle.std.proofs.lemmas.Bool.{cases_lt, cases_eq}
use Rattle.std.proofs.lemmas.List.{take-map, drop-map, get_or_default, get_or-set_same, get_or-set_other, drop-set-lt, drop-set-add, take-set-le, same_lists, get_or-take, get_or-drop, length-take, length-drop, length-set, length-map}
use Rattle.std.proofs.lemmas.List.{map-append, get_or-map, get_or_append_left, get_or_at}
use Rattle.std.proofs.lemmas.List.Edits.{length-insert, get_or-insert_below}
use Rattle.std.proofs.lemmas.List.Elements.{All-set, All-take, All-drop, All-append, All-cons}
use Rattle.late_insert.specs.{Summary, IsSmall, joined_of, page_most, Leaf, no_leaf, picked, placed_pages, summaries_of, AreBlocks, AreBlocksBut}
use Rattle.late_insert.proofs.Listing.{picked-insert}

-- a block that a written page is not in has the summary that it had
other_block : (all : List Summary) (k b : ℕ) (s : Summary) → (b ≡ k / 64 → ⊥)
    → take 64 (drop (b * 64) (set all k s)) ≡ take 64 (drop (b * 64) all)
other_block all k b s other = elim (cases_lt k (b * 64)) [
  | inl before ↦ ap (take 64) (drop-set-lt (b * 64) all k s before)
  | inr from ↦
      let place : b * 64 + (k - b * 64) ≡ k = omega arith in
      let past : 64 ≤ k - b * 64 = omega arith in
      ap (λ n. take 64 (drop (b * 64) (set all n s))) (sym place)
      ∙ (ap (take 64) (drop-set-add (b * 64) all (k - b * 64) s)
      ∙ take-set-le 64 (drop (b * 64) all) (k - b * 64) s past)
]

-- pages one of which is written
pub blocks_written : (all blocks : List Summary) (k : ℕ) (s : Summary) → AreBlocks all blocks → IsSmall page_most s
    → AreBlocksBut (set all k s) blocks k
blocks_written all blocks k s are small = record {
  small = All-set (IsSmall page_most) all k s small are.small;
  within = omega (arith, are.within, length-set all k s);
  others = λ b d inside other. are.each b d inside ∙ ap joined_of (sym (other_block all k b s other));
}

-- whose block is summed anew
pub blocks_renewed : (all blocks : List Summary) (k : ℕ) (new : Summary) → AreBlocksBut all blocks k
    → k / 64 < length blocks → new ≡ joined_of (take 64 (drop (k / 64 * 64) all))
    → AreBlocks all (set blocks (k / 64) new)
blocks_renewed all blocks k new but there is = record {
  small = but.small;
  within = omega (arith, but.within, length-set blocks (k / 64) new);
  each = λ b d inside. elim (cases_eq b (k / 64)) [
    | inl same ↦ rw same (get_or-set_same blocks (k / 64) new d there ∙ is)
    | inr other ↦ get_or-set_other blocks (k / 64) b new d other ∙ but.others b d (omega (arith, length-set blocks (k / 64) new)) other
  ];
}

-- or has no summary
pub blocks_open : (all blocks : List Summary) (k : ℕ) → AreBlocksBut all blocks k → length blocks ≤ k / 64 → AreBlocks all blocks
blocks_open all blocks k but none = record {
  small = but.small;
  within = but.within;
  each = λ b d inside. but.others b d inside (λ same. absurd (omega arith));
}

-- a page more, and the blocks before it
front_block : (all : List Summary) (at b : ℕ) (s : Summary) → at ≤ length all → b * 64 + 64 ≤ at
    → take 64 (drop (b * 64) (insert all at s)) ≡ take 64 (drop (b * 64) all)
front_block all at b s inside before =
    let now = length-insert all at s inside in
    let left = length-take 64 (drop (b * 64) (insert all at s)) in
    let right = length-take 64 (drop (b * 64) all) in
    let drops = length-drop (b * 64) (insert all at s) in
    let was = length-drop (b * 64) all in
    same_lists (take 64 (drop (b * 64) (insert all at s))) (take 64 (drop (b * 64) all))
    (omega arith)
    (λ j d less.
    let in_block : j < 64 = omega arith in
    get_or-take 64 (drop (b * 64) (insert all at s)) j d in_block
    ∙ (get_or-drop (b * 64) (insert all at s) j d
    ∙ (get_or-insert_below all at s d (b * 64 + j) (omega arith) inside
    ∙ (sym (get_or-drop (b * 64) all j d) ∙ sym (get_or-take 64 (drop (b * 64) all) j d in_block)))))

pub blocks_before : (all blocks : List Summary) (at : ℕ) (s : Summary) → AreBlocks all blocks → IsSmall page_most s
    → at ≤ length all → AreBlocks (insert all at s) (take (at / 64) blocks)
blocks_before all blocks at s are small inside =
    let few = length-take (at / 64) blocks in
    record {
      small = All-append (IsSmall page_most) (take at all) (s ∷ drop at all) (All-take (IsSmall page_most) at all are.small)
          (All-cons (IsSmall page_most) s (drop at all) small (All-drop (IsSmall page_most) at all are.small));
      within = omega (arith, are.within, length-insert all at s inside);
      each = λ b d less.
          get_or-take (at / 64) blocks b d (omega arith)
          ∙ (are.each b d (omega arith) ∙ ap joined_of (sym (front_block all at b s inside (omega arith))));
    }

-- one block more
pub blocks_closed : (all blocks : List Summary) (s : Summary) → AreBlocks all blocks → (length blocks + 1) * 64 ≤ length all
    → s ≡ joined_of (take 64 (drop (length blocks * 64) all)) → AreBlocks all (blocks ++ s ∷ [])
blocks_closed all blocks s are room is =
    let long = length-append blocks (s ∷ []) in
    record {
      small = are.small;
      within = omega arith;
      each = λ b d less. elim (cases_lt b (length blocks)) [
        | inl old ↦ get_or_append_left blocks (s ∷ []) d b old ∙ are.each b d old
        | inr new ↦
            let last : b ≡ length blocks = omega arith in
            rw last (get_or_at blocks s [] d (length blocks) refl ∙ is)
      ];
    }

-- ---- the summaries of pages by their numbers

pub length-summaries : (ls : List Leaf) (is : List ℕ) → length (summaries_of ls is) ≡ length is
length-summaries ls is =
    length-map (picked ls is) (λ l. l.summary) ∙ length-map is (λ i. get_or ls i no_leaf)

pub read_summary : (ls : List Leaf) (is : List ℕ) (i : ℕ) (l : Leaf) (d : Summary) → All (λ j. j < length ls) is
    → i < length is → (get_or ls (get_or is i 0) l).summary ≡ get_or (summaries_of ls is) i d
read_summary ls is i l d within inside =
    let there : get_or is i 0 < length ls = within i 0 inside in
    ap (λ (x : Leaf). x.summary) (get_or_default ls (get_or is i 0) l no_leaf there
    ∙ sym (get_or-map (λ j. get_or ls j no_leaf) is i 0 no_leaf inside))
    ∙ sym (get_or-map (λ (x : Leaf). x.summary) (picked ls is) i no_leaf d
    (omega (arith, inside, length-map is (λ j. get_or ls j no_leaf))))

pub summaries-range : (ls : List Leaf) (is : List ℕ) (n k : ℕ)
    → take k (drop n (summaries_of ls is)) ≡ summaries_of ls (take k (drop n is))
summaries-range ls is n k =
    ap (take k) (drop-map (λ (l : Leaf). l.summary) n (picked ls is)
    ∙ ap (map (λ (l : Leaf). l.summary)) (drop-map (λ j. get_or ls j no_leaf) n is))
    ∙ (take-map (λ (l : Leaf). l.summary) k (picked ls (drop n is))
    ∙ ap (map (λ (l : Leaf). l.summary)) (take-map (λ j. get_or ls j no_leaf) k (drop n is)))

map-insert : (ls : List Leaf) (at : ℕ) (l : Leaf) → map (λ x. x.summary) (insert ls at l) ≡ insert (map (λ x. x.summary) ls) at l.summary
map-insert ls at l =
    map-append (λ (x : Leaf). x.summary) (take at ls) (l ∷ drop at ls)
    ∙ ap₂ (λ xs ys. xs ++ l.summary ∷ ys) (sym (take-map (λ (x : Leaf). x.summary) at ls)) (sym (drop-map (λ (x : Leaf). x.summary) at ls))

pub summaries-insert : (ls : List Leaf) (is : List ℕ) (at : ℕ) (l : Leaf) → All (λ i. i < length ls) is
    → summaries_of (ls ++ l ∷ []) (insert is at (length ls)) ≡ insert (summaries_of ls is) at l.summary
summaries-insert ls is at l within =
    ap (map (λ (x : Leaf). x.summary)) (picked-insert ls is at l within) ∙ map-insert (picked ls is) at l

-- the same summaries stand in the list of pages
pub summaries-placed : (ls : List Leaf) (ns : List ℕ) → length ns ≡ length ls
    → map (λ p. p.summary) (placed_pages ls ns) ≡ map (λ l. l.summary) ls
summaries-placed [] ns long = refl
summaries-placed (l ∷ ls) [] long = absurd (omega (arith, long))
summaries-placed (l ∷ ls) (n ∷ ns) long = ap (λ ss. l.summary ∷ ss) (summaries-placed ls ns (omega (arith, long)))
