-- The list of pages: where pages begin, one that is written, and those after one that grew.
use Rattle.std.specs.Prelude.{◌≡◌, ℕ, ◌+◌, ◌*◌, ◌/◌, ◌<◌, ◌≤◌, List, [], ◌∷◌, All, length, map, take, drop, slice_index_or}
use Rattle.late_insert.specs.declared.directory.Key.{Key}
use Rattle.late_insert.specs.declared.directory.Key.TheVariants.{Time, Place}
use Rattle.late_insert.specs.declared.directory.Leaf.{Leaf}
use Rattle.late_insert.specs.declared.directory.Page.{Page}
use Rattle.late_insert.specs.declared.total.Summary.{Summary}
use Rattle.late_insert.specs.Pages.{AreApart}
use Rattle.late_insert.specs.Totals.{IsSmall, joined_of, no_summary, page_most}

-- pages, and how many there is room for
pub record Listed : Type 0 where
  pub items : List Page
  pub places : ℕ

-- a page without its place
abbrev pub leaf_of : Page → Leaf
leaf_of p = record { id = p.id; start = p.start; summary = p.summary }

-- the leaf that is taken if a number has none
abbrev pub no_leaf : Leaf
no_leaf = record { id = 0; start = 0; summary = no_summary }

-- the leaves at these numbers, in this order
abbrev pub picked : List Leaf → List ℕ → List Leaf
picked leaves order = map (λ i. slice_index_or leaves i no_leaf) order

-- each page has one number and one place
pub record AreOrdered (leaves : List Leaf) (order places : List ℕ) : Type 0 where
  pub numbers : length order ≡ length leaves
  pub firsts : length places ≡ length leaves
  pub within : All (λ i. i < length leaves) order
  pub apart : AreApart order

-- pages, each made of a leaf and its place
abbrev pub placed_pages : List Leaf → List ℕ → List Page
placed_pages [] ns = []
placed_pages (l ∷ ls) [] = []
placed_pages (l ∷ ls) (n ∷ ns) = record { id = l.id; first = n; start = l.start; summary = l.summary } ∷ placed_pages ls ns

-- where a page begins, by time or by place
abbrev pub begin_of : Key → Page → ℕ
begin_of Time p = p.start
begin_of Place p = p.first

-- k is the last of these pages that begins at x or before it, or the first page if none does
pub record IsLastUpto (key : Key) (pages : List Page) (k x : ℕ) : Type 0 where
  pub before : (j : ℕ) (d : Page) → 0 < j → j ≤ k → begin_of key (slice_index_or pages j d) ≤ x
  pub after : (j : ℕ) (d : Page) → k < j → j < length pages → x < begin_of key (slice_index_or pages j d)

-- a page with another start and another summary
abbrev pub rewritten : ℕ → Summary → Page → Page
rewritten start summary p = record { id = p.id; first = p.first; start = start; summary = summary }

-- a page whose first record is `by` places later
abbrev pub moved : ℕ → Page → Page
moved by p = record { id = p.id; first = p.first + by; start = p.start; summary = p.summary }

-- the summaries of the leaves at these numbers
abbrev pub summaries_of : List Leaf → List ℕ → List Summary
summaries_of leaves order = map (λ l. l.summary) (picked leaves order)

-- how many pages a block has
abbrev pub block_len : ℕ
block_len = 64

-- the summaries of the first blocks of pages that have these summaries
pub record AreBlocks (all blocks : List Summary) : Type 0 where
  pub small : All (IsSmall page_most) all
  pub within : length blocks * block_len ≤ length all
  pub each : (b : ℕ) (d : Summary) → b < length blocks
      → slice_index_or blocks b d ≡ joined_of (take block_len (drop (b * block_len) all))

-- the same, but for the block of the page k
pub record AreBlocksBut (all blocks : List Summary) (k : ℕ) : Type 0 where
  pub small : All (IsSmall page_most) all
  pub within : length blocks * block_len ≤ length all
  pub others : (b : ℕ) (d : Summary) → b < length blocks → (b ≡ k / block_len → ⊥)
      → slice_index_or blocks b d ≡ joined_of (take block_len (drop (b * block_len) all))
