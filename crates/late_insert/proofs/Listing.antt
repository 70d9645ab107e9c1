-- Pages and their places, which are kept apart.
use Rattle.std.proofs.Common.{◌≡◌, ℕ, zero, suc, ◌+◌, ◌<◌, ◌≤◌, List, [], ◌∷◌, ◌++◌, length, map, get_or, set, take, drop, ◌≢◌, All, refl, ap, ap₂, sym, ◌∙◌, subst, arith, length-append}
use Rattle.std.specs.Prelude.{insert}
use Rattle.std.proofs.lemmas.List.{get_or_append_left, get_or_at, get_or-map, get_or-set_same, get_or-set_other, get_or_default, length-map, take-append-drop}
use Rattle.std.proofs.lemmas.List.Edits.{length-insert}
use Rattle.std.proofs.lemmas.List.Elements.{All-append, All-cons, All-head, All-tail, All-weaker}
use Rattle.late_insert.proofs.Joining.{all_left, all_right, apart_insert}
use Rattle.late_insert.specs.{AreApart, Leaf, Page, no_summary, AreOrdered, no_leaf, picked, placed_pages, moved, rewritten}

-- a page with its place
abbrev pub with_place : Leaf → ℕ → Page
with_place l n = record { id = l.id; first = n; start = l.start; summary = l.summary }

-- there are as many pages
pub length-placed_pages : (ls : List Leaf) (ns : List ℕ) → length ns ≡ length ls
    → length (placed_pages ls ns) ≡ length ls
length-placed_pages [] ns long = refl
length-placed_pages (l ∷ ls) [] long = absurd (omega (arith, long))
length-placed_pages (l ∷ ls) (n ∷ ns) long = ap suc (length-placed_pages ls ns (omega (arith, long)))

-- a page is what is in both lists
pub get_or-placed_pages : (ls : List Leaf) (ns : List ℕ) (k : ℕ) (l : Leaf) (n : ℕ) (d : Page)
    → length ns ≡ length ls → k < length ls
    → get_or (placed_pages ls ns) k d ≡ with_place (get_or ls k l) (get_or ns k n)
get_or-placed_pages [] ns k l n d long within = absurd (omega arith)
get_or-placed_pages (x ∷ ls) [] k l n d long within = absurd (omega (arith, long))
get_or-placed_pages (x ∷ ls) (m ∷ ns) zero l n d long within = refl
get_or-placed_pages (x ∷ ls) (m ∷ ns) (suc k) l n d long within =
    get_or-placed_pages ls ns k l n d (omega (arith, long)) (omega arith)

-- one more among them
pub placed_pages-insert : (ls : List Leaf) (ns : List ℕ) (i : ℕ) (l : Leaf) (n : ℕ) → length ns ≡ length ls
    → i ≤ length ls
    → placed_pages (insert ls i l) (insert ns i n) ≡ insert (placed_pages ls ns) i (with_place l n)
placed_pages-insert ls ns zero l n long within = refl
placed_pages-insert [] ns (suc i) l n long within = absurd (omega arith)
placed_pages-insert (x ∷ ls) [] (suc i) l n long within = absurd (omega (arith, long))
placed_pages-insert (x ∷ ls) (m ∷ ns) (suc i) l n long within =
    ap (λ ps. with_place x m ∷ ps) (placed_pages-insert ls ns i l n (omega (arith, long)) (omega arith))

-- one that is written
pub placed_pages-set : (ls : List Leaf) (ns : List ℕ) (k : ℕ) (l : Leaf) (d : Page) → length ns ≡ length ls
    → k < length ls → l.id ≡ (get_or ls k l).id
    → placed_pages (set ls k l) ns ≡ set (placed_pages ls ns) k
    (rewritten l.start l.summary (get_or (placed_pages ls ns) k d))
placed_pages-set [] ns k l d long within same = absurd (omega arith)
placed_pages-set (x ∷ ls) [] k l d long within same = absurd (omega (arith, long))
placed_pages-set (x ∷ ls) (m ∷ ns) zero l d long within same =
    ap (λ i. record { id = i; first = m; start = l.start; summary = l.summary } ∷ placed_pages ls ns) same
placed_pages-set (x ∷ ls) (m ∷ ns) (suc k) l d long within same =
    ap (λ ps. with_place x m ∷ ps) (placed_pages-set ls ns k l d (omega (arith, long)) (omega arith) same)

-- places that are moved on
pub placed_pages-move : (ls : List Leaf) (ns : List ℕ) (k by : ℕ) → length ns ≡ length ls
    → placed_pages ls (take k ns ++ map (λ n. n + by) (drop k ns))
    ≡ take k (placed_pages ls ns) ++ map (moved by) (drop k (placed_pages ls ns))
placed_pages-move [] [] zero by long = refl
placed_pages-move [] [] (suc k) by long = refl
placed_pages-move [] (m ∷ ns) k by long = absurd (omega (arith, long))
placed_pages-move (x ∷ ls) [] k by long = absurd (omega (arith, long))
placed_pages-move (x ∷ ls) (m ∷ ns) zero by long =
    ap (λ ps. with_place x (m + by) ∷ ps) (placed_pages-move ls ns zero by (omega (arith, long)))
placed_pages-move (x ∷ ls) (m ∷ ns) (suc k) by long =
    ap (λ ps. with_place x m ∷ ps) (placed_pages-move ls ns k by (omega (arith, long)))

-- and places that can be moved on
pub small_firsts : (ls : List Leaf) (ns : List ℕ) (by top : ℕ) → length ns ≡ length ls
    → All (λ p. p.first + by < top) (placed_pages ls ns) → All (λ n. n + by < top) ns
small_firsts ls ns by top long small = λ k d inside.
    let l : Leaf = record { id = 0; start = 0; summary = no_summary } in
    let p : Page = with_place l 0 in
    let here = small k p (omega (arith, inside, length-placed_pages ls ns long)) in
    subst (λ (q : Page). q.first + by < top)
    (get_or-placed_pages ls ns k l d p long (omega (arith, inside))) here

-- ---- pages by their numbers

-- one more page changes none of those that have a number
pub picked-more : (ls : List Leaf) (is : List ℕ) (l : Leaf) → All (λ i. i < length ls) is
    → picked (ls ++ l ∷ []) is ≡ picked ls is
picked-more ls [] l within = refl
picked-more ls (i ∷ is) l within =
    ap₂ (λ x xs. x ∷ xs) (get_or_append_left ls (l ∷ []) no_leaf i (All-head (λ j. j < length ls) i is within))
    (picked-more ls is l (All-tail (λ j. j < length ls) i is within))

-- and is found by its number
last_picked : (ls : List Leaf) (l : Leaf) → get_or (ls ++ l ∷ []) (length ls) no_leaf ≡ l
last_picked ls l = get_or_at ls l [] no_leaf (length ls) refl

pub picked-insert : (ls : List Leaf) (is : List ℕ) (at : ℕ) (l : Leaf) → All (λ i. i < length ls) is
    → picked (ls ++ l ∷ []) (insert is at (length ls)) ≡ insert (picked ls is) at l
picked-insert ls is zero l within = ap₂ (λ x xs. x ∷ xs) (last_picked ls l) (picked-more ls is l within)
picked-insert ls [] (suc at) l within = ap (λ x. x ∷ []) (last_picked ls l)
picked-insert ls (i ∷ is) (suc at) l within =
    ap₂ (λ x xs. x ∷ xs) (get_or_append_left ls (l ∷ []) no_leaf i (All-head (λ j. j < length ls) i is within))
    (picked-insert ls is at l (All-tail (λ j. j < length ls) i is within))

-- a page that is written is one of them alone
picked-other : (ls : List Leaf) (is : List ℕ) (s : ℕ) (l : Leaf) → All (λ i. i ≢ s) is
    → picked (set ls s l) is ≡ picked ls is
picked-other ls [] s l apart = refl
picked-other ls (i ∷ is) s l apart =
    ap₂ (λ x xs. x ∷ xs) (get_or-set_other ls s i l no_leaf (All-head (λ j. j ≢ s) i is apart))
    (picked-other ls is s l (All-tail (λ j. j ≢ s) i is apart))

pub picked-set : (ls : List Leaf) (is : List ℕ) (k : ℕ) (l : Leaf) → AreApart is → k < length is
    → get_or is k 0 < length ls
    → picked (set ls (get_or is k 0) l) is ≡ set (picked ls is) k l
picked-set ls [] k l apart within inside = absurd (omega arith)
picked-set ls (i ∷ is) zero l apart within inside =
    ap₂ (λ x xs. x ∷ xs) (get_or-set_same ls i l no_leaf inside) (picked-other ls is i l apart.0)
picked-set ls (i ∷ is) (suc k) l apart within inside =
    let other : get_or is k 0 ≢ i = apart.0 k 0 (omega arith) in
    ap₂ (λ x xs. x ∷ xs) (get_or-set_other ls (get_or is k 0) i l no_leaf (λ same. other (sym same)))
    (picked-set ls is k l apart.1 (omega arith) inside)

-- numbers with a new one among them
numbers_within : (is : List ℕ) (at n : ℕ) → All (λ i. i < n) is → All (λ i. i < n + 1) (insert is at n)
numbers_within is at n within =
    let parts = subst (All (λ i. i < n)) (sym (take-append-drop at is)) within in
    let more : (xs : List ℕ) → All (λ i. i < n) xs → All (λ i. i < n + 1) xs =
    λ xs all. All-weaker (λ i. i < n) (λ i. i < n + 1) (λ i h. omega arith) xs all in
    All-append (λ i. i < n + 1) (take at is) (n ∷ drop at is)
    (more (take at is) (all_left (λ i. i < n) (take at is) (drop at is) parts))
    (All-cons (λ i. i < n + 1) n (drop at is) (omega arith)
    (more (drop at is) (all_right (λ i. i < n) (take at is) (drop at is) parts)))

numbers_apart : (is : List ℕ) (at n : ℕ) → All (λ i. i < n) is → AreApart is → AreApart (insert is at n)
numbers_apart is at n within apart =
    let parts = subst (All (λ i. i < n)) (sym (take-append-drop at is)) within in
    let other : (xs : List ℕ) → All (λ i. i < n) xs → All (λ i. i ≢ n) xs =
    λ xs all. All-weaker (λ i. i < n) (λ i. i ≢ n) (λ i h same. absurd (omega arith)) xs all in
    apart_insert (take at is) (drop at is) n (subst AreApart (sym (take-append-drop at is)) apart)
    (other (take at is) (all_left (λ i. i < n) (take at is) (drop at is) parts))
    (other (drop at is) (all_right (λ i. i < n) (take at is) (drop at is) parts))

pub ordered-insert : (ls : List Leaf) (is ns : List ℕ) (at n : ℕ) (l : Leaf) → AreOrdered ls is ns → at ≤ length ls
    → AreOrdered (ls ++ l ∷ []) (insert is at (length ls)) (insert ns at n)
ordered-insert ls is ns at n l ordered within =
    let long = length-append ls (l ∷ []) in
    record {
      numbers = omega (arith, ordered.numbers, length-insert is at (length ls) (omega (arith, ordered.numbers)));
      firsts = omega (arith, ordered.firsts, length-insert ns at n (omega (arith, ordered.firsts)));
      within = subst (λ m. All (λ i. i < m) (insert is at (length ls))) (sym long)
          (numbers_within is at (length ls) ordered.within);
      apart = numbers_apart is at (length ls) ordered.within ordered.apart;
    }

-- ---- the list of pages

module _ (ls : List Leaf) (is ns : List ℕ) (ordered : AreOrdered ls is ns) where
  -- as many places as pages
  pub even_length : length ns ≡ length (picked ls is)
  even_length = omega (arith, ordered.firsts, ordered.numbers, length-map is (λ i. get_or ls i no_leaf))

  pub listed_length : length (placed_pages (picked ls is) ns) ≡ length ls
  listed_length =
      omega (
        arith,
        ordered.numbers,
        length-map is (λ i. get_or ls i no_leaf),
        length-placed_pages (picked ls is) ns even_length,
      )

  -- so a page has a number
  pub has_number : (k : ℕ) → k < length (placed_pages (picked ls is) ns) → k < length is
  has_number k within = omega (arith, within, listed_length, ordered.numbers)

  -- the number of a page
  pub number_within : (k : ℕ) → k < length (placed_pages (picked ls is) ns) → get_or is k 0 < length ls
  number_within k within = ordered.within k 0 (omega (arith, within, listed_length, ordered.numbers))

  -- also one that was read with another default
  pub number_read : (k n : ℕ) → k < length (placed_pages (picked ls is) ns) → n ≡ get_or is k n → n ≡ get_or is k 0
  number_read k n within read = read ∙ get_or_default is k n 0 (has_number k within)

  -- of a list that is seen so, the place of a number and that of a leaf are there
  module _ (pages : List Page) (k : ℕ) (seen : placed_pages (picked ls is) ns ≡ pages) (within : k < length pages) where
    pub in_seen : k < length (placed_pages (picked ls is) ns)
    in_seen = subst (λ l. k < length l) (sym seen) within

    pub number_there : k < length is
    number_there = has_number k in_seen

    pub leaf_there : (n : ℕ) → n ≡ get_or is k n → n < length ls
    leaf_there n read = omega (arith, number_read k n in_seen read, number_within k in_seen)

  -- a page is what has its number, and its place
  pub listed_read : (k n : ℕ) (d : Page) → k < length (placed_pages (picked ls is) ns)
      → get_or (placed_pages (picked ls is) ns) k d ≡ with_place (get_or ls (get_or is k 0) no_leaf) (get_or ns k n)
  listed_read k n d within =
      let inside = has_number k within in
      get_or-placed_pages (picked ls is) ns k no_leaf n d even_length
      (omega (arith, inside, length-map is (λ i. get_or ls i no_leaf)))
      ∙ ap (λ l. with_place l (get_or ns k n)) (get_or-map (λ i. get_or ls i no_leaf) is k 0 no_leaf inside)

  -- places that can be moved on
  pub listed_small : (by top : ℕ) → All (λ p. p.first + by < top) (placed_pages (picked ls is) ns)
      → All (λ n. n + by < top) ns
  listed_small by top small = small_firsts (picked ls is) ns by top even_length small
