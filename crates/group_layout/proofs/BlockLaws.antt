-- A block, read in turn: its number, the versions, how many windows and rows, the rows, and the next gate.
use Rattle.std.proofs.Common.{◌≡◌, ℕ, zero, suc, ◌+◌, ◌*◌, ◌<◌, ◌≤◌, Bool, true, All, List, [], ◌∷◌, ◌++◌, drop, length, get_or, map, Option, None, Some, refl, sym, ap, ◌∙◌, subst, arith, nat_eq, nat_le, lit<, eqb-true, leb-true}
use Rattle.std.proofs.lemmas.List.{get_or-drop, map-append}
use Rattle.archive_file.specs.{moved, number_bytes, Field, Keeps, Spells, long_at, short_at}
use Rattle.archive_file.proofs.FieldLaws.{KeptUpTo, field_of, kept_more, kept_none}
use Rattle.archive_file.proofs.Windows.{rest_long, rest_short, then_spelled}
use Rattle.group_layout.specs.{BlockRow, BlockParts, AreRows, MayFollow, block_fields, block_image, block_size, row_at, row_fields, rows_fields, rows_image, version_fields, versions_image}

-- the number's field, and the fields after the versions, which end at a place
abbrev pub number_field : List ℕ → BlockParts → Field
number_field c before = field_of 1 8 (nat_eq (long_at c 1) (before.number + 1))

abbrev pub counts_on : List ℕ → ℕ → BlockParts → ℕ → ℕ → ℕ → List Field
counts_on c calcs before at windows count =
    field_of at 4 (nat_le before.windows windows) ∷ field_of (at + 4) 4 true
    ∷ (rows_fields c calcs windows None (at + 8) count ++ field_of (at + 8 + 17 * count) 1 true ∷ [])

-- the number as it is read
pub number_read : (c : List ℕ) (before : BlockParts) (number : ℕ) (next : Bool) (f : Field)
    → f ≡ field_of 1 8 next → next ≡ nat_eq number (before.number + 1) → number ≡ long_at c 1
    → f ≡ number_field c before
number_read c before number next f is right number_is = cc

-- once the number is kept, the versions
pub at_versions : (c : List ℕ) (calcs : ℕ) (before : BlockParts) (vs : List ℕ) → vs ≡ before.versions
    → All (Keeps c) (number_field c before ∷ [])
    → let at = 9 + 4 * length vs in
    KeptUpTo c (block_fields c calcs before 0)
    (version_fields c vs 9 ++ counts_on c calcs before at (short_at c at) (short_at c (at + 4)))
at_versions c calcs before vs vs_is kept =
    subst (λ us. let at = 9 + 4 * length us in
    KeptUpTo c (block_fields c calcs before 0)
    (version_fields c us 9 ++ counts_on c calcs before at (short_at c at) (short_at c (at + 4)))) (sym vs_is)
    (kept_more c _ (number_field c before ∷ []) _ (kept_none c (block_fields c calcs before 0)) kept)

-- what is read up to the counts: the number and the versions are kept, which end at a place, and so many windows are
-- there
pub record IsRead (c : List ℕ) (before : BlockParts) (at windows : ℕ) (vs : List ℕ) : Type 0 where
  pub vs_is : vs ≡ before.versions
  pub at_is : at ≡ 9 + 4 * length vs
  pub windows_is : windows ≡ short_at c at
  pub number : All (Keeps c) (number_field c before ∷ [])
  pub versions : All (Keeps c) (version_fields c vs 9)

module _ {c : List ℕ} {before : BlockParts} {at windows count : ℕ} {vs : List ℕ} (calcs : ℕ)
    (read : IsRead c before at windows vs) (count_is : count ≡ short_at c (at + 4)) where
  -- the counts, the rows, and the next gate
  pub at_counts : KeptUpTo c (block_fields c calcs before 0)
      ((field_of at 4 (nat_le before.windows windows) ∷ field_of (at + 4) 4 true ∷ [])
      ++ (rows_fields c calcs windows None (at + 8) count ++ field_of (at + 8 + 17 * count) 1 true ∷ []))
  at_counts = kept_more c _ (version_fields c vs 9) _
      (subst (λ fs. KeptUpTo c (block_fields c calcs before 0) (version_fields c vs 9 ++ fs))
      (grind arith)
      (at_versions c calcs before vs read.vs_is read.number)) read.versions

  module _ (counts : All (Keeps c) (field_of at 4 (nat_le before.windows windows) ∷ field_of (at + 4) 4 true ∷ [])) where
    pub at_rows : KeptUpTo c (block_fields c calcs before 0)
        (rows_fields c calcs windows None (at + 8) count ++ field_of (at + 8 + 17 * count) 1 true ∷ [])
    at_rows = kept_more c _ (field_of at 4 (nat_le before.windows windows) ∷ field_of (at + 4) 4 true ∷ []) _ at_counts counts

    pub at_gate : All (Keeps c) (rows_fields c calcs windows None (at + 8) count)
        → KeptUpTo c (block_fields c calcs before 0) (field_of (at + 8 + 17 * count) 1 true ∷ [])
    at_gate rows = kept_more c _ (rows_fields c calcs windows None (at + 8) count) _ at_rows rows

    module _ (number : ℕ) (number_is : number ≡ long_at c 1) (us : List ℕ) (rows : List BlockRow)
        (same : length us ≡ length vs) where
      -- the block may follow
      pub block_follows : ((i : ℕ) → i < length vs → get_or vs i 0 ≤ get_or us i 0) → AreRows calcs windows rows
          → MayFollow calcs before (record { number = number; versions = us; windows = windows; rows = rows })
      block_follows rises are = record {
        number = number_is ∙ eqb-true _ _ (read.number 0 (field_of 0 0 true) (lit< tt)).kept;
        inputs = same ∙ ap length read.vs_is;
        rises = subst (λ xs. (i : ℕ) → i < length xs → get_or xs i 0 ≤ get_or us i 0) read.vs_is rises;
        windows = leb-true _ _ (counts 0 (field_of 0 0 true) (lit< tt)).kept;
        rows = are;
      }

      -- its bytes
      pub block_spelled : Spells c 1 (number_bytes 8 (long_at c 1)) 9 → Spells c 9 (versions_image us) (9 + 4 * length vs)
          → Spells c at (number_bytes 4 (short_at c at)) (at + 4) → Spells c (at + 4) (number_bytes 4 (short_at c (at + 4))) (at + 4 + 4)
          → Spells c (at + 8) (rows_image rows) (at + 8 + 17 * count) → length rows ≡ count
          → Spells c 1 (block_image (record { number = number; versions = us; windows = windows; rows = rows }))
          (block_size (record { number = number; versions = us; windows = windows; rows = rows }))
      block_spelled first second third fourth row_bytes long =
          let end : at + 8 + 17 * count ≡ 17 + 4 * length us + 17 * length rows = omega (arith, read.at_is, same, long) in
          subst (Spells c 1 (block_image (record { number = number; versions = us; windows = windows; rows = rows }))) end
          (then_spelled c 1 9 9 _ (number_bytes 8 number) _ (subst (λ n. Spells c 1 (number_bytes 8 n) 9) (sym number_is) first) refl
          (then_spelled c 9 (9 + 4 * length vs) at _ (versions_image us) _ second read.at_is
          (then_spelled c at (at + 4) (at + 4) _ (number_bytes 4 windows) _
          (subst (λ n. Spells c at (number_bytes 4 n) (at + 4)) (sym read.windows_is) third) refl
          (then_spelled c (at + 4) (at + 4 + 4) (at + 8) (at + 8 + 17 * count) (number_bytes 4 (length rows)) _
          (subst (λ n. Spells c (at + 4) (number_bytes 4 n) (at + 4 + 4)) (sym (long ∙ count_is)) fourth) (omega arith) row_bytes))))

-- ---- its fields in the image

module _ (c : List ℕ) (gate : ℕ) where
  -- the versions
  versions_here : (vs : List ℕ) (at to : ℕ) → to ≡ gate + at → map (moved gate) (version_fields (drop gate c) vs at) ≡ version_fields c vs to
  versions_here [] at to place = refl
  versions_here (v ∷ vs) at to place =
      let number = rest_short c gate at ∙ ap (short_at c) (sym place) in
      let rest = versions_here vs (at + 4) (to + 4) (omega (arith, place)) in
      λ i. field_of (sym place i) 4 (nat_le v (number i)) ∷ rest i

  -- a row
  row_here : (at to : ℕ) → to ≡ gate + at → row_at (drop gate c) at ≡ row_at c to
  row_here at to place = grind (arith, rest_short, get_or-drop, rest_long)

  row_fields_here : (calcs windows at to : ℕ) (last : Option BlockRow) (r : BlockRow) → to ≡ gate + at
      → map (moved gate) (row_fields calcs windows last r at) ≡ row_fields calcs windows last r to
  row_fields_here calcs windows at to last r place = grind (arith, field_of)

  -- rows
  rows_here : (calcs windows : ℕ) (last : Option BlockRow) (n at to : ℕ) → to ≡ gate + at
      → map (moved gate) (rows_fields (drop gate c) calcs windows last at n) ≡ rows_fields c calcs windows last to n
  rows_here calcs windows last zero at to place = refl
  rows_here calcs windows last (suc n) at to place =
      let r = row_at (drop gate c) at in
      let one = row_fields_here calcs windows at to last r place in
      let rest = rows_here calcs windows (Some r) n (at + 17) (to + 17) (omega (arith, place)) in
      map-append (moved gate) (row_fields calcs windows last r at) (rows_fields (drop gate c) calcs windows (Some r) (at + 17) n)
      ∙ (λ i. one i ++ rest i)
      ∙ ap (λ x. row_fields calcs windows last x to ++ rows_fields c calcs windows (Some x) (to + 17) n) (row_here at to place)

  -- the counts, the rows, and the next gate
  counts_here : (calcs : ℕ) (before : BlockParts) (at to windows n : ℕ) → to ≡ gate + at
      → map (moved gate) (counts_on (drop gate c) calcs before at windows n) ≡ counts_on c calcs before to windows n
  counts_here calcs before at to windows n place = grind (arith, rows_here, map-append, field_of)

  -- all of them
  pub block_here : (calcs : ℕ) (before : BlockParts) → map (moved gate) (block_fields (drop gate c) calcs before 0) ≡ block_fields c calcs before gate
  block_here calcs before =
      let d = drop gate c in
      let at = 9 + 4 * length before.versions in
      let to = gate + 9 + 4 * length before.versions in
      let place : to ≡ gate + at = omega arith in
      let count_place : gate + (at + 4) ≡ to + 4 = omega arith in
      let number = rest_long c gate 1 in
      let windows = rest_short c gate at ∙ ap (short_at c) (sym place) in
      let count = rest_short c gate (at + 4) ∙ ap (short_at c) count_place in
      let versions = versions_here before.versions 9 (gate + 9) refl in
      let counts = counts_here calcs before at to (short_at d at) (short_at d (at + 4)) place
      ∙ (λ i. counts_on c calcs before to (windows i) (count i)) in
      let behind = map-append (moved gate) (version_fields d before.versions 9) (counts_on d calcs before at (short_at d at) (short_at d (at + 4)))
      ∙ (λ i. versions i ++ counts i) in
      λ i. field_of (gate + 1) 8 (nat_eq (number i) (before.number + 1)) ∷ behind i
