-- The header of a tag, after a gate, keeps the layout, and reads as what it was made of.
use Rattle.std.proofs.Common.{◌≡◌, inl, inr, ℕ, ◌+◌, ◌-◌, ◌^◌, ◌<◌, ◌≤◌, Bool, true, cond, ◌&&◌, eqb, leb, All, List, [], ◌∷◌, ◌++◌, length, get_or, take, drop, replicate, refl, sym, ◌∙◌, ap, subst, arith, append_assoc, length-append}
use Rattle.std.proofs.Common.{drop-drop, take_at, drop_at, get_or-drop}
use Rattle.std.proofs.lemmas.{List.get_or_append_left, List.get_or-append_right, List.get_or-replicate, List.length-replicate, List.Elements.All-append, List.Elements.All-get_or, List.Sums.AllPass-from_list_all}
use Rattle.std.proofs.lemmas.{Nat.from_be_bytes-to_be_bytes_8, Nat.from_be_bytes-to_be_bytes_4}
use Rattle.std.proofs.lemmas.Bool.{and_from, cases_lt, eq-eqb, le-leb, lt-ltb, le-ltb}
use Rattle.std.specs.Int.{w64, from_be_bytes, from_bool}
use Rattle.trend_num.specs.{declared.tag_def.TagDef.TagDef, Names.is_name_byte, Names.IsName, Ranges.TuningInRange}
use Rattle.archive_file.specs.{number_bytes, Keeps, long_at}
use Rattle.archive_file.proofs.Joins.{joined, joined_5}
use Rattle.archive_file.proofs.FirstFields.{kept_in}
use Rattle.device_layout.specs.{letters, name_in, tuning_in, slots_in, is_step_in, def_in, is_name_at, front_fields, name_fields, number_fields, zero_fields, IsHeader, tuning_image, header_image}
use Rattle.device_layout.proofs.HeaderFields.{all_kept, kept_bytes}

-- what comes after the name and its zeros
abbrev numbers_image : TagDef → ℕ → List ℕ
numbers_image def slots =
    tuning_image def.tuning ++ (number_bytes 4 slots ++ (cond def.step 1 0 ∷ replicate 13 0))

-- the zeros after the name
abbrev padding_of : TagDef → List ℕ
padding_of def = replicate (64 - length def.name) 0

-- the header after a gate of this byte
abbrev pub header_with : ℕ → TagDef → ℕ → List ℕ
header_with gate def slots = gate ∷ header_image def slots

-- the header is built piece by piece
pub header_built : (def : TagDef) (slots : ℕ) (a b c d e f : List ℕ) → a ≡ letters
    → b ≡ a ++ (length def.name ∷ (def.name ++ padding_of def)) → c ≡ b ++ tuning_image def.tuning
    → d ≡ c ++ number_bytes 4 slots → e ≡ d ++ (cond def.step 1 0 ∷ []) → f ≡ e ++ replicate 13 0
    → f ≡ header_image def slots
header_built def slots a b c d e f first name tuning lane step zeros = grind (arith, joined_5, append_assoc)

-- a name, its length before it and zeros after it, is added piece by piece
pub name_built : (name a b c d zeros : List ℕ) → b ≡ a ++ (length name ∷ []) → c ≡ b ++ name → d ≡ c ++ zeros
    → zeros ≡ replicate (64 - length name) 0 → d ≡ a ++ (length name ∷ (name ++ replicate (64 - length name) 0))
name_built name a b c d zeros counted named padded is =
    joined a b d (length name ∷ []) (name ++ zeros) counted (joined b c d name zeros named padded)
    ∙ ap (λ l. a ++ (length name ∷ (name ++ l))) is

-- the byte of a flag
pub flag_byte : (b : Bool) → from_bool b ≡ cond b 1 0
flag_byte b = grind arith

-- a flag is read of its byte
flag_read : (b : Bool) → eqb (cond b 1 0) 1 ≡ b
flag_read b = grind arith

-- and its byte is one of two
flag_small : (b : Bool) → leb (cond b 1 0) 1 ≡ true
flag_small b = grind arith

-- how long the header is after the gate
pub length-header_image : (def : TagDef) (slots : ℕ) → IsName def.name → length (header_image def slots) ≡ 127
length-header_image def slots name = grind (arith, length-append, length-replicate)

module _ (gate : ℕ) (def : TagDef) (slots : ℕ) (name : IsName def.name) where
  -- a header has 128 bytes
  size : length (header_with gate def slots) ≡ 128
  size = omega (arith, length-header_image def slots name)

  -- the numbers come after the name
  behind_name : drop 70 (header_with gate def slots) ≡ numbers_image def slots
  behind_name =
      ap (drop 64) (sym (append_assoc def.name (padding_of def) (numbers_image def slots)))
      ∙ drop_at (def.name ++ padding_of def) (numbers_image def slots) 64
      (grind (arith, length-append, length-replicate))

  -- each at its place
  number_there : (k n : ℕ) → n < 2 ^ 64 → take 8 (drop k (numbers_image def slots)) ≡ number_bytes 8 n
      → long_at (header_with gate def slots) (70 + k) ≡ n
  number_there k n small is =
      ap (λ l. from_be_bytes w64 (take 8 l)) (sym (drop-drop k 70 (header_with gate def slots))
      ∙ ap (drop k) behind_name)
      ∙ ap (from_be_bytes w64) is ∙ from_be_bytes-to_be_bytes_8 n small

  -- the flag
  step_there : get_or (header_with gate def slots) 114 0 ≡ cond def.step 1 0
  step_there = sym (get_or-drop 70 (header_with gate def slots) 44 0) ∙ ap (λ l. get_or l 44 0) behind_name

  -- the number of lane slots
  pub slots_image : slots < 2 ^ 32 → slots_in (header_with gate def slots) ≡ slots
  slots_image small = grind (
    arith,
    drop-drop 40 70 (header_with gate def slots),
    behind_name,
    from_be_bytes-to_be_bytes_4 slots small,
  )

  -- the definition of the tag
  pub def_image : TuningInRange def.tuning → def_in (header_with gate def slots) ≡ def
  def_image tuned = λ i. record { name = same_name i; tuning = same_tuning i; step = same_step i }
    where
      same_name : name_in (header_with gate def slots) ≡ def.name
      same_name = take_at def.name (padding_of def ++ numbers_image def slots) (length def.name) refl

      same_tuning : tuning_in (header_with gate def slots) ≡ def.tuning
      same_tuning = λ i. record {
        exc_dev = number_there 0 def.tuning.exc_dev (omega (arith, tuned.exc_dev)) refl i;
        exc_max = number_there 8 def.tuning.exc_max (omega (arith, tuned.exc_max)) refl i;
        comp_dev = number_there 16 def.tuning.comp_dev (omega (arith, tuned.comp_dev)) refl i;
        comp_min = number_there 24 def.tuning.comp_min (omega (arith, tuned.comp_min)) refl i;
        comp_max = number_there 32 def.tuning.comp_max (omega (arith, tuned.comp_max)) refl i;
      }

      same_step : is_step_in (header_with gate def slots) ≡ def.step
      same_step = ap (λ b. eqb b 1) step_there ∙ flag_read def.step

  -- the letters are kept, and the length of the name
  front_kept : All (Keeps (header_with gate def slots)) (front_fields (header_with gate def slots))
  front_kept =
      let length_ok : (leb 1 (length def.name) && leb (length def.name) 64) ≡ true = grind (arith, and_from, le-leb) in
      kept_in (header_with gate def slots) (front_fields (header_with gate def slots)) 128 size refl
      (and_from _ _ length_ok refl)

  -- each byte of the name, and each zero after it
  name_kept : All (Keeps (header_with gate def slots)) (name_fields (header_with gate def slots))
  name_kept =
      kept_bytes (header_with gate def slots) (is_name_at (header_with gate def slots)) 6 64 (omega (arith, size)) there
    where
      behind : List ℕ
      behind = padding_of def ++ numbers_image def slots

      byte : (k : ℕ) → get_or (header_with gate def slots) (6 + k) 0 ≡ get_or (def.name ++ behind) k 0
      byte k = sym (get_or-drop 6 (header_with gate def slots) k 0)

      there : (k : ℕ) → k < 64 → is_name_at (header_with gate def slots) (6 + k) ≡ true
      there k low = elim (cases_lt k (length def.name)) [
        | inl inside ↦ rw (lt-ltb (6 + k) (6 + length def.name) (omega (arith, inside)))
            (ap is_name_byte (byte k ∙ get_or_append_left def.name behind 0 k inside)
            ∙ All-get_or (λ x. is_name_byte x ≡ true) def.name k 0 inside
            (AllPass-from_list_all is_name_byte def.name name.spelled))
        | inr after ↦ rw (le-ltb (6 + k) (6 + length def.name) (omega (arith, after)))
            (eq-eqb _ _ (byte k ∙ get_or-append_right def.name behind (length def.name) k 0 refl after
            ∙ get_or_append_left (padding_of def) (numbers_image def slots) 0 (k - length def.name)
            (omega (arith, length-replicate {A = ℕ} (64 - length def.name) 0, after))
            ∙ get_or-replicate (64 - length def.name) (k - length def.name) 0 0 (omega (arith, after))))
      ]

  -- the tuning, the number of lane slots, and the flag
  numbers_kept : TuningInRange def.tuning → 1 ≤ slots → slots ≤ 65536
      → All (Keeps (header_with gate def slots)) (number_fields (header_with gate def slots))
  numbers_kept tuned some few =
      let fits = subst TuningInRange (sym (ap (λ d. d.tuning) (def_image tuned))) tuned in
      let lane = slots_image (omega (arith, few)) in
      kept_in (header_with gate def slots) (number_fields (header_with gate def slots)) 128 size refl
      (and_from _ _ (le-leb _ _ fits.exc_dev) (and_from _ _ (le-leb _ _ fits.exc_max)
      (and_from _ _ (le-leb _ _ fits.comp_dev) (and_from _ _ (le-leb _ _ fits.comp_min)
      (and_from _ _ (le-leb _ _ fits.comp_max) (and_from _ _ (and_from _ _
      (le-leb 1 _ (subst (λ n. 1 ≤ n) (sym lane) some)) (le-leb _ 65536 (subst (λ n. n ≤ 65536) (sym lane) few)))
      (and_from _ _ (ap (λ n. leb n 1) step_there ∙ flag_small def.step) refl)))))))

  -- the zeros at the end
  zeros_kept : All (Keeps (header_with gate def slots)) (zero_fields (header_with gate def slots))
  zeros_kept =
      kept_bytes (header_with gate def slots) (λ at. eqb (get_or (header_with gate def slots) at 0) 0) 115 13
      (omega (arith, size)) there
    where
      behind : drop 115 (header_with gate def slots) ≡ replicate 13 0
      behind = sym (drop-drop 45 70 (header_with gate def slots)) ∙ ap (drop 45) behind_name

      there : (k : ℕ) → k < 13 → eqb (get_or (header_with gate def slots) (115 + k) 0) 0 ≡ true
      there k low =
          eq-eqb _ _ (sym (get_or-drop 115 (header_with gate def slots) k 0) ∙ ap (λ l. get_or l k 0) behind
          ∙ get_or-replicate 13 k 0 0 low)

  -- all of it is a header
  pub header_made : TuningInRange def.tuning → 1 ≤ slots → slots ≤ 65536 → IsHeader (header_with gate def slots)
  header_made tuned some few = record {
    size = size;
    fields = all_kept (header_with gate def slots) front_kept name_kept
        (All-append (Keeps (header_with gate def slots)) (number_fields (header_with gate def slots))
        (zero_fields (header_with gate def slots)) (numbers_kept tuned some few) zeros_kept);
  }
