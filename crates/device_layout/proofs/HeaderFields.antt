-- What a header says that keeps all fields.
use Rattle.std.proofs.Common.{◌≡◌, ℕ, ◌+◌, ◌<◌, ◌≤◌, Bool, true, All, List, ◌++◌, length, get_or, drop, sym, ◌∙◌, ap, subst, arith, lit<, length-take, length-drop, get_or-take, get_or-drop}
use Rattle.std.proofs.lemmas.{List.Elements.All-append, List.Elements.All-from_get_or, List.Sums.list_all-from_AllPass, List.FromFn.get_or-map-range_with_len, List.FromFn.length-map-range_with_len}
use Rattle.std.proofs.lemmas.Bool.{leb-true, lt-ltb, and_parts}
use Rattle.std.proofs.lemmas.List.{get_or-append-add, get_or_append_left}
use Rattle.trend_num.specs.{Names.is_name_byte, Names.IsName, Ranges.TuningInRange}
use Rattle.archive_file.specs.{Keeps}
use Rattle.device_layout.specs.{byte_field, byte_fields, is_name_at, front_fields, name_fields, number_fields, zero_fields, header_fields, name_in, tuning_in, slots_in, IsHeader}

-- all fields are kept where those of each part are
pub all_kept : (h : List ℕ) → All (Keeps h) (front_fields h) → All (Keeps h) (name_fields h)
    → All (Keeps h) (number_fields h ++ zero_fields h) → All (Keeps h) (header_fields h)
all_kept h front name rest =
    All-append (Keeps h) (front_fields h) (name_fields h ++ (number_fields h ++ zero_fields h)) front
    (All-append (Keeps h) (name_fields h) (number_fields h ++ zero_fields h) name rest)

-- fields of one byte each are kept where each byte passes
pub kept_bytes : (h : List ℕ) (test : ℕ → Bool) (at n : ℕ) → at + n ≤ length h
    → ((k : ℕ) → k < n → test (at + k) ≡ true) → All (Keeps h) (byte_fields test at n)
kept_bytes h test at n there passes k d low =
    let f = λ (i : ℕ). byte_field (at + i) (test (at + i)) in
    let less : k < n = omega (arith, low, length-map-range_with_len f 0 n) in
    subst (Keeps h) (sym (get_or-map-range_with_len f 0 n k k d less (omega arith)))
    (record { there = omega (arith, there, less); kept = passes k less })

module _ (h : List ℕ) (ok : IsHeader h) where
  -- the length of the name
  pub name_length : (1 ≤ get_or h 5 0) × (get_or h 5 0 ≤ 64)
  name_length =
      let both = and_parts _ _ (ok.fields 4 (byte_field 0 true) (lit< tt)).kept in
      (leb-true _ _ both.0, leb-true _ _ both.1)

  -- each of the 64 bytes of the name and of the zeros after it
  named : (k : ℕ) → k < 64 → is_name_at h (6 + k) ≡ true
  named k low =
      let d = byte_field 0 true in
      let there : get_or (header_fields h) (5 + k) d ≡ byte_field (6 + k) (is_name_at h (6 + k)) =
      get_or-append-add (front_fields h) (name_fields h ++ (number_fields h ++ zero_fields h)) k d
      ∙ get_or_append_left (name_fields h) (number_fields h ++ zero_fields h) d k low
      ∙ get_or-map-range_with_len (λ i. byte_field (6 + i) (is_name_at h (6 + i))) 0 64 k k d low (omega arith) in
      ap (λ f. f.is_kept) (sym there) ∙ (ok.fields (5 + k) d (omega (arith, low))).kept

  -- the bytes of the name are one
  pub header_name : IsName (name_in h)
  header_name = record {
    not_empty = omega (arith, long, name_length.0);
    fits = omega (arith, long, name_length.1);
    spelled = list_all-from_AllPass is_name_byte (name_in h)
        (All-from_get_or (λ x. is_name_byte x ≡ true) (name_in h) 0 spelled);
  }
    where
      long : length (name_in h) ≡ get_or h 5 0
      long = omega (arith, length-take (get_or h 5 0) (drop 6 h), length-drop 6 h, ok.size, name_length.1)

      spelled : (k : ℕ) → k < length (name_in h) → is_name_byte (get_or (name_in h) k 0) ≡ true
      spelled k there =
          ap is_name_byte (get_or-take (get_or h 5 0) (drop 6 h) k 0 (omega (arith, long, there)) ∙ get_or-drop 6 h k 0)
          ∙ rw (lt-ltb (6 + k) (6 + get_or h 5 0) (omega (arith, long, there)))
          at (named k (omega (arith, long, there, name_length.1)))

  -- the numbers are a tuning
  pub header_tuned : TuningInRange (tuning_in h)
  header_tuned = record {
    exc_dev = leb-true _ _ (ok.fields 69 (byte_field 0 true) (lit< tt)).kept;
    exc_max = leb-true _ _ (ok.fields 70 (byte_field 0 true) (lit< tt)).kept;
    comp_dev = leb-true _ _ (ok.fields 71 (byte_field 0 true) (lit< tt)).kept;
    comp_min = leb-true _ _ (ok.fields 72 (byte_field 0 true) (lit< tt)).kept;
    comp_max = leb-true _ _ (ok.fields 73 (byte_field 0 true) (lit< tt)).kept;
  }

  -- there is a lane slot, and there are not too many
  pub header_slots : (1 ≤ slots_in h) × (slots_in h ≤ 65536)
  header_slots =
      let both = and_parts _ _ (ok.fields 74 (byte_field 0 true) (lit< tt)).kept in
      (leb-true _ _ both.0, leb-true _ _ both.1)
