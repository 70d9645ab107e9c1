-- The records that are left of a text, as they are read one after another.
use Rattle.std.proofs.Common.{◌≡◌, ℕ, zero, suc, ◌+◌, ◌<◌, Bool, true, false, List, [], ◌∷◌, Some, None, length, refl, arith, sym, ap, ◌∙◌, add-one, Bor}
use Rattle.csv.specs.Machine.{Read, next_record}
use Rattle.csv.specs.Reading.{Reached, ReadRecord, Ready, default_config, is_flexible, records_from, records_next}
use Rattle.csv.specs.declared.parser.State.{State}
use Rattle.csv.specs.declared.parser.State.TheVariants as st
use Rattle.csv.specs.declared.reader.Reader.{Reader}
use Rattle.csv.proofs.ReadFacts.{rows-more, rows-end}
use Rattle.value_rows.specs.{HasLeft, IsNext, is_between, records_left}
use Rattle.value_rows.proofs.Between.{read_ends}

-- no record is read of no bytes between two records
none_left : (s : State) (p : Read) → is_between s ≡ true → next_record default_config s [] [] [] ≡ Some p → ⊥
unfolding next_record
none_left st.StartRecord p between found = cc
none_left st.AfterCr p between found = cc
none_left st.StartField p between found = cc
none_left st.InField p between found = cc
none_left st.InQuoted p between found = cc
none_left st.AfterQuote p between found = cc
none_left st.InEscape p between found = cc
none_left st.InComment p between found = cc

-- a read between two records shortens the text
shortens : (s : State) (xs : List ℕ) (p : Read) → is_between s ≡ true → next_record default_config s [] [] xs ≡ Some p → length p.2 < length xs
shortens s [] p between found = absurd (none_left s p between found)
shortens s (x ∷ xs) p between found = (read_ends s [] [] (x ∷ xs) p found).shorter (omega arith)

-- reads that are more than the bytes are enough
enough : (n m : ℕ) (s : State) (xs : List ℕ) → is_between s ≡ true → length xs < n → length xs < m
    → records_from default_config n s xs ≡ records_from default_config m s xs
unfolding records_from
enough zero m s xs between few less = absurd (omega arith)
enough (suc n) zero s xs between few less = absurd (omega arith)
enough (suc n) (suc m) s xs between few less =
    elim (next_record default_config s [] [] xs) as (λ o. next_record default_config s [] [] xs ≡ o
    → records_next (records_from default_config n) o ≡ records_next (records_from default_config m) o) [
      | None ↦ λ _. refl
      | Some p ↦ λ found.
          let short : length p.2 < length xs = shortens s xs p between found in
          ap (λ l. p.0 ∷ l) (enough n m p.1 p.2 (read_ends s [] [] xs p found).between (omega arith) (omega arith))
    ] refl

-- the records from a state on are those of one read and of what it leaves
one_read : (n : ℕ) (s : State) (xs : List ℕ) → records_from default_config (n + 1) s xs
    ≡ records_next (records_from default_config n) (next_record default_config s [] [] xs)
unfolding records_from
one_read n s xs = rw add-one refl

-- the first record that is left, and the others
pub first_left : (s : State) (xs : List ℕ) (p : Read) → is_between s ≡ true → next_record default_config s [] [] xs ≡ Some p
    → records_left s xs ≡ p.0 ∷ records_left p.1 p.2
first_left s xs p between found = grind (arith, read_ends, shortens, one_read, enough)

-- no record is left
nothing_left : (s : State) (xs : List ℕ) → next_record default_config s [] [] xs ≡ None → records_left s xs ≡ []
nothing_left s xs gone = one_read (length xs) s xs ∙ ap (records_next (records_from default_config (length xs))) gone

-- a reader that found the end
ended_next : (a b : Reader (Bor (List ℕ))) (fields : List (List ℕ)) (left : List (List (List ℕ))) → HasLeft a left
    → ReadRecord (λ (s : Bor (List ℕ)). Some s.now) a b false fields → left ≡ []
ended_next a b fields left has read = grind (arith, nothing_left, rows-end)

-- records that are left in the same state of the same bytes
same_left : (f g : List (List ℕ)) (s t : State) (xs ys : List ℕ) → f ≡ g → s ≡ t → xs ≡ ys → g ∷ records_left s xs ≡ f ∷ records_left t ys
same_left f g s t xs ys fields state bytes = cc

-- a reader that read a record
found_next : (a b : Reader (Bor (List ℕ))) (fields : List (List ℕ)) (left : List (List (List ℕ))) → HasLeft a left
    → ReadRecord (λ (s : Bor (List ℕ)). Some s.now) a b true fields → is_flexible b ≡ true → Ready b
    → (rest : List (List (List ℕ))) × (left ≡ fields ∷ rest) × HasLeft b rest
unfolding Reached
found_next a b fields left has read flexible ready =
    let more = rows-more (λ (s : Bor (List ℕ)). Some s.now) a b fields default_config a.state has.bytes has.bytes [] has.config has.source (refl, refl) read in
    let (z, source, reached) = more in
    let (p, found, same, tail) = reached in
    let (state, bytes) = tail in
    let ends = (read_ends a.state [] [] has.bytes p found).between in
    let first : records_left a.state has.bytes ≡ p.0 ∷ records_left p.1 p.2 = first_left a.state has.bytes p has.between found in
    let between : is_between b.state ≡ true = rw (← state) ends in (grind (arith, same_left))

-- a reader's next record
pub next_left : (a b : Reader (Bor (List ℕ))) (fields : List (List ℕ)) (left : List (List (List ℕ))) (found : Bool) → HasLeft a left
    → ReadRecord (λ (s : Bor (List ℕ)). Some s.now) a b found fields → is_flexible b ≡ true → Ready b → IsNext b fields left found
next_left a b fields left true has read flexible ready = found_next a b fields left has read flexible ready
next_left a b fields left false has read flexible ready = ended_next a b fields left has read

-- the same record comes next, so the same records are left
pub same_next : (s t : State) (xs ys : List ℕ) → is_between s ≡ true → is_between t ≡ true
    → next_record default_config s [] [] xs ≡ next_record default_config t [] [] ys → records_left s xs ≡ records_left t ys
same_next s t xs ys between_s between_t same =
    elim (next_record default_config t [] [] ys) as (λ o. next_record default_config t [] [] ys ≡ o → records_left s xs ≡ records_left t ys) [
      | None ↦ λ gone. nothing_left s xs (same ∙ gone) ∙ sym (nothing_left t ys gone)
      | Some p ↦ λ found. first_left s xs p between_s (same ∙ found) ∙ sym (first_left t ys p between_t found)
    ] refl

-- the records that are left are those of a read that begins with no field
pub left_is : (s : State) (xs : List ℕ) → is_between s ≡ true
    → records_left s xs ≡ records_next records_left (next_record default_config s [] [] xs)
left_is s xs between = grind (arith, nothing_left, first_left)
