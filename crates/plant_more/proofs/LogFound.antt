-- The rows of collectors that were found on a tape, put by put.
use Rattle.std.proofs.Common.{◌≡◌, ℕ, zero, suc, ◌+◌, ◌<◌, ◌≤◌, List, [], ◌∷◌, ◌++◌, length, get_or, take, refl, sym, ap, ◌∙◌, subst, inl, inr, arith}
use Rattle.std.specs.Prelude.{◌≢◌, ◌⊎◌, Some, nat_eq, replicate, slice_get, slice_index}
use Rattle.std.proofs.lemmas.List.{append-nil, get_or-set_other, get_or-set_same, length-set, length-replicate, take_all, take_more}
use Rattle.std.proofs.lemmas.List.Elements.{filter-append}
use Rattle.std.proofs.lemmas.Bool.{cases_eq, cases_lt}
use Rattle.std.proofs.lemmas.Option.{get_or_from_slice_get, slice_get_within}
use Rattle.value_rows.specs.{RawRow}
use Rattle.commit_log.specs.{LogTurn, LogRow, puts}
use Rattle.commit_log.specs.declared.history.LogTurn.TheVariants.{Put, Commit}
use Rattle.commit_log.proofs.Tapes.{puts-append}
use Rattle.plant_more.specs.LogFinding.{AreFound, AreWhole, IsFollowed, rows_by, rows_in}
use Rattle.plant_more.proofs.LogRows.{rows_of_none}

-- a row of a collector among these alone
pub by_own : (row : LogRow) → rows_by row.collector (row ∷ []) ≡ row ∷ []
by_own row = grind arith

-- a row of another one
pub by_other : (collector : ℕ) (row : LogRow) → collector ≢ row.collector → rows_by collector (row ∷ []) ≡ []
by_other collector row other = grind arith

-- the first n + 1 where the one at n is known
take_known : {A : Type 0} (xs : List A) (n : ℕ) (x : A) → slice_get xs n ≡ Some x → take (n + 1) xs ≡ take n xs ++ x ∷ []
take_known {A = A} xs n x there =
    take_more xs n x (slice_get_within xs n x there) ∙ ap (λ (y : A). take n xs ++ y ∷ []) (get_or_from_slice_get xs n x x there)

-- no put, and of no collector any row
pub none_found : (files : List (List RawRow)) (next : List ℕ) → next ≡ replicate (length files) 0 → AreFound files [] next
none_found files next is = record {
  as_many = ap length is ∙ length-replicate (length files) 0;
  each = λ collector. sym (ap (λ (n : ℕ). take n (rows_in files collector)) (zero_at collector));
  within = λ collector. omega (arith, zero_at collector);
}
  where
    zeros : (n c : ℕ) → slice_index (replicate n 0) c ≡ 0
    zeros zero c = refl
    zeros (suc n) zero = refl
    zeros (suc n) (suc c) = zeros n c

    zero_at : (collector : ℕ) → slice_index next collector ≡ 0
    zero_at collector = ap (λ (l : List ℕ). slice_index l collector) is ∙ zeros (length files) collector

-- a commit is no put
pub commit_found : (files : List (List RawRow)) (tape : List LogTurn) (next : List ℕ) (moment acked : ℕ) → AreFound files tape next
    → AreFound files (tape ++ Commit moment acked ∷ []) next
commit_found files tape next moment acked found = record {
  as_many = found.as_many;
  each = λ collector. ap (rows_by collector) (puts-append tape (Commit moment acked ∷ []) ∙ append-nil (puts tape)) ∙ found.each collector;
  within = found.within;
}

-- the next row of its collector is put
pub one_found : (files : List (List RawRow)) (tape : List LogTurn) (row : LogRow) (old new : List ℕ) → AreFound files tape old
    → IsFollowed files row old new → AreFound files (tape ++ Put row ∷ []) new
one_found files tape row old new found is = record {
  as_many = ap length is.changed ∙ (length-set old row.collector _ ∙ found.as_many);
  each = λ collector. each_of collector (cases_eq collector row.collector);
  within = λ collector. within_of collector (cases_eq collector row.collector);
}
  where
    more : (collector : ℕ) → rows_by collector (puts (tape ++ Put row ∷ [])) ≡ rows_by collector (puts tape) ++ rows_by collector (row ∷ [])
    more collector = ap (rows_by collector) (puts-append tape (Put row ∷ []))
        ∙ filter-append (λ (r : LogRow). nat_eq r.collector collector) (puts tape) (row ∷ [])

    own : slice_index new row.collector ≡ slice_index old row.collector + 1
    own = ap (λ (l : List ℕ). slice_index l row.collector) is.changed ∙ get_or-set_same old row.collector _ 0 is.there

    other : (collector : ℕ) → collector ≢ row.collector → slice_index new collector ≡ slice_index old collector
    other collector differs = ap (λ (l : List ℕ). slice_index l collector) is.changed ∙ get_or-set_other old row.collector collector _ 0 differs

    each_of : (collector : ℕ) → (collector ≡ row.collector) ⊎ (collector ≢ row.collector)
        → rows_by collector (puts (tape ++ Put row ∷ [])) ≡ take (slice_index new collector) (rows_in files collector)
    each_of collector (inl same) =
        rw same
        (more row.collector ∙ (ap (λ (l : List LogRow). l ++ rows_by row.collector (row ∷ [])) (found.each row.collector)
        ∙ (ap (λ (l : List LogRow). take (slice_index old row.collector) (rows_in files row.collector) ++ l) (by_own row)
        ∙ (sym (take_known (rows_in files row.collector) (slice_index old row.collector) row is.due)
        ∙ ap (λ (n : ℕ). take n (rows_in files row.collector)) (sym own)))))
    each_of collector (inr differs) =
        more collector ∙ (ap (λ (l : List LogRow). rows_by collector (puts tape) ++ l) (by_other collector row differs)
        ∙ (append-nil (rows_by collector (puts tape)) ∙ (found.each collector
        ∙ ap (λ (n : ℕ). take n (rows_in files collector)) (sym (other collector differs)))))

    within_of : (collector : ℕ) → (collector ≡ row.collector) ⊎ (collector ≢ row.collector)
        → slice_index new collector ≤ length (rows_in files collector)
    within_of collector (inl same) =
        let before : slice_index old row.collector < length (rows_in files row.collector) = slice_get_within _ _ row is.due in
        rw same (omega (arith, own, before))
    within_of collector (inr differs) = omega (arith, other collector differs, found.within collector)

-- where all rows of each collector were found, they are all that there is
pub all_found : (files : List (List RawRow)) (tape : List LogTurn) (next : List ℕ) → AreFound files tape next
    → ((c : ℕ) → c < length files → slice_index next c ≡ length (rows_in files c)) → AreWhole files tape
all_found files tape next found all = λ c. found.each c ∙ take_all (slice_index next c) (rows_in files c) (long c)
  where
    long : (c : ℕ) → length (rows_in files c) ≤ slice_index next c
    long c = elim (cases_lt c (length files)) [
      | inl few ↦ omega (arith, all c few)
      | inr past ↦ omega (arith, ap length (rows_of_none files c past))
    ]

-- one turn more, which puts the next row of its collector
pub put_turn : (files : List (List RawRow)) (tape : List LogTurn) (place : ℕ) (d : LogTurn) (row : LogRow) (old new : List ℕ)
    → place < length tape → get_or tape place d ≡ Put row → AreFound files (take place tape) old → IsFollowed files row old new
    → AreFound files (take (place + 1) tape) new
put_turn files tape place d row old new few is found followed =
    subst (λ (t : List LogTurn). AreFound files t new)
    (sym (take_more tape place d few ∙ ap (λ (e : LogTurn). take place tape ++ e ∷ []) is))
    (one_found files (take place tape) row old new found followed)

-- one turn more, which puts no row
pub other_turn : (files : List (List RawRow)) (tape : List LogTurn) (place : ℕ) (d : LogTurn) (next : List ℕ) → place < length tape
    → ((row : LogRow) → get_or tape place d ≢ Put row) → AreFound files (take place tape) next → AreFound files (take (place + 1) tape) next
other_turn files tape place d next few other found =
    subst (λ (t : List LogTurn). AreFound files t next) (sym (take_more tape place d few)) (by_kind (get_or tape place d) other)
  where
    by_kind : (turn : LogTurn) → ((row : LogRow) → turn ≢ Put row) → AreFound files (take place tape ++ turn ∷ []) next
    by_kind (Put row) other = absurd (other row refl)
    by_kind (Commit moment acked) other = commit_found files (take place tape) next moment acked found
