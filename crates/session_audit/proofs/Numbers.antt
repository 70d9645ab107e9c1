-- Rows of a worker: how many there are, and one of them.
use Rattle.std.proofs.Common.{◌≡◌, ℕ, zero, suc, ◌+◌, ◌-◌, ◌<◌, ◌≤◌, true, false, nat_le, List, [], ◌∷◌, length, get_or, None, refl, sym, ap, ◌∙◌, arith, Bor}
use Rattle.std.proofs.lemmas.Bool.Decides.{nat_tests}
use Rattle.value_rows.specs.{Query, RawRow}
use Rattle.session_audit.specs.{Agenda}
use Rattle.session_audit.specs.declared.agenda.Rows.TheVariants.{Takes, Asks, RowAsks}
use Rattle.session_audit.specs.Agendas.{ask_item, items_in, items_of, number_in, numbered, phase_item, row_item}

-- there are as many
pub length-numbered : {A B : Type 0} (f : ℕ → A → B) (n : ℕ) (rows : List A)
    → length (numbered f n rows) ≡ length rows
length-numbered f n [] = refl
length-numbered f n (a ∷ rest) = ap suc (length-numbered f (n + 1) rest)

-- one of them is made of its row and its number
pub numbered_at : {A B : Type 0} (f : ℕ → A → B) (n : ℕ) (rows : List A) (i : ℕ) (a : A) (b : B)
    → i < length rows → get_or (numbered f n rows) i b ≡ f (i + n) (get_or rows i a)
numbered_at f n [] i a b within = absurd (omega arith)
numbered_at f n (x ∷ rest) zero a b within = ap (λ k. f k x) (omega arith)
numbered_at f n (x ∷ rest) (suc i) a b within =
    let number : i + (n + 1) ≡ suc i + n = omega arith in
    numbered_at f (n + 1) rest i a b (omega arith) ∙ ap (λ k. f k (get_or rest i a)) number

-- the number of a row in its phase: the first ones keep theirs, and those after them are numbered again
pub number_first : (earlier row : ℕ) → row ≤ earlier → number_in earlier row ≡ row
number_first zero row upto = refl
number_first (suc earlier) row upto = rw (within upto) refl
  where
    within : row ≤ suc earlier → nat_le row (suc earlier) ≡ true
    within h = grind (arith, nat_tests, h)

pub number_again : (earlier row : ℕ) → earlier < row → number_in earlier row ≡ row - earlier
number_again zero row behind = omega arith
number_again (suc earlier) row behind = rw (past behind) refl
  where
    past : suc earlier < row → nat_le row (suc earlier) ≡ false
    past h = grind (arith, nat_tests, h)

-- as many as a collector has, and as a reader has
pub takes_length : (a : Agenda) (rows : Bor (List RawRow)) (earlier : ℕ) → a.rows ≡ Takes rows earlier
    → length (items_of a) ≡ length rows.now
takes_length a rows earlier is =
    ap (λ r. length (items_in a.worker r)) is ∙ length-numbered (phase_item earlier a.worker) 1 rows.now

pub asks_length : (a : Agenda) (queries : Bor (List Query)) → a.rows ≡ Asks queries
    → length (items_of a) ≡ length queries.now
asks_length a queries is =
    ap (λ r. length (items_in a.worker r)) is ∙ length-numbered (ask_item a.worker) 1 queries.now

pub row_asks_length : (a : Agenda) (queries : Bor (List Query)) → a.rows ≡ RowAsks queries
    → length (items_of a) ≡ length queries.now
row_asks_length a queries is =
    ap (λ r. length (items_in a.worker r)) is ∙ length-numbered (row_item a.worker) 1 queries.now

-- what a collector's row at a place is, and a reader's
pub take_there : (a : Agenda) (rows : Bor (List RawRow)) (earlier place : ℕ) (v : RawRow) → a.rows ≡ Takes rows earlier
    → place < length rows.now → phase_item earlier a.worker (place + 1) (get_or rows.now place v) ≡ get_or (items_of a) place None
take_there a rows earlier place v is within =
    sym (ap (λ r. get_or (items_in a.worker r) place None) is
    ∙ numbered_at (phase_item earlier a.worker) 1 rows.now place v None within)

pub ask_there : (a : Agenda) (queries : Bor (List Query)) (place : ℕ) (q : Query) → a.rows ≡ Asks queries
    → place < length queries.now
    → ask_item a.worker (place + 1) (get_or queries.now place q) ≡ get_or (items_of a) place None
ask_there a queries place q is within =
    sym (ap (λ r. get_or (items_in a.worker r) place None) is
    ∙ numbered_at (ask_item a.worker) 1 queries.now place q None within)

pub row_ask_there : (a : Agenda) (queries : Bor (List Query)) (place : ℕ) (q : Query) → a.rows ≡ RowAsks queries
    → place < length queries.now
    → row_item a.worker (place + 1) (get_or queries.now place q) ≡ get_or (items_of a) place None
row_ask_there a queries place q is within =
    sym (ap (λ r. get_or (items_in a.worker r) place None) is
    ∙ numbered_at (row_item a.worker) 1 queries.now place q None within)
