-- What the row at a place leaves, and where it is due.
use Rattle.std.proofs.Common.{◌≡◌, ◌≢◌, ◌↔◌, ℕ, zero, suc, ◌+◌, List, [], ◌∷◌, Option, None, Some, Bor, Bool, false, IsTrue, sym, refl, ◌∙◌}
use Rattle.std.specs.Option.{option_map}
use Rattle.std.proofs.lemmas.Bool.{false≢true}
use Rattle.trend_num.specs.{Point, TagQuery}
use Rattle.value_rows.specs.{Query, RawRow}
use Rattle.value_rows.specs.declared.asked.Query.TheVariants as query
use Rattle.plant_status.specs.{Seen}
use Rattle.plant_status.specs.declared.mismatch.Seen.TheVariants.{Take, Ask, Row}
use Rattle.session_audit.specs.{Item, Rows}
use Rattle.session_audit.specs.declared.agenda.Rows.TheVariants.{Takes, Asks, RowAsks}
use Rattle.session_audit.specs.Agendas.{ask_item, items_in, left_by, numbered, phase_item, row_item}

-- what one row leaves
abbrev pub left : Option Item → Option Seen
left item = option_map (λ i. i.seen) item

-- what holds of nothing and of what each row leaves holds of what is left at each place
left_each : {A : Type 0} (f : ℕ → A → Option Item) (P : Option Seen → Type 0) (n : ℕ) (rows : List A) (place : ℕ) → P None
    → ((k : ℕ) (a : A) → P (left (f k a))) → P (left_by (numbered f n rows) place)
left_each f P n [] place none each = none
left_each f P n (a ∷ rest) zero none each = each n a
left_each f P n (a ∷ rest) (suc i) none each = left_each f P (n + 1) rest i none each

-- a question of one kind leaves no take, and no question of the other kind
ask_no_take : (reader row c r : ℕ) (p : Point) (q : Query) → left (ask_item reader row q) ≢ Some (Take c r p)
ask_no_take reader row c r p (query.Tag tag asked) = λ is. cc
ask_no_take reader row c r p (query.Snap tag) = λ is. cc
ask_no_take reader row c r p (query.Row group calc k) = λ is. cc

row_no_take : (reader row c r : ℕ) (p : Point) (q : Query) → left (row_item reader row q) ≢ Some (Take c r p)
row_no_take reader row c r p (query.Tag tag asked) = λ is. cc
row_no_take reader row c r p (query.Snap tag) = λ is. cc
row_no_take reader row c r p (query.Row group calc k) = λ is. cc

row_no_ask : (reader row c r : ℕ) (t : TagQuery) (q : Query) → left (row_item reader row q) ≢ Some (Ask c r t)
row_no_ask reader row c r t (query.Tag tag asked) = λ is. cc
row_no_ask reader row c r t (query.Snap tag) = λ is. cc
row_no_ask reader row c r t (query.Row group calc k) = λ is. cc

ask_no_row : (reader row c r calc k : ℕ) (q : Query) → left (ask_item reader row q) ≢ Some (Row c r calc k)
ask_no_row reader row c r calc k (query.Tag tag asked) = λ is. cc
ask_no_row reader row c r calc k (query.Snap tag) = λ is. cc
ask_no_row reader row c r calc k (query.Row group its_calc its_k) = λ is. cc

-- so rows of another kind leave no take
pub no_take : (worker place c r : ℕ) (p : Point) (rows : Rows)
    → ((takes : Bor (List RawRow)) (earlier : ℕ) → rows ≡ Takes takes earlier → ⊥)
    → left_by (items_in worker rows) place ≢ Some (Take c r p)
no_take worker place c r p (Takes rows earlier) other = absurd (other rows earlier refl)
no_take worker place c r p (Asks queries) other =
    left_each (ask_item worker) (λ o. o ≢ Some (Take c r p)) 1 queries.now place (λ is. cc) (λ k q. ask_no_take worker k c r p q)
no_take worker place c r p (RowAsks queries) other =
    left_each (row_item worker) (λ o. o ≢ Some (Take c r p)) 1 queries.now place (λ is. cc) (λ k q. row_no_take worker k c r p q)

-- no question about a tag
pub no_ask : (worker place c r : ℕ) (t : TagQuery) (rows : Rows) → ((queries : Bor (List Query)) → rows ≡ Asks queries → ⊥)
    → left_by (items_in worker rows) place ≢ Some (Ask c r t)
no_ask worker place c r t (Takes rows earlier) other =
    left_each (phase_item earlier worker) (λ o. o ≢ Some (Ask c r t)) 1 rows.now place (λ is. cc) (λ k v. λ is. cc)
no_ask worker place c r t (Asks queries) other = absurd (other queries refl)
no_ask worker place c r t (RowAsks queries) other =
    left_each (row_item worker) (λ o. o ≢ Some (Ask c r t)) 1 queries.now place (λ is. cc) (λ k q. row_no_ask worker k c r t q)

-- and no question for a calculation
pub no_row_ask : (worker place c r calc k : ℕ) (rows : Rows) → ((queries : Bor (List Query)) → rows ≡ RowAsks queries → ⊥)
    → left_by (items_in worker rows) place ≢ Some (Row c r calc k)
no_row_ask worker place c r calc k (Takes rows earlier) other =
    left_each (phase_item earlier worker) (λ o. o ≢ Some (Row c r calc k)) 1 rows.now place (λ is. cc) (λ n v. λ is. cc)
no_row_ask worker place c r calc k (Asks queries) other =
    left_each (ask_item worker) (λ o. o ≢ Some (Row c r calc k)) 1 queries.now place (λ is. cc) (λ n q. ask_no_row worker n c r calc k q)
no_row_ask worker place c r calc k (RowAsks queries) other = absurd (other queries refl)

-- a test that is never met answers no
pub never : (b : Bool) (A : Type 0) → b ≡ false → (A → ⊥) → IsTrue b ↔ A
never b A is none = ((λ yes. absurd (false≢true (sym is ∙ yes))), (λ a. absurd (none a)))
