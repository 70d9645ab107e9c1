-- A scan goes along with a reader's state, one byte after the other.
use Rattle.std.proofs.Common.{arith, ◌≡◌, ℕ, ◌+◌, Bool, true, false, refl}
use Rattle.std.proofs.lemmas.Bool.{eqb-true, false≢true}
use Rattle.csv.specs.Machine.{step}
use Rattle.csv.specs.Reading.{default_config}
use Rattle.csv.specs.declared.parser.Action.{Action}
use Rattle.csv.specs.declared.parser.Action.TheVariants as act
use Rattle.csv.specs.declared.parser.State.{State}
use Rattle.csv.specs.declared.parser.State.TheVariants as st
use Rattle.value_rows.specs.{ended_after, part_after, is_between, FieldPart}
use Rattle.value_rows.specs.declared.narrow.FieldPart.TheVariants.{Begin, Unquoted, Quoted, BehindQuote}
use Rattle.value_rows.proofs.PlainRow.{IsBare}

-- the states that a reader with the default configuration comes to
abbrev pub is_used : State → Bool
is_used st.InEscape = false
is_used st.InComment = false
is_used other = true

-- where in a field a reader in this state is
abbrev pub part_of : State → FieldPart
part_of st.InField = Unquoted
part_of st.InQuoted = Quoted
part_of st.AfterQuote = BehindQuote
part_of other = Begin

-- a reader may be in this state when as many fields of its record have ended: none, if it is between two records
pub record Stands (s : State) (ended : ℕ) : Type 0 where
  pub used : is_used s ≡ true
  pub fresh : is_between s ≡ true → ended ≡ 0

-- how many fields have ended after an action; none of a new record
abbrev pub count_after : Action → ℕ → ℕ
count_after act.EndField ended = ended + 1
count_after act.Skip ended = ended
count_after act.Copy ended = ended
count_after act.EndRecord ended = 0

-- what a byte does to a reader, and to a scan
pub record Follows (ended : ℕ) (next : State × Action) (part : FieldPart) (count : ℕ) : Type 0 where
  pub stands : Stands next.0 (count_after next.1 ended)
  pub part_is : part_of next.0 ≡ part
  pub count_is : count_after next.1 ended ≡ count

-- each byte is one of these
each_byte : (P : ℕ → Type 0) → P 34 → P 44 → P 13 → P 10 → ((c : ℕ) → IsBare c → P c) → (c : ℕ) → P c
each_byte P quote comma return feed bare c = grind (arith, eqb-true)

-- inside a record nothing is to be shown of a state between two
inside : (s : State) (ended : ℕ) → is_used s ≡ true → is_between s ≡ false → Stands s ended
inside s ended used within = record { used = used; fresh = λ between. absurd (cc) }

-- what follows a byte, for a reader in this state and the scan beside it
abbrev FollowsFrom : State → ℕ → ℕ → Type 0
FollowsFrom s ended c = Follows ended (step default_config s c) (part_after (part_of s) c) (ended_after (part_of s) ended c)

-- another byte of a field
copied : (s : State) (ended : ℕ) → is_used s ≡ true → is_between s ≡ false → Follows ended (s, act.Copy) (part_of s) ended
copied s ended used within = record { stands = inside s ended used within; part_is = refl; count_is = refl }

-- a quote
skipped : (s : State) (ended : ℕ) → is_used s ≡ true → is_between s ≡ false → Follows ended (s, act.Skip) (part_of s) ended
skipped s ended used within = record { stands = inside s ended used within; part_is = refl; count_is = refl }

-- a comma
field_ended : (ended : ℕ) → Follows ended (st.StartField, act.EndField) Begin (ended + 1)
field_ended ended = record { stands = inside st.StartField (ended + 1) refl refl; part_is = refl; count_is = refl }

-- a line end behind a record
fed : (ended : ℕ) → Follows ended (st.StartRecord, act.EndRecord) Begin 0
fed ended = record { stands = record { used = refl; fresh = λ _. refl }; part_is = refl; count_is = refl }

returned : (ended : ℕ) → Follows ended (st.AfterCr, act.EndRecord) Begin 0
returned ended = record { stands = record { used = refl; fresh = λ _. refl }; part_is = refl; count_is = refl }

-- a line end between two records
passed : (ended : ℕ) → ended ≡ 0 → Follows ended (st.StartRecord, act.Skip) Begin 0
passed ended none = record { stands = record { used = refl; fresh = λ _. none }; part_is = refl; count_is = none }

-- a scan follows a reader in each state
pub follows : (s : State) (ended c : ℕ) → Stands s ended → FollowsFrom s ended c
follows st.StartRecord ended c at =
    each_byte (FollowsFrom st.StartRecord ended) (skipped st.InQuoted ended refl refl) (field_ended ended)
    (passed ended (at.fresh refl)) (passed ended (at.fresh refl))
    (λ b is. rw (is.quote, is.comma, is.return, is.feed) (copied st.InField ended refl refl)) c
follows st.AfterCr ended c at =
    each_byte (FollowsFrom st.AfterCr ended) (skipped st.InQuoted ended refl refl) (field_ended ended)
    (passed ended (at.fresh refl)) (passed ended (at.fresh refl))
    (λ b is. rw (is.quote, is.comma, is.return, is.feed) (copied st.InField ended refl refl)) c
follows st.StartField ended c at =
    each_byte (FollowsFrom st.StartField ended) (skipped st.InQuoted ended refl refl) (field_ended ended)
    (returned ended) (fed ended)
    (λ b is. rw (is.quote, is.comma, is.return, is.feed) (copied st.InField ended refl refl)) c
follows st.InField ended c at =
    each_byte (FollowsFrom st.InField ended) (copied st.InField ended refl refl) (field_ended ended) (returned ended)
    (fed ended) (λ b is. rw (is.comma, is.return, is.feed) (copied st.InField ended refl refl)) c
follows st.InQuoted ended c at =
    each_byte (FollowsFrom st.InQuoted ended) (skipped st.AfterQuote ended refl refl) (copied st.InQuoted ended refl refl)
    (copied st.InQuoted ended refl refl) (copied st.InQuoted ended refl refl)
    (λ b is. rw is.quote (copied st.InQuoted ended refl refl)) c
follows st.AfterQuote ended c at =
    each_byte (FollowsFrom st.AfterQuote ended) (copied st.InQuoted ended refl refl) (field_ended ended) (returned ended)
    (fed ended) (λ b is. rw (is.quote, is.comma, is.return, is.feed) (copied st.InField ended refl refl)) c
follows st.InEscape ended c at = absurd (false≢true at.used)
follows st.InComment ended c at = absurd (false≢true at.used)
