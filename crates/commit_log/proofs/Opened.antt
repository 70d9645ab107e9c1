-- A log while it is opened.
use Rattle.std.proofs.Common.{◌≡◌, inl, inr, ℕ, ◌+◌, ◌≤◌, true, List, [], length, drop, Option, None, Some, refl, sym, ap, subst, arith, lit<, length-take}
use Rattle.disk_model.specs.{Reaches, Shows, IsBegun, IsNew, During, Synced, Trace, noted, seen}
use Rattle.disk_model.proofs.Moments.{in_turn, weaker}
use Rattle.commit_log.specs.{Stored, LogRow, IsBlockDamage, BadHead, ByBlocks, ByNothing, IsLogDamage, LogsNothing, StandsForRows, letters, IsFound, IsLogLeftOrSame, IsLeftOrStands, IsTooMany, Stores}
use Rattle.archive_file.specs.{BreaksFirst, short_at, IsOfText, head_fields}
use Rattle.archive_file.proofs.FieldLaws.{field_of}
use Rattle.commit_log.proofs.Commits.{stores_stand}

-- ---- a log that is there

-- it is stored
pub found_stores : (plant : List ℕ) (tags : ℕ) (o : Trace) (f : Option Stored) (s : Stored) → f ≡ Some s
    → Shows o (IsFound plant tags f) → Shows o (Stores plant tags s.rows.items s.end)
found_stores plant tags t f s is found = subst (λ x. IsFound plant tags x (seen t)) is found

-- what is stored is stood for
pub found_stands : (plant : List ℕ) (tags : ℕ) (o : Trace) (f : Option Stored) (s : Stored) → f ≡ Some s
    → Shows o (IsFound plant tags f) → Shows o (λ c. StandsForRows plant tags c s.rows.items)
found_stands plant tags t f s is found =
    stores_stand plant tags s.rows.items s.end (seen t) (subst (λ x. IsFound plant tags x (seen t)) is found)

-- with the room its rows are too many
pub found_many : (plant : List ℕ) (tags room n : ℕ) (o : Trace) (f : Option Stored) (s : Stored) → f ≡ Some s
    → n ≡ length s.rows.items + room → Shows o (IsFound plant tags f) → Shows o (IsTooMany plant tags room n)
found_many plant tags room n t f s is together found = record {
  rows = s.rows.items;
  stands = stores_stand plant tags s.rows.items s.end (seen t) (subst (λ x. IsFound plant tags x (seen t)) is found);
  together = together;
}

-- after the text there is the gate of the first block
text_room : (text c : List ℕ) → IsOfText letters text c → 9 + length text + 1 ≤ length c
text_room text c is =
    let last : 9 + (short_at c 5 + 1) ≤ length c = (is.head.fields 5 (field_of 0 0 true) (lit< tt)).there in
    omega (arith, last, ap length is.same, length-take (short_at c 5) (drop 9 c))

pub gate_reached : (o : Trace) (text : List ℕ) (at : ℕ) → at ≡ 9 + length text → Shows o (IsOfText letters text) → Reaches o (at + 1)
gate_reached t text at place is = omega (arith, place, text_room text (seen t) is)

-- a head or a block breaks a rule
pub head_damage : (plant : List ℕ) (tags : ℕ) (o : Trace) (a : ℕ) (byte : Option ℕ) → Shows o IsBegun
    → Shows o (λ c. BreaksFirst c (head_fields letters c) a byte) → Shows o (λ c. IsLogDamage plant tags c a byte)
head_damage plant tags t a byte begun breaks = BadHead begun breaks

pub block_damage : (plant text : List ℕ) (tags at : ℕ) (o : Trace) (a : ℕ) (byte : Option ℕ) → text ≡ plant → at ≡ 9 + length text
    → Shows o (IsOfText letters text) → Shows o (λ c. IsBlockDamage c tags at a byte) → Shows o (λ c. IsLogDamage plant tags c a byte)
block_damage plant text tags at t a byte same place is damage = grind arith

-- ---- a new device

-- what has no rows stands for none
nothing_stands : (plant : List ℕ) (tags : ℕ) (c : List ℕ) → LogsNothing plant c → StandsForRows plant tags c []
nothing_stands plant tags c (inl new) = ByNothing new refl
nothing_stands plant tags c (inr empty) =
    ByBlocks [] (record { of_plant = empty.of_text; blocks = record { blocks = tt; shut = empty.shut } }) refl

-- a new device was found
pub found_new : (plant : List ℕ) (tags : ℕ) (o : Trace) (f : Option Stored) → f ≡ None → Shows o (IsFound plant tags f) → Shows o IsNew
found_new plant tags t f is found = subst (λ x. IsFound plant tags x (seen t)) is found

-- what is begun after a sync stands for no rows
pub begun_stands : (plant : List ℕ) (tags : ℕ) (rows : List LogRow) (o mid new : Trace) → rows ≡ []
    → During o mid (IsLeftOrStands plant tags rows o) → During mid new (LogsNothing plant) → During o new (IsLeftOrStands plant tags rows o)
begun_stands plant tags rows o mid new none before begun =
    in_turn o mid new (IsLeftOrStands plant tags rows o) before
    (weaker mid new (LogsNothing plant) (IsLeftOrStands plant tags rows o)
    (λ c nothing. inr (subst (StandsForRows plant tags c) (sym none) (nothing_stands plant tags c nothing))) begun)

-- and for what stood before
pub begun_same : (plant : List ℕ) (tags : ℕ) (o mid new : Trace) → mid ≡ noted Synced o → Shows mid IsNew
    → During o mid (IsLogLeftOrSame plant tags o) → During mid new (LogsNothing plant) → During o new (IsLogLeftOrSame plant tags o)
begun_same plant tags o mid new synced is before begun =
    in_turn o mid new (IsLogLeftOrSame plant tags o) before
    (weaker mid new (LogsNothing plant) (IsLogLeftOrSame plant tags o)
    (λ c nothing. inr (record {
      rows = [];
      stood = ByNothing (new_seen o mid synced is) refl;
      stands = nothing_stands plant tags c nothing;
    })) begun)
  where
    new_seen : (x y : Trace) → y ≡ noted Synced x → Shows y IsNew → IsNew (seen x)
    new_seen t y synced is = subst (λ x. Shows x IsNew) synced is
