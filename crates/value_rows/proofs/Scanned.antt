-- What a reader has of a text that was scanned so far, and what it then reads of the text that is cut there.
use Rattle.std.proofs.Common.{All, ◌≡◌, inr, ℕ, ◌+◌, ◌<◌, ◌≤◌, ◌==◌, ◌||◌, true, false, cond, List, [], ◌∷◌, ◌++◌, Some, length, get_or, take, drop, refl, sym, ap, ◌∙◌, append_assoc, length-append, take-append-drop, arith, subst}
use Rattle.std.proofs.lemmas.List.{append-nil, take_more}
use Rattle.std.proofs.lemmas.List.Elements.{All-append, All-nil, All-push}
use Rattle.csv.specs.Machine.{Read, ends_at_end, field_after, fields_after, is_end, next_record, step}
use Rattle.csv.specs.Reading.{default_config, records_from, records_next}
use Rattle.csv.specs.declared.parser.Action.{Action}
use Rattle.csv.specs.declared.parser.Action.TheVariants as act
use Rattle.csv.specs.declared.parser.State.{State}
use Rattle.csv.specs.declared.parser.State.TheVariants as st
use Rattle.value_rows.specs.{AgreeUpToWide, IsNarrow, IsWide, ended_after, part_after, records_left, FieldPart}
use Rattle.value_rows.specs.declared.narrow.FieldPart.TheVariants.{Begin, Unquoted, Quoted, BehindQuote}
use Rattle.value_rows.proofs.Between.{step_ends}
use Rattle.value_rows.proofs.Follow.{Follows, Stands, count_after, follows, part_of}
use Rattle.value_rows.proofs.Left.{left_is}

-- the records of a text, for a reader in this state that has these fields and these bytes of the record at hand
abbrev left_from : State → List (List ℕ) → List ℕ → List ℕ → List (List (List ℕ))
left_from s fields field xs = records_next records_left (next_record default_config s fields field xs)

-- after an action that ends no record there are as many fields as counted
counted : (a : Action) (fields : List (List ℕ)) (field : List ℕ) → is_end a ≡ false
    → length (fields_after a fields field) ≡ count_after a (length fields)
counted act.EndField fields field goes_on = length-append fields (field ∷ []) ∙ omega arith
counted act.Skip fields field goes_on = refl
counted act.Copy fields field goes_on = refl
counted act.EndRecord fields field goes_on = absurd (cc)

-- an action that ends a record begins the count anew
anew : (a : Action) (ended : ℕ) → is_end a ≡ true → count_after a ended ≡ 0
anew act.EndRecord ended ends = refl
anew act.EndField ended ends = absurd (cc)
anew act.Skip ended ends = absurd (cc)
anew act.Copy ended ends = absurd (cc)

-- an action that ends a record gives all fields and one more
longer : (a : Action) (fields : List (List ℕ)) (field : List ℕ) → is_end a ≡ true → length (fields_after a fields field) ≡ length fields + 1
longer act.EndRecord fields field ends = length-append fields (field ∷ []) ∙ omega arith
longer act.EndField fields field ends = absurd (cc)
longer act.Skip fields field ends = absurd (cc)
longer act.Copy fields field ends = absurd (cc)

-- no action takes a field away
keeps : (a : Action) (ended : ℕ) → is_end a ≡ false → ended ≤ count_after a ended
keeps act.EndField ended goes_on = omega arith
keeps act.Skip ended goes_on = omega arith
keeps act.Copy ended goes_on = omega arith
keeps act.EndRecord ended goes_on = absurd (cc)

-- at the end of a text a reader inside a record ends it
at_end : (s : State) (ended : ℕ) → Stands s ended → 0 < ended → ends_at_end s ≡ true
at_end st.StartRecord ended at some = absurd (omega (arith, at.fresh refl))
at_end st.AfterCr ended at some = absurd (omega (arith, at.fresh refl))
at_end st.StartField ended at some = refl
at_end st.InField ended at some = refl
at_end st.InQuoted ended at some = refl
at_end st.AfterQuote ended at some = refl
at_end st.InEscape ended at some = refl
at_end st.InComment ended at some = refl

-- a record that was read has more fields than these
record IsLonger (s : State) (fields : List (List ℕ)) (field xs : List ℕ) : Type 0 where
  read : Read
  found : next_record default_config s fields field xs ≡ Some read
  more : length fields < length read.0

-- a record with fields is read to its end, whatever follows
read_on : (s : State) (fields : List (List ℕ)) (field xs : List ℕ) → Stands s (length fields) → 0 < length fields → IsLonger s fields field xs
unfolding next_record
read_on s fields field [] at some =
    record {
      read = (fields ++ (field ∷ []), st.StartRecord, []);
      found = rw (at_end s (length fields) at some) refl;
      more = omega (arith, length-append fields (field ∷ []));
    }
read_on s fields field (c ∷ xs) at some =
    let a = (step default_config s c).1 in
    let next = (step default_config s c).0 in
    elim (is_end a) as (λ b. is_end a ≡ b → IsLonger s fields field (c ∷ xs)) [
      | true ↦ λ ends. record {
        read = (fields_after a fields field, next, xs);
        found = rw ends refl;
        more = omega (arith, longer a fields field ends);
      }
      | false ↦ λ goes_on.
          let count : length (fields_after a fields field) ≡ count_after a (length fields) = counted a fields field goes_on in
          let kept : length fields ≤ count_after a (length fields) = keeps a (length fields) goes_on in
          let stands : Stands next (length (fields_after a fields field)) =
          subst (Stands next) (sym count) (follows s (length fields) c at).stands in
          let rest = read_on next (fields_after a fields field) (field_after a c field) xs stands (omega arith) in
          record {
            read = rest.read;
            found = rw goes_on rest.found;
            more = omega (arith, rest.more);
          }
    ] refl

-- The text so far was scanned to this part of a field, with this many fields of the record at hand ended. Whatever
-- follows it, a reader has these records done, and is in a state that goes with the scan.
pub record IsScanned (text : List ℕ) (part : FieldPart) (ended : ℕ) : Type 0 where
  pub done : List (List (List ℕ))
  pub state : State
  pub fields : List (List ℕ)
  pub field : List ℕ
  pub reads : (tail : List ℕ) → records_left st.StartRecord (text ++ tail) ≡ done ++ left_from state fields field tail
  pub stands : Stands state ended
  pub part_is : part_of state ≡ part
  pub ended_is : length fields ≡ ended
  pub narrow : All IsNarrow done

-- nothing was scanned yet
pub scan_begins : IsScanned [] Begin 0
scan_begins = record {
  done = [];
  state = st.StartRecord;
  fields = [];
  field = [];
  reads = λ tail. left_is st.StartRecord tail refl;
  stands = record { used = refl; fresh = λ _. refl };
  part_is = refl;
  ended_is = refl;
  narrow = All-nil IsNarrow;
}

-- one byte more
module _ {text : List ℕ} {part : FieldPart} {ended : ℕ} (here : IsScanned text part ended) (few : ended < 4) (c : ℕ) where
  -- what it does to the reader, and the state after it
  abbrev action : Action
  action = (step default_config here.state c).1

  abbrev next : State
  next = (step default_config here.state c).0

  -- it goes along with the reader
  along : Follows ended (step default_config here.state c) (part_after part c) (ended_after part ended c)
  along = grind (arith, follows)

  -- it ends a record
  ends_one : is_end action ≡ true → IsScanned (text ++ c ∷ []) (part_after part c) (ended_after part ended c)
  unfolding next_record
  ends_one ends =
      let whole : List (List ℕ) = fields_after action here.fields here.field in
      let none : count_after action ended ≡ 0 = anew action ended ends in
      record {
        done = here.done ++ whole ∷ [];
        state = next;
        fields = [];
        field = [];
        reads = grind (arith, append_assoc, left_is, step_ends);
        stands = subst (Stands next) along.count_is along.stands;
        part_is = along.part_is;
        ended_is = sym none ∙ along.count_is;
        narrow = All-push IsNarrow here.done whole here.narrow (omega (arith, longer action here.fields here.field ends, here.ended_is));
      }

  -- it ends none
  goes_on : is_end action ≡ false → IsScanned (text ++ c ∷ []) (part_after part c) (ended_after part ended c)
  unfolding next_record
  goes_on more =
      record {
        done = here.done;
        state = next;
        fields = fields_after action here.fields here.field;
        field = field_after action c here.field;
        reads = grind (arith, append_assoc);
        stands = subst (Stands next) along.count_is along.stands;
        part_is = along.part_is;
        ended_is = counted action here.fields here.field more ∙ ap (count_after action) here.ended_is ∙ along.count_is;
        narrow = here.narrow;
      }

  -- in either case
  one_more : IsScanned (text ++ c ∷ []) (part_after part c) (ended_after part ended c)
  one_more = grind (arith, ends_one, goes_on)

-- one byte more of a text
pub scans_on : (text : List ℕ) (i : ℕ) (part : FieldPart) (ended : ℕ) → i < length text → ended < 4 → IsScanned (take i text) part ended
    → IsScanned (take (i + 1) text) (part_after part (get_or text i 0)) (ended_after part ended (get_or text i 0))
scans_on text i part ended below few here =
    let c = get_or text i 0 in
    subst (λ t. IsScanned t (part_after part c) (ended_after part ended c)) (sym (take_more text i 0 below)) (one_more here few c)

-- a byte outside quotes ends one field at most
unquoted_few : (ended c : ℕ) → cond (c == 44) (ended + 1) (cond ((c == 13) || (c == 10)) 0 ended) ≤ ended + 1
unquoted_few ended c = grind arith

-- so does any byte
pub ends_few : (part : FieldPart) (ended c : ℕ) → ended_after part ended c ≤ ended + 1
ends_few Quoted ended c = omega arith
ends_few Begin ended c = unquoted_few ended c
ends_few Unquoted ended c = unquoted_few ended c
ends_few BehindQuote ended c = unquoted_few ended c

-- the records of a text from a wide one on
left_wide : (s : State) (fields : List (List ℕ)) (field xs : List ℕ) → Stands s 4 → length fields ≡ 4
    → (wide : List (List ℕ)) × (after : List (List (List ℕ))) × (left_from s fields field xs ≡ wide ∷ after) × IsWide wide
left_wide s fields field xs at four =
    let long = read_on s fields field xs (subst (Stands s) (sym four) at) (omega arith) in
    (long.read.0, records_left long.read.1 long.read.2, ap (records_next records_left) long.found, omega (arith, long.more))

-- the last record of a text, if it has one, ends with the field at hand
last_left : (s : State) (fields : List (List ℕ)) (field : List ℕ) → length fields ≤ 4 → All IsNarrow (left_from s fields field [])
unfolding next_record records_from
last_left s fields field few = grind (arith, length-append)

-- no record of a text that was scanned, and of which no more than four fields of the last record have ended, is wider
-- than a fifth field makes it
pub all_narrow : (text : List ℕ) (part : FieldPart) (ended : ℕ) → ended ≤ 4 → IsScanned text part ended
    → All IsNarrow (records_left st.StartRecord text)
all_narrow text part ended few here =
    let whole : records_left st.StartRecord text ≡ here.done ++ left_from here.state here.fields here.field [] =
    ap (records_left st.StartRecord) (sym (append-nil text)) ∙ here.reads [] in
    subst (All IsNarrow) (sym whole)
    (All-append IsNarrow here.done (left_from here.state here.fields here.field []) here.narrow
    (last_left here.state here.fields here.field (omega (arith, here.ended_is))))

-- a text that is cut where four fields have ended
pub cut_there : (n : ℕ) (text : List ℕ) (part : FieldPart) → IsScanned (take n text) part 4
    → AgreeUpToWide (records_left st.StartRecord text) (records_left st.StartRecord (take n text))
cut_there n text part here =
    let (wide, after, first, is_wide) = left_wide here.state here.fields here.field (drop n text) here.stands here.ended_is in
    let (cut_wide, cut_after, cut_first, cut_is_wide) = left_wide here.state here.fields here.field [] here.stands here.ended_is in
    inr (grind (arith, take-append-drop, append-nil))
