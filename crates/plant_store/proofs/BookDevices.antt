-- Facts about groups over some traces, if other traces are the same at the devices of groups.
use Rattle.std.proofs.Common.{◌≡◌, ℕ, ◌^◌, ◌<◌, List, get_or, sym, subst}
use Rattle.trend_num.specs.{Rec}
use Rattle.disk_model.specs.{Rose, During, Trace, Device}
use Rattle.plant_status.specs.declared.status.Status.{Status}
use Rattle.tag_base.specs.{GroupDef}
use Rattle.group_book.specs.{GroupOpening, BookStaysSame, ToldBook}
use Rattle.plant_store.specs.Groups.{AllStaySame, AreBooksOpened, AreGroupsOpened, DeviceTraces, IsBookOpened, IsGroupOpening, group_parts_of, input_records_of, group_definition_text, group_trace_at}
use Rattle.plant_store.specs.BookRefusals.{IsRefusal, IsRefusedAt, OfDamage, OfFault, OfMemory, OfVersion, OfWindows}
use Rattle.plant_store.proofs.BookTurns.{untouched}

-- `mid` are the traces of the given facts, and `old` those before
module _ (gs : List GroupDef) (records : List (List Rec)) (old mid : DeviceTraces) (same : (g : GroupDef) → group_trace_at mid g ≡ group_trace_at old g) where
  -- books are opened so over the traces before
  pub books_before : {D : Type 0} (device : D → Device) (books : List (ToldBook D))
      → AreBooksOpened device gs records mid books → AreBooksOpened device gs records old books
  books_before device books opened = record {
    each = λ i g b below. subst (λ o. IsBookOpened device i (get_or gs i g) (input_records_of records (get_or gs i g)) o
        (get_or books i b)) (same (get_or gs i g)) (opened.each i g b below);
  }

  -- and groups
  pub opened_before : (many : ℕ) (openings : List GroupOpening) → AreGroupsOpened many gs records mid openings
      → AreGroupsOpened many gs records old openings
  opened_before many openings opened k g x below =
      subst (λ o. IsGroupOpening (get_or gs k g) (input_records_of records (get_or gs k g)) o (get_or openings k x)) (same (get_or gs k g))
      (opened k g x below)

  -- a group is the first that is refused so
  at_before : (i : ℕ) (P Q : GroupDef → List (List Rec) → Trace → Type 0)
      → ((g : GroupDef) (recovered : List (List Rec)) (o : Trace) → P g recovered o → Q g recovered o)
      → IsRefusedAt gs records mid i P → IsRefusedAt gs records old i Q
  at_before i P Q follows at = record {
    g = at.g;
    openings = at.openings;
    there = at.there;
    is_group = at.is_group;
    as_many = at.as_many;
    front = opened_before i at.openings at.front;
    cause = subst (Q at.g (input_records_of records at.g)) (same at.g) (follows at.g (input_records_of records at.g) (group_trace_at mid at.g) at.cause);
  }

  -- the refusal is one over the traces before, whatever has counted faults since, as long as a fault that was counted is
  pub refusal_before : (before now first last : ℕ) (why : Status)
      → ((first < 2 ^ 64 → Rose first last) → before < 2 ^ 64 → Rose before now)
      → IsRefusal gs records mid first last why → IsRefusal gs records old before now why
  refusal_before before now first last why rose (OfFault i is at) = OfFault i is (at_before i _ _ (λ g recovered o was. rose was) at)
  refusal_before before now first last why rose (OfDamage i a byte is at) = OfDamage i a byte is (at_before i _ _ (λ g recovered o p. p) at)
  refusal_before before now first last why rose (OfVersion i input found version is at) =
      OfVersion i input found version is (at_before i _ _ (λ g recovered o p. p) at)
  refusal_before before now first last why rose (OfWindows i windows rows is at) =
      OfWindows i windows rows is (at_before i _ _ (λ g recovered o p. p) at)
  refusal_before before now first last why rose (OfMemory is) = OfMemory is

  -- devices stay the same over the traces before, also where traces after are those that they stay the same in
  pub same_before : (after new : DeviceTraces) → ((g : GroupDef) → group_trace_at new g ≡ group_trace_at after g) → AllStaySame gs mid after
      → AllStaySame gs old new
  same_before after new still kept i g below =
      subst (λ o. During (group_trace_at old (get_or gs i g)) o
      (BookStaysSame (group_definition_text (get_or gs i g)) (group_parts_of (get_or gs i g)) (group_trace_at old (get_or gs i g)))) (sym (still (get_or gs i g)))
      (subst (λ o. During o (group_trace_at after (get_or gs i g)) (BookStaysSame (group_definition_text (get_or gs i g)) (group_parts_of (get_or gs i g)) o))
      (same (get_or gs i g)) (kept i g below))

  -- groups that were not opened stay the same
  pub same_untouched : AllStaySame gs old mid
  same_untouched i g below = untouched (get_or gs i g) _ _ (same (get_or gs i g))
