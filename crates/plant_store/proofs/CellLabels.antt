-- The names of the devices of tags.
use Rattle.std.proofs.Common.{◌≡◌, ◌≢◌, ℕ, ◌+◌, ◌<◌, ◌≤◌, List, [], ◌∷◌, length, take, get_or, sym, ◌∙◌, ap, subst, arith}
use Rattle.std.specs.Prelude.{Bool, IsTrue, All, String, string_bytes}
use Rattle.std.specs.declared.alloc.Global.{Global}
use Rattle.std.specs.List.{AllZip}
use Rattle.std.proofs.lemmas.List.{get_or-map, get_or-take, length-map, length-take-le, take_all, take-map}
use Rattle.std.proofs.lemmas.List.Elements.{All-map, All-more, All-weaker}
use Rattle.trend_num.specs.{TagDef}
use Rattle.disk_model.specs.{Trace, Device}
use Rattle.tag_cell.specs.{ToldCell, device_name}
use Rattle.plant_store.specs.Tags.{tag_trace_of, AreDistinct, AreOtherTagsSame}
use Rattle.plant_store.proofs.TagTurns.{IsTag, one_name}
use Rattle.plant_store.specs.CellClosings.{AreGivenBack, IsBackAt}
use Rattle.plant_store.specs.{AreCellsOpened, IsCellOpened, AreApart, HasPlaces, device_names_of, texts, AreTold}
use Rattle.plant_store.proofs.CellLists.{zip_follows, zip_seen}

-- there is a name for each tag
pub as_many_names : (names : List (String Global)) (tags : List TagDef) → texts names ≡ device_names_of tags → length names ≡ length tags
as_many_names names tags same = sym (length-map names string_bytes)
    ∙ (ap length same ∙ length-map tags (λ (def : TagDef). device_name def.name))

-- the name at a place is that of the tag's device
pub name_at : (names : List (String Global)) (tags : List TagDef) (i : ℕ) (name : String Global) (def : TagDef) → texts names ≡ device_names_of tags
    → i < length tags → name ≡ get_or names i name → def ≡ get_or tags i def → string_bytes name ≡ device_name def.name
name_at names tags i name def same there is at =
    let within : i < length names = omega (arith, there, as_many_names names tags same) in
    ap string_bytes is ∙ (sym (get_or-map string_bytes names i name (string_bytes name) within)
    ∙ (ap (λ l. get_or l i (string_bytes name)) same
    ∙ (get_or-map (λ (d : TagDef). device_name d.name) tags i def (string_bytes name) there
    ∙ ap (λ (d : TagDef). device_name d.name) (sym at))))

-- the first names are those of the devices of the first tags
pub names_front : (names : List (String Global)) (tags : List TagDef) (i : ℕ) → texts names ≡ device_names_of tags
    → texts (take i names) ≡ device_names_of (take i tags)
names_front names tags i same = sym (take-map string_bytes i names)
    ∙ (ap (λ l. take i l) same ∙ take-map (λ (def : TagDef). device_name def.name) i tags)

-- what no name of these tags' devices is, none of the names is
pub none_named : (names : List (String Global)) (tags : List TagDef) (n : List ℕ) → texts names ≡ device_names_of tags
    → All (λ (def : TagDef). n ≢ device_name def.name) tags → All (λ name. n ≢ name) (texts names)
none_named names tags n same none = subst (All (λ name. n ≢ name)) (sym same)
    (All-map (λ name. n ≢ name) (λ (def : TagDef). device_name def.name) tags none)

-- tags of which no two have one name have devices of which no two have
pub apart_names : (tags : List TagDef) → AreDistinct tags → AreApart (device_names_of tags)
apart_names [] distinct i j d before there = absurd (omega (arith, there))
apart_names (x ∷ xs) distinct i j d before there =
    let tags = x ∷ xs in
    let name = λ (def : TagDef). device_name def.name in
    let within : j < length tags = omega (arith, there, length-map tags name) in
    λ (same : get_or (device_names_of tags) i d ≡ get_or (device_names_of tags) j d).
    distinct i j x before within (one_name (get_or tags i x) (get_or tags j x)
    (sym (get_or-map name tags i x d (omega (arith, before, within))) ∙ (same ∙ get_or-map name tags j x d within)))

-- and so have the first of them
pub apart_front : (names : List (List ℕ)) (n : ℕ) → AreApart names → n < length names + 1 → AreApart (take n names)
apart_front names n apart within i j d before there =
    let long : length (take n names) ≡ n = length-take-le n names (omega (arith, within)) in
    let below : j < n = omega (arith, there, long) in
    λ (same : get_or (take n names) i d ≡ get_or (take n names) j d). apart i j d before (omega (arith, below, within))
    (sym (get_or-take n names i d (omega (arith, before, below))) ∙ (same ∙ get_or-take n names j d below))

-- devices that are given back under the first names are those of the first tags
pub given_of : {D : Type 0} (device : D → Device) (names : List (String Global)) (tags : List TagDef)
    (cells : List (ToldCell D)) (old now new : List ℕ → Trace) → texts names ≡ device_names_of tags
    → AreCellsOpened device (take (length cells) tags) old cells
    → AreGivenBack device (texts (take (length cells) names)) cells now new
    → AreOtherTagsSame (take (length cells) tags) now new × AreTold device tags cells new
given_of {D} device names tags cells old now new same opened back =
    let front = names_front names tags (length cells) same in (
      λ n none. back.others n (none_named (take (length cells) names) (take (length cells) tags) n front none),
      zip_follows (λ def (c : ToldCell D). IsCellOpened def (tag_trace_of old def) (device c.journal.dev) c) (λ def (c : ToldCell D). IsBackAt device new (device_name def.name) c)
          (λ def (c : ToldCell D). tag_trace_of new def ≡ (device c.journal.dev).trace)
          (λ def c is told. told (ap (λ (d : TagDef). device_name d.name) (sym is.def_is))) (take (length cells) tags) cells opened
          (zip_seen (λ name (c : ToldCell D). IsBackAt device new name c) (λ (def : TagDef). device_name def.name)
          (take (length cells) tags) cells
          (subst (λ l. AllZip (λ name (c : ToldCell D). IsBackAt device new name c) l cells) front back.given)),
    )

-- the bytes of the text at a place
pub text_at : (names : List (String Global)) (i : ℕ) (name : String Global) → i < length names → name ≡ get_or names i name
    → string_bytes name ≡ get_or (texts names) i (string_bytes name)
text_at names i name there is = ap string_bytes is ∙ sym (get_or-map string_bytes names i name (string_bytes name) there)

-- a text that is the name at a tag's place is that of the tag's device
pub name_of_tag : (names : List (String Global)) (tags : List TagDef) (i k : ℕ) (name : String Global) (text : List ℕ)
    (def : TagDef) → texts names ≡ device_names_of tags → IsTag tags i def → k ≡ i → name ≡ get_or names k name
    → text ≡ string_bytes name → text ≡ device_name def.name
name_of_tag names tags i k name text def same tag place is bytes = bytes
    ∙ name_at names tags i name def same tag.there (is ∙ ap (λ j. get_or names j name) place) tag.is

-- a tag, by its place, and the name of its device, which was looked up under the same number
pub record IsNamed (tags : List TagDef) (i k : ℕ) (text : List ℕ) (def : TagDef) : Type 0 where
  pub tag : IsTag tags i def
  pub place : k ≡ i
  pub named : text ≡ device_name def.name

pub named_at : (names : List (String Global)) (tags : List TagDef) (i k : ℕ) (name : String Global) (text : List ℕ) (def : TagDef)
    → texts names ≡ device_names_of tags → i < length tags → def ≡ get_or tags i def → k ≡ i → name ≡ get_or names k name
    → text ≡ string_bytes name → IsNamed tags i k text def
named_at names tags i k name text def same there def_is place is bytes = record {
  tag = record { there = there; is = def_is };
  place = place;
  named = name_of_tag names tags i k name text def same (record { there = there; is = def_is }) place is bytes;
}

-- the store has a place for one device more
pub places_more : (old new : List ℕ → Bool) (names : List (String Global)) (i k : ℕ) (name : String Global) (text : List ℕ)
    → HasPlaces old (take i (texts names)) → ((n : List ℕ) → IsTrue (old n) → IsTrue (new n)) → IsTrue (new text)
    → i < length names → k ≡ i → name ≡ get_or names k name → text ≡ string_bytes name
    → HasPlaces new (take (i + 1) (texts names))
places_more old new names i k name text places kept place there at is bytes =
    let text_is = bytes ∙ text_at names i name there (is ∙ ap (λ j. get_or names j name) at) in
    All-more (λ n. IsTrue (new n)) (texts names) i (string_bytes name) (omega (arith, there, length-map names string_bytes))
    (All-weaker (λ n. IsTrue (old n)) (λ n. IsTrue (new n)) kept (take i (texts names)) places)
    (subst (λ n. IsTrue (new n)) text_is place)

-- the first names are of devices of which no two are one
pub apart_texts : (names : List (String Global)) (tags : List TagDef) (n : ℕ) → texts names ≡ device_names_of tags → AreDistinct tags
    → n ≤ length tags → AreApart (texts (take n names))
apart_texts names tags n same distinct few = subst AreApart (take-map string_bytes n names)
    (apart_front (texts names) n (subst AreApart (sym same) (apart_names tags distinct))
    (omega (arith, few, as_many_names names tags same, length-map names string_bytes)))

-- the places for the first names
pub places_front : (place : List ℕ → Bool) (names : List (String Global)) (n k : ℕ) → k ≡ n → HasPlaces place (take n (texts names))
    → HasPlaces place (texts (take k names))
places_front place names n k is places = subst (λ l. HasPlaces place l)
    (take-map string_bytes n names ∙ ap (λ j. texts (take j names)) (sym is)) places

-- and those for all
pub places_whole : (place : List ℕ → Bool) (names : List (String Global)) (tags : List TagDef) (n : ℕ) → texts names ≡ device_names_of tags
    → n ≡ length tags → HasPlaces place (take n (texts names)) → HasPlaces place (texts names)
places_whole place names tags n same whole places = subst (λ l. HasPlaces place l)
    (take_all n (texts names) (omega (arith, whole, as_many_names names tags same, length-map names string_bytes))) places
