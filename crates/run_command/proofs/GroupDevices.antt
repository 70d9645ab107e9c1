-- Group histories, and the devices that are back under the groups' names.
use Rattle.std.proofs.Common.{◌≡◌, ◌∙◌, ◌<◌, ◌++◌, ◌∷◌, All, ℕ, List, [], Option, None, Some, String, string_bytes, arith, ap, sym, subst, length, get_or}
use Rattle.std.specs.Prelude.{IfSome}
use Rattle.std.specs.declared.alloc.Global.{Global}
use Rattle.std.proofs.lemmas.List.{get_or-map, length-map}
use Rattle.disk_model.specs.{Trace, Device, moment}
use Rattle.group_book.specs.{GroupHistory, GroupOpening, BookBeganWell, IsBookOpenedWell, IsBookHistory, ToldBook as Book, device_name_of, trace_of, moment_of, faults_of}
use Rattle.branded_disk.specs.{IsWholePast, Past, past_of}
use Rattle.calc_refresh.specs.{GroupDefParts}
use Rattle.tag_base.specs.{GroupDef}
use Rattle.plant_store.specs.BookEndings.{AreGivenBack, AreHistoriesOf}
use Rattle.plant_store.specs.Groups.{AreNamesOf, DeviceTraces, device_name, group_definition_text}
use Rattle.plant_store.proofs.BookCauses.{back_is}
use Rattle.plant_store.proofs.DeviceNames.{text_names}
use Rattle.trend_num.specs.{IsName}
use Rattle.plant_status.proofs.Elements.{element}
use Rattle.run_command.specs.Runs.{AreGroupHistoriesAt}

-- the history of a book with a device is that of this device
told_by : {D : Type 0} (device : D → Device) (dev : Option D) (h : GroupHistory)
    → IsBookHistory h (trace_of device dev) (moment_of device dev) (faults_of device dev)
    → IfSome dev (λ d. IsBookHistory h (Some (device d).trace) (moment (device d).trace) (faults_of device dev))
told_by device None h is = tt
told_by device (Some d) h is = is

-- a book with a device was opened well from what the store had under its group's name when the command began
well_by : {D : Type 0} (device : D → Device) (past : Past) (start : DeviceTraces) (text : List ℕ) (def : GroupDefParts) (o : GroupOpening)
    (dev : Option D) → IsWholePast past start → ((d : D) → (device d).handed.trace ≡ past_of past (device d).handed.name)
    → IfSome dev (λ d. (device d).handed.name ≡ Some (device_name_of text)) → BookBeganWell device text def o dev
    → IfSome dev (λ d. IsBookOpenedWell text def o (start (device_name_of text)) (device d).trace)
well_by device past start text def o None whole started named well = tt
well_by device past start text def o (Some d) whole started named well =
    subst (λ (t : Option Trace). IfSome t (λ x. IsBookOpenedWell text def o x (device d).trace))
    (started d ∙ ap (past_of past) named ∙ whole (device_name_of text)) well

-- a definition text has a comma
no_text : (d : GroupDef) → group_definition_text d ≡ [] → ⊥
no_text d none = not_nil d.name _ none
  where
    not_nil : (name rest : List ℕ) → name ++ 44 ∷ rest ≡ [] → ⊥
    not_nil [] rest none = absurd (cc none)
    not_nil (b ∷ bs) rest none = absurd (cc none)

pub groups_back : {D : Type 0} (device : D → Device) (past : Past) (start : DeviceTraces) (groups : List GroupDef) (books : List (Book D))
    (old new : DeviceTraces) (names : List (String Global)) (histories : List GroupHistory) → AreNamesOf groups names
    → All (λ (g : GroupDef). IsName g.name) groups
    → length books ≡ length groups → AreHistoriesOf device books histories → AreGivenBack device names books old new
    → IsWholePast past start → ((d : D) → (device d).handed.trace ≡ past_of past (device d).handed.name)
    → AreGroupHistoriesAt groups start new histories
groups_back device past start groups books old new names histories named names_are many of back whole started = record {
  each = λ i d g below some.
      let there : i < length books = omega (arith, of.as_many, below) in
      let here : i < length groups = omega (arith, there, many) in
      let as_many : length names ≡ length groups = sym (length-map names string_bytes) ∙ ap length named
      ∙ length-map groups (λ x. device_name x.name) in
      let inside : i < length names = omega (arith, here, as_many) in
      let b = element books i there in
      let s = element names i inside in
      let is = of.each i b g there in
      let dev = (get_or books i b).dev in
      let name : string_bytes (get_or names i s) ≡ device_name (get_or groups i d).name =
      sym (get_or-map string_bytes names i s [] inside) ∙ ap (λ l. get_or l i []) named
      ∙ get_or-map (λ (x : GroupDef). device_name x.name) groups i d [] here in
      let text : (get_or books i b).text ≡ group_definition_text (get_or groups i d) = sym is.text ∙ some in
      let called : device_name_of (get_or books i b).text ≡ device_name (get_or groups i d).name =
      ap device_name_of text ∙ text_names (get_or groups i d) (names_are i d here) in
      let own : string_bytes (get_or names i s) ≡ device_name_of (get_or books i b).text = name ∙ sym called in
      let there_is = is.there (λ none. no_text (get_or groups i d) (sym text ∙ none)) in
      let now = sym (ap new (sym name) ∙ back i b s there own) in
      let W = λ (t : Trace). IsBookOpenedWell (get_or books i b).text (get_or books i b).def (get_or books i b).opening
      (start (device_name (get_or groups i d).name)) t in
      let P = λ (t : Trace). IsBookHistory (get_or histories i g) (Some t) (moment t) (faults_of device dev) in
      record {
        faults = faults_of device dev;
        is = subst P now (back_is device dev (old (string_bytes (get_or names i s))) P there_is
            (told_by device dev (get_or histories i g) is.history));
        begun = rw (is.text, is.def, is.opening)
            (subst W now (back_is device dev (old (string_bytes (get_or names i s))) W there_is
            (subst (λ n. IfSome dev (λ x. IsBookOpenedWell (get_or books i b).text (get_or books i b).def (get_or books i b).opening
            (start n) (device x).trace)) called
            (well_by device past start (get_or books i b).text (get_or books i b).def (get_or books i b).opening dev whole started
            is.named is.begun))));
      };
}
