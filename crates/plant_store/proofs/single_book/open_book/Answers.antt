use Rattle.std.proofs.Common.{◌≡◌, ◌∙◌, List, ℕ, ap, length, map, sym, subst}
use Rattle.disk_model.specs.{Shows, During, Trace}
use Rattle.calc_refresh.specs.{GroupDefParts, lists_of}
use Rattle.archive_file.specs.{TextOpensAt}
use Rattle.group_layout.specs.{IsUnsaved, GainsGroupSync}
use Rattle.group_book.specs.{StandsForGroup, BookStaysSame, cut, device_name_of}
use Rattle.branded_disk.specs.{branded}
use Rattle.plant_store.specs.Groups.{group_parts_of, input_records_of, group_definition_text}
use Rattle.plant_store.proofs.BookTurns.{held_by, still, untouched}
use Rattle.plant_store.proofs.DeviceNames.{fits, text_names}
use Rattle.plant_store.proofs.single_book.open_book.Goals as goal

pub load-requires-clause-named : goal.load-requires-clause-named
load-requires-clause-named g c =
    let group = c.args.group.now in
    let made = c.in-Ok.ensures in
    let text : c.deref.result.now ≡ group_definition_text group = c.deref.ensures.value ∙ made.text in
    fits (branded g.S.Dev.Disk.device g.K.Begun.before c.in-Ok-take.dev).handed _ _ c.in-Ok-take.ensures.named
    (c.requires.named ∙ sym (text_names group made.named) ∙ ap device_name_of (sym text))

pub returns-in_default-clause-same : goal.returns-in_default-clause-same
returns-in_default-clause-same g c = still c.args.group.now _

pub returns-in_default-take-clause-same : goal.returns-in_default-take-clause-same
returns-in_default-take-clause-same g c = untouched c.args.group.now _ _ (c.in_default-take.ensures.unchanged _)

pub returns-in-Ok-load-clause-opened : goal.returns-in-Ok-load-clause-opened
returns-in-Ok-load-clause-opened g c =
    let D = g.S.Dev.Disk in
    let group = c.args.group.now in
    let made = c.in-Ok.ensures in
    let told = c.in-Ok-take.ensures in
    let is = c.in-Ok-load.ensures in
    let b = c.in-Ok-load.book in
    let text : c.deref.result.now ≡ group_definition_text group = c.deref.ensures.value ∙ made.text in
    let lists : lists_of c.deref-2.result.now ≡ input_records_of (map (λ r. r.now) c.args.records.now) group =
    ap lists_of c.deref-2.ensures.value ∙ made.recovered in
    let vs = b.opening.versions.items in
    let rows = lists_of b.opening.rows.items in
    let copies : b.sheet.copies ≡ cut vs (input_records_of (map (λ r. r.now) c.args.records.now) group) = is.copies ∙ ap (cut vs) lists in
    record {
      group = is.group;
      def = is.def ∙ made.def;
      text = is.text ∙ text;
      named = ap device_name_of (is.text ∙ text) ∙ text_names group made.named;
      tags = is.tags ∙ made.tags;
      opening = record {
        stood = subst (λ (o : Trace). Shows o (StandsForGroup (group_definition_text group) (group_parts_of group) vs rows)) told.told
            (subst (λ (t : List ℕ). Shows (branded D.device g.K.Begun.before c.in-Ok-take.dev).trace (StandsForGroup t (group_parts_of group) vs rows)) text
            (subst (λ (d : GroupDefParts). Shows (branded D.device g.K.Begun.before c.in-Ok-take.dev).trace (StandsForGroup c.deref.result.now d vs rows)) made.def
            is.opened));
        within = sym (is.versions ∙ ap (map length) copies);
        faults = is.faults ∙ (is.faultless ∙ told.faultless);
        moment = subst (λ (o : Trace). TextOpensAt (IsUnsaved (group_definition_text group)) o b.opening.moment) told.told
            (subst (λ (t : List ℕ). TextOpensAt (IsUnsaved t) (branded D.device g.K.Begun.before c.in-Ok-take.dev).trace b.opening.moment) text is.opened_at);
      };
      moment = is.moment;
      versions = is.versions;
      copies = copies;
      rows = is.rows;
      whole = is.whole;
      evals = is.evals;
      tape = is.tape;
      usable = is.usable;
      has_device = is.device;
      faultless = is.faultless ∙ told.faultless;
      synced = held_by b.dev _ (λ dev here.
          subst (λ (o : Trace). GainsGroupSync (group_definition_text group) o (branded D.device g.K.Begun.before dev).trace) told.told
          (subst (λ (t : List ℕ). GainsGroupSync t (branded D.device g.K.Begun.before c.in-Ok-take.dev).trace (branded D.device g.K.Begun.before dev).trace) text (is.synced dev here)));
      same = held_by b.dev _ (λ dev here.
          subst (λ (o : Trace). During o (branded D.device g.K.Begun.before dev).trace (BookStaysSame (group_definition_text group) (group_parts_of group) o)) told.told
          (subst (λ (t : List ℕ). During (branded D.device g.K.Begun.before c.in-Ok-take.dev).trace (branded D.device g.K.Begun.before dev).trace (BookStaysSame t (group_parts_of group) (branded D.device g.K.Begun.before c.in-Ok-take.dev).trace)) text
          (subst (λ (d : GroupDefParts). During (branded D.device g.K.Begun.before c.in-Ok-take.dev).trace (branded D.device g.K.Begun.before dev).trace
          (BookStaysSame c.deref.result.now d (branded D.device g.K.Begun.before c.in-Ok-take.dev).trace)) made.def
          (is.any_moment dev here))));
    }
