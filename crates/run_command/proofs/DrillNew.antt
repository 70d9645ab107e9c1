-- What is opened over devices that hold nothing.
use Rattle.std.proofs.Common.{◌≡◌, ℕ, List, [], ◌∷◌, inl, inr, refl, arith, length, replicate, get_or}
use Rattle.std.specs.List.{AllZip}
use Rattle.trend_num.specs.{TagDef, Rec, CalcValue}
use Rattle.trend_model.specs.{Origin}
use Rattle.trend_model.specs.State.{Stands, State, nothing_taken}
use Rattle.trend_model.proofs.StateLaw.{nothing_stands}
use Rattle.crash_recovery.specs.{ImageStands, StandsOpened}
use Rattle.group_layout.specs.{ByBlocks, ByNothing, StandsFor}
use Rattle.tag_base.specs.{Base, GroupDef}
use Rattle.tag_cell.specs.{TagHistory, opened}
use Rattle.plant_store.specs.Tags.{tag_trace_of}
use Rattle.plant_store.specs.Groups.{group_parts_of, group_definition_text, group_trace_at}
use Rattle.group_book.specs.{GroupHistory}
use Rattle.calc_refresh.specs.{lists_of}
use Rattle.session_report.specs.{Session}
use Rattle.run_command.specs.{AreUnitsOpened, IsGroupOpened, IsTagOpened, AreNew, IsGroupNew, IsTagNew, fresh_devices}

-- the origin of a tag that was made so
abbrev pub origin_of : TagDef → Origin
origin_of def = record { tuning = def.tuning; step = def.step }

-- an empty image stands for a history without a value
pub empty_stands : (def : TagDef) → ImageStands def (origin_of def) [] []
empty_stands def = record {
  state = nothing_taken def.tuning;
  same_step = refl;
  recovered = inl (inl (omega arith), refl);
  stands = nothing_stands (origin_of def);
}

-- and what is opened of it too
pub opened_nothing : (def : TagDef) (s : State) → StandsOpened def (origin_of def) [] s → Stands (origin_of def) [] s
opened_nothing def s (inl is) = is.1
opened_nothing def s (inr is) = absurd (is.0 refl)

new_tags : (defs : List TagDef) (ts : List TagHistory) → AllZip (λ def (t : TagHistory). IsTagOpened def (tag_trace_of fresh_devices def) t.def t.opening) defs ts
    → AllZip IsTagNew defs ts
new_tags [] [] is = tt
new_tags [] (t ∷ ts) is = absurd is
new_tags (d ∷ ds) [] is = absurd is
new_tags (d ∷ ds) (t ∷ ts) is = (
  record {
    def_is = is.0.def_is;
    nothing = opened_nothing d (opened t.opening) (is.0.found.stands (origin_of d) [] (empty_stands d));
  },
  new_tags ds ts is.1,
)

-- an empty image has nothing saved
pub saved_nothing : (text : List ℕ) (inputs calcs : ℕ) (versions : List ℕ) (rows : List (List CalcValue))
    → StandsFor text inputs calcs [] versions rows → (versions ≡ replicate inputs 0) × (rows ≡ replicate calcs [])
saved_nothing text inputs calcs versions rows (ByNothing unsaved versions_are rows_are) = (versions_are, rows_are)
saved_nothing text inputs calcs versions rows (ByBlocks bs saved versions_are) =
    let long = saved.of_text.head.begun.long in
    absurd (omega (arith, long))

new_group : (i : ℕ) (d : GroupDef) (g : GroupHistory) → (recovered : List (List Rec))
    → IsGroupOpened i d (group_trace_at fresh_devices d) recovered g.group g.def g.text.items g.opening → IsGroupNew i d g
new_group i d g recovered is =
    let none = saved_nothing (group_definition_text d) (group_parts_of d).inputs (length (group_parts_of d).calcs.calcs) g.opening.versions.items
    (lists_of g.opening.rows.items) is.opening.stood in
    record {
      number = is.number;
      def_is = is.def_is;
      text = is.text_is;
      versions = none.0;
      rows = none.1;
    }

pub all_new : (base : Base) (s : Session) → AreUnitsOpened base fresh_devices s → AreNew base s
all_new base s is = record {
  tags = new_tags base.tags.items s.tags.items is.tags;
  groups = λ i d g below. new_group i (get_or base.groups.items i d) (get_or s.groups.items i g) _ (is.groups i d g below);
}
