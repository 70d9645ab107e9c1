use Rattle.std.proofs.Common.{List, Vec, refl, sym, subst, length}
use Rattle.std.specs.Prelude.{All}
use Rattle.std.specs.declared.alloc.Global.{Global}
use Rattle.value_rows.specs.{RawRow}
use Rattle.session_audit.specs.Agendas.{ask_item, row_item, phase_item}
use Rattle.collector_pool.specs.{IsRowOf}
use Rattle.run_command.specs.Refusals.{OfWant}
use Rattle.run_command.proofs.Making.{known_asks, known_row_asks, over_again}
use Rattle.run_command.proofs.settle.complete_all.Goals as goal

pub collectors_of-requires : goal.collectors_of-requires
collectors_of-requires g c =
    subst (λ (l : List (Vec RawRow Global)). All (λ (rows : Vec RawRow Global). All (IsRowOf (length c.args.cells.now)) rows.items) l)
    (sym c.deref.ensures.value) c.requires.ready.given.work.rows

pub readers_of-requires : goal.readers_of-requires
readers_of-requires g c =
    known_asks (length c.args.cells.now) (length c.args.books.now) _ _ _ c.deref-2.ensures.value refl c.requires.ready.given.work.queries

pub row_askers_of-requires : goal.row_askers_of-requires
row_askers_of-requires g c =
    known_row_asks (length c.args.cells.now) (length c.args.books.now) _ _ c.deref-3.ensures.value c.requires.ready.given.work.queries

pub complete-requires-clause-over : goal.complete-requires-clause-over
complete-requires-clause-over g c = record {
  collectors = over_again (phase_item c.args.given.now.work.earlier) (length c.args.cells.now) _ _ _ _ c.deref.ensures.value c.deref_mut.ensures.value c.in-Ok.ensures.over;
  readers = over_again ask_item (length c.args.cells.now) _ _ _ _ c.deref-2.ensures.value c.deref_mut-2.ensures.value
      c.in-Ok-readers_of.ensures.over;
  row_readers = over_again row_item (length c.args.books.now) _ _ _ _ c.deref-3.ensures.value c.deref_mut-3.ensures.value
      c.in-Ok-row_askers_of.ensures.over;
}

pub returns-in_default-clause-refused : goal.returns-in_default-clause-refused
returns-in_default-clause-refused g c = OfWant refl

pub returns-in_default-readers_of-clause-refused : goal.returns-in_default-readers_of-clause-refused
returns-in_default-readers_of-clause-refused g c = OfWant refl

pub returns-in_default-row_askers_of-clause-refused : goal.returns-in_default-row_askers_of-clause-refused
returns-in_default-row_askers_of-clause-refused g c = OfWant refl
