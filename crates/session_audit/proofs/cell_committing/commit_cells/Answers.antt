use Rattle.std.proofs.Common.{◌<◌, length, sym, subst, inl, inr, arith, get_or, set}
use Rattle.std.proofs.lemmas.Bool.{cases_eq}
use Rattle.std.proofs.lemmas.List.{get_or-set_same, get_or-set_other}
use Rattle.session_audit.specs.{IsCommitEntry, IsCellRefusal, IsCommittedCell, ask_of, take_of}
use Rattle.session_audit.specs.Agendas.{ask_item, phase_item}
use Rattle.session_audit.proofs.EntryKinds.{committed_asks, committed_takes, longer_shown}
use Rattle.session_audit.proofs.Longer.{commit_refused, longer_set}
use Rattle.session_audit.proofs.cell_committing.commit_cells.Goals as goal

pub returns-in-Err-clause-longer : goal.returns-in-Err-clause-longer
returns-in-Err-clause-longer g c =
    longer_set IsCommitEntry c.args.cells.now c.loop-tag.cells c.loop-tag.tag c.commit_cell.new.cell
    c.index-cells-tag.result (omega (arith, c.loop-tag-test.true, c.loop-tag.invariant.longer.as_many))
    c.in-Err.ensures.longer c.loop-tag.invariant.longer

pub returns-in-Err-clause-refused : goal.returns-in-Err-clause-refused
returns-in-Err-clause-refused g c =
    subst (IsCellRefusal _) (sym c.commit_status.ensures) (commit_refused c.loop-tag.cells c.loop-tag.tag
    c.commit_cell.new.cell c.in-Err.no (omega (arith, c.loop-tag-test.true, c.loop-tag.invariant.longer.as_many))
    c.in-Err.ensures.failed c.loop-tag.invariant.committed)

pub loop-tag-preserved : goal.loop-tag-preserved
loop-tag-preserved g c =
    let tag = c.loop-tag.tag in
    let cells = c.loop-tag.cells in
    let new = c.commit_cell.new.cell in
    let within : tag < length cells = omega (arith, c.loop-tag-test.true, c.loop-tag.invariant.longer.as_many) in
    record {
      committed = λ i d below. elim (cases_eq i tag) [
        | inl same ↦ subst (λ n. IsCommittedCell (get_or (set cells tag new) n d)) (sym same)
            (subst IsCommittedCell (sym (get_or-set_same cells tag new d within)) c.in_default.ensures.committed)
        | inr differ ↦ subst IsCommittedCell (sym (get_or-set_other cells tag i new d differ))
            (c.loop-tag.invariant.committed i d (omega (arith, below, differ)))
      ];
      longer = longer_set IsCommitEntry c.args.cells.now cells tag new c.index-cells-tag.result within
          c.in_default.ensures.longer c.loop-tag.invariant.longer;
    }

pub returns-clause-committed : goal.returns-clause-committed
returns-clause-committed g c = λ k d below.
    c.loop-tag.invariant.committed k d (omega (arith, below, c.loop-tag-test.false, c.loop-tag.invariant.longer.as_many))

pub returns-in-Err-clause-takes : goal.returns-in-Err-clause-takes
returns-in-Err-clause-takes g c = λ earlier files.
    longer_shown take_of (phase_item earlier) IsCommitEntry files c.args.cells.now _ committed_takes
    (longer_set IsCommitEntry c.args.cells.now c.loop-tag.cells c.loop-tag.tag c.commit_cell.new.cell
    c.index-cells-tag.result (omega (arith, c.loop-tag-test.true, c.loop-tag.invariant.longer.as_many))
    c.in-Err.ensures.longer c.loop-tag.invariant.longer)

pub returns-clause-takes : goal.returns-clause-takes
returns-clause-takes g c = λ earlier files.
    longer_shown take_of (phase_item earlier) IsCommitEntry files c.args.cells.now c.loop-tag.cells committed_takes c.loop-tag.invariant.longer

pub returns-in-Err-clause-asks : goal.returns-in-Err-clause-asks
returns-in-Err-clause-asks g c = λ files.
    longer_shown ask_of ask_item IsCommitEntry files c.args.cells.now _ committed_asks
    (longer_set IsCommitEntry c.args.cells.now c.loop-tag.cells c.loop-tag.tag c.commit_cell.new.cell
    c.index-cells-tag.result (omega (arith, c.loop-tag-test.true, c.loop-tag.invariant.longer.as_many))
    c.in-Err.ensures.longer c.loop-tag.invariant.longer)

pub returns-clause-asks : goal.returns-clause-asks
returns-clause-asks g c = λ files.
    longer_shown ask_of ask_item IsCommitEntry files c.args.cells.now c.loop-tag.cells committed_asks c.loop-tag.invariant.longer
