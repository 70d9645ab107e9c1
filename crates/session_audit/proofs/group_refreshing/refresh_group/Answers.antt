use Rattle.std.proofs.Common.{◌+◌, ◌∙◌, ap, sym, arith, length}
use Rattle.group_book.specs.{lists_at, uncut, versions_of}
use Rattle.session_audit.specs.{IsPulledMore, durable_lists, durable_numbers, refreshes}
use Rattle.session_audit.proofs.Each.{each_refl, each_trans}
use Rattle.session_audit.proofs.MoreTurns.{inputs_stay, published_count, published_more, refreshed_refl, refreshed_trans, refusal_stays}
use Rattle.session_audit.specs.BookRefusals.IsBookRefusal.{OfRefresh}
use Rattle.session_audit.proofs.Saves.{save_refused, saved_to}
use Rattle.session_audit.proofs.Pulls.{lists_same, pulled_refl, pulled_trans}
use Rattle.session_audit.proofs.group_refreshing.refresh_group.Goals as goal

pub loop-turn-init : goal.loop-turn-init
loop-turn-init g c =
    let made = c.count_refreshes-made.ensures.count ∙ ap (λ t. length (refreshes t)) c.tape.ensures in
    record {
      inputs = c.requires.inputs;
      cells = each_refl IsPulledMore pulled_refl c.args.cells.now;
      gained = refreshed_refl c.args.book.now;
      count = sym made;
      versions = λ below. absurd (omega (arith, below, made));
      within = λ below. absurd (omega (arith, below, made));
    }

pub returns-in-Err-clause-pulled : goal.returns-in-Err-clause-pulled
returns-in-Err-clause-pulled g c =
    each_trans IsPulledMore pulled_trans c.args.cells.now c.loop-turn.cells c.refresh_once.new.cells c.loop-turn.invariant.cells
    c.refresh_once.ensures.pulled

pub returns-in-Err-clause-refused : goal.returns-in-Err-clause-refused
returns-in-Err-clause-refused g c =
    OfRefresh c.in-Err.no
    (refusal_stays (durable_lists c.loop-turn.cells) (durable_lists c.refresh_once.new.cells) c.args.tags.now c.loop-turn.book
    c.refresh_once.new.book c.in-Err.no (lists_same c.loop-turn.cells c.refresh_once.new.cells c.refresh_once.ensures.pulled)
    c.in-Err.ensures.unchanged c.in-Err.ensures.refused) c.refresh_status.ensures

pub loop-turn-preserved : goal.loop-turn-preserved
loop-turn-preserved g c =
    let old = c.loop-turn.book in
    let new = c.refresh_once.new.book in
    let before = c.loop-turn.invariant in
    let mores = uncut (versions_of old) (lists_at (durable_lists c.loop-turn.cells) c.args.tags.now) in
    let step = c.in_default.ensures.published in
    let more = published_more mores old new step in
    record {
      inputs = inputs_stay (length c.loop-turn.cells) (length c.refresh_once.new.cells) c.args.tags.now old new
          c.refresh_once.ensures.pulled.as_many more.same_def before.inputs;
      cells = each_trans IsPulledMore pulled_trans c.args.cells.now c.loop-turn.cells c.refresh_once.new.cells before.cells
          c.refresh_once.ensures.pulled;
      gained = refreshed_trans c.args.book.now old new before.gained more;
      count = published_count mores old new step ∙ ap (λ n. n + 1) before.count;
      versions = λ below. c.in_default.ensures.versions
          ∙ ap (λ l. durable_numbers l c.args.tags.now)
          (sym (lists_same c.loop-turn.cells c.refresh_once.new.cells c.refresh_once.ensures.pulled));
      within = λ below. step.refreshed.within;
    }

pub returns-clause-refreshed : goal.returns-clause-refreshed
returns-clause-refreshed g c =
    let end = c.loop-turn.invariant in
    saved_to (durable_lists c.loop-turn.cells) c.args.tags.now c.args.turns c.loop-turn.book c.save_group.new.book
    c.save_group.result
    (omega (
      arith,
      end.count,
      c.loop-turn-test.false,
      c.loop-turn.auto.turn-end,
      c.requires.within,
      c.count_refreshes-made.ensures.count,
      ap (λ t. length (refreshes t)) c.tape.ensures,
    ))
    (end.versions (omega (arith, c.loop-turn-test.false, c.requires.within)))
    (end.within (omega (arith, c.loop-turn-test.false, c.requires.within))) c.save_group.ensures.saved

pub returns-clause-gained : goal.returns-clause-gained
returns-clause-gained g c =
    refreshed_trans c.args.book.now c.loop-turn.book c.save_group.new.book c.loop-turn.invariant.gained c.save_group.ensures.gained

pub returns-clause-refused : goal.returns-clause-refused
returns-clause-refused g c =
    save_refused (durable_lists c.loop-turn.cells) c.args.tags.now c.args.group c.save_group.new.book c.save_group.result
    c.save_group.ensures.refused
