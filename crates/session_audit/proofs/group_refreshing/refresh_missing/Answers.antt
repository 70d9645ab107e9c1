use Rattle.std.proofs.Common.{◌≡◌, ◌<◌, ◌≤◌, ◌∙◌, ℕ, [], Vec, inl, inr, Some, ap, sym, subst, arith, get_or, length, set, refl}
use Rattle.std.specs.declared.alloc.Global.{Global}
use Rattle.std.proofs.lemmas.Bool.{cases_eq}
use Rattle.std.proofs.lemmas.List.{get_or-set_other, get_or-set_same, length-map, length-set}
use Rattle.std.proofs.lemmas.Option.{slice_get-get_or}
use Rattle.std.proofs.lemmas.Result.{err_from_is_err_and}
use Rattle.calc_refresh.specs.{lists_of}
use Rattle.session_audit.proofs.Files.{file_at}
use Rattle.session_audit.specs.{IsRefreshedMore, IsInputsOf, IsPulledMore, IsRefreshedTo, durable_lists, IsBookRefusal, refreshes}
use Rattle.session_audit.proofs.Each.{each_refl, each_set, each_trans}
use Rattle.session_audit.proofs.MoreTurns.{questions_stay, refreshed_refl, refreshed_trans}
use Rattle.session_audit.proofs.Pulls.{asks_stay, lists_same, pulled_refl, pulled_trans, takes_stay}
use Rattle.session_audit.proofs.group_refreshing.refresh_missing.Given as given
use Rattle.session_audit.proofs.group_refreshing.refresh_missing.Goals as goal
use Rattle.session_audit.proofs.group_refreshing.refresh_missing.Goals.{After-deref}

-- the tags of the group's inputs are its own
tags_are : (g : given.Over) (c : After-deref g) → c.deref.result.now ≡ get_or (lists_of c.args.inputs.now) c.loop-group.group []
tags_are g c =
    let inputs = c.args.inputs.now in
    c.deref.ensures.value ∙ file_at inputs c.loop-group.group c.index-inputs-group.result []
    (omega (
      arith,
      c.loop-group-test.true,
      c.loop-group.invariant.gained.as_many,
      c.requires.inputs.as_many,
      length-map inputs (λ (v : Vec ℕ Global). v.items),
    )) c.index-inputs-group.is

pub loop-group-init : goal.loop-group-init
loop-group-init g c = record {
  cells = each_refl IsPulledMore pulled_refl c.args.cells.now;
  gained = each_refl IsRefreshedMore refreshed_refl c.args.books.now;
  done = λ k d below. absurd (omega (arith, below));
  to_come = λ k d from. refl;
}

pub refresh_group-requires-clause-inputs : goal.refresh_group-requires-clause-inputs
refresh_group-requires-clause-inputs g c =
    let at = c.loop-group.group in
    let d = c.index-books-group.result in
    let here : at < length c.args.books.now = omega (arith, c.loop-group-test.true, c.loop-group.invariant.gained.as_many) in
    let tags = tags_are g (goal.at.refresh_group-requires-clause-inputs g c).After-deref in
    subst (λ b. IsInputsOf (length c.loop-group.cells) c.deref.result.now b) (sym (c.loop-group.invariant.to_come at d (omega arith)))
    (subst (λ n. IsInputsOf n c.deref.result.now (get_or c.args.books.now at d)) (sym c.loop-group.invariant.cells.as_many)
    (subst (λ l. IsInputsOf (length c.args.cells.now) l (get_or c.args.books.now at d)) (sym tags)
    (c.requires.inputs.each at d here)))

pub refresh_group-requires-clause-within : goal.refresh_group-requires-clause-within
refresh_group-requires-clause-within g c =
    let at = c.loop-group.group in
    let d = c.index-books-group.result in
    let here : at < length c.args.books.now = omega (arith, c.loop-group-test.true, c.loop-group.invariant.gained.as_many) in
    subst (λ b. length (refreshes b.tape) ≤ get_or c.args.turns.now at 0) (sym (c.loop-group.invariant.to_come at d (omega arith)))
    (c.requires.within.each at d here)

pub returns-in_err-refresh_group-clause-pulled : goal.returns-in_err-refresh_group-clause-pulled
returns-in_err-refresh_group-clause-pulled g c =
    each_trans IsPulledMore pulled_trans c.args.cells.now c.loop-group.cells c.refresh_group.new.cells c.loop-group.invariant.cells
    c.refresh_group.ensures.pulled

pub returns-in_err-refresh_group-clause-gained : goal.returns-in_err-refresh_group-clause-gained
returns-in_err-refresh_group-clause-gained g c =
    each_set IsRefreshedMore refreshed_trans c.args.books.now c.loop-group.books c.loop-group.group c.refresh_group.new.book
    c.index-books-group.result (omega (arith, c.loop-group-test.true, c.loop-group.invariant.gained.as_many))
    c.refresh_group.ensures.gained c.loop-group.invariant.gained

pub returns-in_err-refresh_group-clause-refused : goal.returns-in_err-refresh_group-clause-refused
returns-in_err-refresh_group-clause-refused g c =
    let at = c.loop-group.group in
    let books = c.loop-group.books in
    let new = c.refresh_group.new.book in
    let here : at < length c.args.books.now = omega (arith, c.loop-group-test.true, c.loop-group.invariant.gained.as_many) in
    let there : at < length books = omega (arith, here, c.loop-group.invariant.gained.as_many) in
    let tags = tags_are g (goal.at.returns-in_err-refresh_group-clause-refused g c).After-deref in
    let p = err_from_is_err_and c.from_residual.result c.from_residual.ensures.1 in
    rw (p.1, p.2) (record {
      group = at;
      book = new;
      there = slice_get-get_or (set books at new) at new (omega (arith, there, length-set books at new))
          ∙ ap Some (get_or-set_same books at new new there);
      front = λ k d below.
          subst (λ x. IsRefreshedTo (durable_lists c.refresh_group.new.cells) (get_or (lists_of c.args.inputs.now) k []) (get_or c.args.turns.now k 0) x)
          (sym (get_or-set_other books at k new d (λ same. omega (arith, below, same))))
          (subst (λ l. IsRefreshedTo l (get_or (lists_of c.args.inputs.now) k []) (get_or c.args.turns.now k 0) (get_or books k d))
          (sym (lists_same c.loop-group.cells c.refresh_group.new.cells c.refresh_group.ensures.pulled))
          (c.loop-group.invariant.done k d below));
      refused = subst (λ l. IsBookRefusal (durable_lists c.refresh_group.new.cells) l at new c.in_err-refresh_group.field-0.0) tags c.in_err-refresh_group.ensures.refused;
    })

pub loop-group-preserved : goal.loop-group-preserved
loop-group-preserved g c =
    let at = c.loop-group.group in
    let inputs = c.args.inputs.now in
    let books = c.loop-group.books in
    let new = c.refresh_group.new.book in
    let before = c.loop-group.invariant in
    let here : at < length c.args.books.now = omega (arith, c.loop-group-test.true, before.gained.as_many) in
    let there : at < length books = omega (arith, here, before.gained.as_many) in
    let tags = tags_are g (goal.at.loop-group-preserved g c).After-deref in
    let lists = lists_same c.loop-group.cells c.refresh_group.new.cells c.refresh_group.ensures.pulled in
    let durables = durable_lists c.refresh_group.new.cells in
    record {
      cells = each_trans IsPulledMore pulled_trans c.args.cells.now c.loop-group.cells c.refresh_group.new.cells before.cells
          c.refresh_group.ensures.pulled;
      gained = each_set IsRefreshedMore refreshed_trans c.args.books.now books at new c.index-books-group.result there
          c.refresh_group.ensures.gained before.gained;
      done = λ k d below. elim (cases_eq k at) [
        | inl same ↦ subst (λ n. IsRefreshedTo durables (get_or (lists_of inputs) n []) (get_or c.args.turns.now n 0) (get_or (set books at new) n d)) (sym same)
            (subst (λ x. IsRefreshedTo durables (get_or (lists_of inputs) at []) (get_or c.args.turns.now at 0) x)
            (sym (get_or-set_same books at new d there))
            (subst (λ l. IsRefreshedTo durables l (get_or c.args.turns.now at 0) new) tags c.in_ok-refresh_group.ensures.refreshed))
        | inr differ ↦ subst (λ x. IsRefreshedTo durables (get_or (lists_of inputs) k []) (get_or c.args.turns.now k 0) x)
            (sym (get_or-set_other books at k new d differ))
            (subst (λ l. IsRefreshedTo l (get_or (lists_of inputs) k []) (get_or c.args.turns.now k 0) (get_or books k d)) (sym lists)
            (before.done k d (omega (arith, below, differ))))
      ];
      to_come = λ k d from. get_or-set_other books at k new d (λ same. omega (arith, from, same)) ∙ before.to_come k d (omega (arith, from));
    }

pub returns-clause-refreshed : goal.returns-clause-refreshed
returns-clause-refreshed g c = record {
  each = λ group b below. c.loop-group.invariant.done group b
      (omega (arith, below, c.loop-group-test.false, c.loop-group.auto.group-end, c.loop-group.invariant.gained.as_many));
}

pub returns-in_err-refresh_group-clause-takes : goal.returns-in_err-refresh_group-clause-takes
returns-in_err-refresh_group-clause-takes g c = λ earlier files.
    takes_stay earlier files c.args.cells.now c.refresh_group.new.cells (each_trans IsPulledMore pulled_trans c.args.cells.now c.loop-group.cells
    c.refresh_group.new.cells c.loop-group.invariant.cells c.refresh_group.ensures.pulled)

pub returns-clause-takes : goal.returns-clause-takes
returns-clause-takes g c = λ earlier files. takes_stay earlier files c.args.cells.now c.loop-group.cells c.loop-group.invariant.cells

pub returns-in_err-refresh_group-clause-asks : goal.returns-in_err-refresh_group-clause-asks
returns-in_err-refresh_group-clause-asks g c = λ files.
    asks_stay files c.args.cells.now c.refresh_group.new.cells (each_trans IsPulledMore pulled_trans c.args.cells.now c.loop-group.cells
    c.refresh_group.new.cells c.loop-group.invariant.cells c.refresh_group.ensures.pulled)

pub returns-clause-asks : goal.returns-clause-asks
returns-clause-asks g c = λ files. asks_stay files c.args.cells.now c.loop-group.cells c.loop-group.invariant.cells

pub returns-in_err-refresh_group-clause-questions : goal.returns-in_err-refresh_group-clause-questions
returns-in_err-refresh_group-clause-questions g c = λ files.
    questions_stay files c.args.books.now (set c.loop-group.books c.loop-group.group c.refresh_group.new.book)
    (each_set IsRefreshedMore refreshed_trans c.args.books.now c.loop-group.books c.loop-group.group c.refresh_group.new.book
    c.index-books-group.result (omega (arith, c.loop-group-test.true, c.loop-group.invariant.gained.as_many))
    c.refresh_group.ensures.gained c.loop-group.invariant.gained)

pub returns-clause-questions : goal.returns-clause-questions
returns-clause-questions g c = λ files. questions_stay files c.args.books.now c.loop-group.books c.loop-group.invariant.gained
