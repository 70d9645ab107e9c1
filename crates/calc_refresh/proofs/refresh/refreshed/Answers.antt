use Rattle.std.proofs.Common.{◌≡◌, ◌<◌, List, All, Contains, get_or, length, map, subst, sym, ap, ap₂, ◌∙◌, arith, vec_len}
use Rattle.std.specs.Prelude.{◌&&◌, ◌||◌, nat_le, nat_lt}
use Rattle.std.proofs.lemmas.List.{length-map}
use Rattle.trend_num.specs.{Rec}
use Rattle.trend_model.specs.{listed}
use Rattle.sheet_law.specs.{complete_windows, longer}
use Rattle.sheet_law.proofs.Complete.{complete_grow}
use Rattle.calc_refresh.specs.{lists_of, is_marked, IsSheetAfter, IsCopy, IsGroup}
use Rattle.calc_refresh.proofs.Columns.{lengths_all}
use Rattle.calc_refresh.proofs.Inputs.{length-longer}
use Rattle.calc_refresh.proofs.Refreshing.{complete_is_time, due_is, long_lists, long_vecs, swept}
use Rattle.calc_refresh.proofs.Passing.{passing_below}
use Rattle.calc_refresh.proofs.refresh.refreshed.Given as given
use Rattle.calc_refresh.proofs.refresh.refreshed.Goals as goal
use Rattle.calc_refresh.proofs.refresh.refreshed.Goals.{After-list_marked, After-evaluate}

-- the windows that are listed are complete
below : (g : given.Over) (c : After-list_marked g) → All (λ k. k < length c.mark.new.marks) c.list_marked.new.listed.items
below g c = subst (All (λ k. k < length c.mark.new.marks)) (sym c.list_marked.ensures)
    (passing_below (is_marked c.mark.new.marks) (length c.mark.new.marks))

-- each row has a value for each complete window
long : (g : given.Over) (c : After-evaluate g) → All (λ row. vec_len row ≡ length c.mark.new.marks) c.evaluate.new.rows
long g c = lengths_all c.evaluate.new.rows c.lengthen.new.rows (length c.mark.new.marks) c.evaluate.auto.rows c.evaluate.ensures.lengths
    (subst (λ n. All (λ row. vec_len row ≡ n) c.lengthen.new.rows) (sym c.mark.auto.marks) c.lengthen.ensures.windows)

pub evaluate-requires-clause-complete : goal.evaluate-requires-clause-complete
evaluate-requires-clause-complete g c = λ i d within.
    let copies = lists_of c.args.copies.now in
    let mores = lists_of c.args.deltas.now in
    let below = below g (goal.at.evaluate-requires-clause-complete g c).After-list_marked i d
    (omega (arith, within, ap length c.deref.ensures.value)) in
    complete_is_time c.args.grid (longer copies mores) (get_or c.deref.result.now i d) (omega (arith, c.requires.sheet.grid.some))
    (omega (arith, length-longer copies mores, c.requires.sheet.group.some_inputs)) c.requires.short
    (omega (arith, below, ap (λ l. get_or l i d) c.deref.ensures.value, c.requires.windows, c.mark.auto.marks, c.take_all.auto.marks))

pub evaluate-requires-clause-within : goal.evaluate-requires-clause-within
evaluate-requires-clause-within g c = λ i d within j row inside.
    let below = below g (goal.at.evaluate-requires-clause-within g c).After-list_marked i d
    (omega (arith, within, ap length c.deref.ensures.value)) in
    omega (arith, below, ap (λ l. get_or l i d) c.deref.ensures.value, c.lengthen.ensures.windows j row inside, c.mark.auto.marks)

pub returns-clause-sheet : goal.returns-clause-sheet
returns-clause-sheet g c =
    let w = c.args.grid in
    let copies = lists_of c.args.copies.now in
    let mores = lists_of c.args.deltas.now in
    let sheet = c.requires.sheet in
    let same : lists_of c.take_all.new.copies ≡ longer copies mores = c.take_all.ensures.copies in
    let many : length (lists_of c.take_all.new.copies) ≡ length copies = ap length same ∙ length-longer copies mores in
    let count : length c.mark.new.marks ≡ complete_windows w (lists_of c.take_all.new.copies) =
    c.mark.auto.marks ∙ (c.take_all.auto.marks ∙ (c.requires.windows ∙ ap (complete_windows w) (sym same))) in
    record {
      group = subst (λ n. IsGroup n c.args.calcs.now) (sym many) sheet.group;
      grid = sheet.grid;
      copied = subst (All IsCopy) (sym same) c.requires.short;
      read = c.take_all.ensures.contents;
      ended = c.take_all.ensures.ends;
      calcs = length-map c.evaluate.new.rows (λ v. v.items)
          ∙ (c.evaluate.auto.rows ∙ (c.lengthen.auto.rows ∙ (sym (length-map c.args.rows.now (λ v. v.items)) ∙ sheet.calcs)));
      windows = subst (λ n. All (λ row. length row ≡ n) (lists_of c.evaluate.new.rows)) count
          (long_lists c.evaluate.new.rows (length c.mark.new.marks)
          (long g (goal.at.returns-clause-sheet g c).After-evaluate));
      few = omega (arith, count, c.mark.auto.marks, c.take_all.auto.marks, c.requires.few);
    }

pub returns-clause-after : goal.returns-clause-after
returns-clause-after g c =
    let w = c.args.grid in
    let copies = lists_of c.args.copies.now in
    let mores = lists_of c.args.deltas.now in
    let sheet = c.requires.sheet in
    let marks = c.mark.new.marks in
    let same : lists_of c.take_all.new.copies ≡ longer copies mores = c.take_all.ensures.copies in
    let input : 0 < length copies = omega (arith, sheet.group.some_inputs) in
    let count : length marks ≡ complete_windows w (longer copies mores) =
    c.mark.auto.marks ∙ (c.take_all.auto.marks ∙ c.requires.windows) in
    let due = c.deref.ensures.value in
    let row = c.index-rows-0.result in
    let rows : 0 < length c.args.rows.now =
    omega (arith, length-map c.args.rows.now (λ v. v.items), sheet.calcs, sheet.group.some_calcs) in
    let first = long_vecs c.args.rows.now (complete_windows w copies) sheet.windows 0 row rows in
    let known : c.len-known.result ≡ complete_windows w copies =
    omega (arith, c.len-known.ensures, first, ap vec_len c.index-rows-0.is) in
    subst (λ (l : List (List Rec)). IsSheetAfter c.args.calcs.now w copies (lists_of c.args.rows.now) l (lists_of c.evaluate.new.rows) mores c.list_marked.new.listed.items)
    (sym same)
    (swept c.args.calcs.now w copies mores c.args.rows.now c.lengthen.new.rows c.evaluate.new.rows c.take_all.new.contents marks
    c.list_marked.new.listed.items
    (record {
      some = omega (arith, sheet.grid.some);
      input = input;
      windows = count;
      grow = (let grow = complete_grow w copies mores (omega (arith, sheet.grid.some)) in omega (arith, grow, count));
      known = sheet.windows;
      marked = λ k within. due_is w copies mores c.args.marks.now c.take_all.new.marks marks (length c.args.marks.now) k
          c.requires.unmarked within (c.take_all.ensures.marks k (omega (arith, within, c.mark.auto.marks, c.take_all.auto.marks)))
          (c.mark.ensures k (omega (arith, within, c.mark.auto.marks))
          ∙ ap₂ (λ a b. is_marked c.take_all.new.marks k || (nat_le a k && nat_lt k b)) known (sym c.mark.auto.marks));
      read = c.take_all.ensures.contents ∙ ap (map listed) same;
      widened = λ k each within. c.lengthen.ensures.columns k each (omega (arith, within, c.mark.auto.marks));
      listed = c.list_marked.ensures;
      filled = λ k has. c.evaluate.ensures.values k (subst (λ l. Contains l k) (sym due) has);
      others = λ k none. c.evaluate.ensures.others k (λ has. none (subst (λ l. Contains l k) due has));
      calcs = c.evaluate.auto.rows ∙ (c.lengthen.auto.rows ∙ (sym (length-map c.args.rows.now (λ v. v.items)) ∙ sheet.calcs));
      long = long g (goal.at.returns-clause-after g c).After-evaluate;
    }))
