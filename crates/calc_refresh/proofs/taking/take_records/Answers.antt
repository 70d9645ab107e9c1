use Rattle.std.proofs.Common.{◌≡◌, ◌+◌, ◌≤◌, Bool, true, false, refl, List, ◌++◌, [], ◌∷◌, All, get_or, take, subst, sym, ap, ◌∙◌, arith, append_assoc}
use Rattle.std.proofs.lemmas.List.{append-nil, take_more}
use Rattle.trend_num.specs.{Rec, last_time}
use Rattle.trend_model.specs.{IsRising, listed, placed}
use Rattle.calc_refresh.specs.{is_marked}
use Rattle.std.specs.Prelude.{◌||◌}
use Rattle.trend_model.proofs.Placing.{all_placed, time}
use Rattle.sheet_law.specs.{kept_end, window_from, window_to, is_touched, touches}
use Rattle.sheet_law.proofs.Stay.{listed-push, listed_rises}
use Rattle.calc_refresh.proofs.Turns.{is_touched-push, no_rec, or_more, times_bound}
use Rattle.calc_refresh.proofs.taking.take_records.Goals as goal

pub touched-requires-clause-rising : goal.touched-requires-clause-rising
touched-requires-clause-rising c = subst IsRising (sym c.loop-rec.invariant.read) (listed_rises c.loop-rec.copy.items)

pub loop-rec-init : goal.loop-rec-init
loop-rec-init c = record {
  copied = sym (append-nil c.args.copy.now.items);
  read = c.requires.content;
  times = subst (λ (l : List Rec). All (λ r. time r ≤ last_time) l) (sym c.requires.content)
      (times_bound last_time c.args.copy.now.items (λ k d within. (c.requires.copied k d within).time));
  ended = c.requires.end;
  spare = omega (arith, c.requires.spare);
  room = omega (arith, c.requires.room);
  marked = λ k within. last (is_marked c.args.marks.now k);
}
  where
    last : (b : Bool) → b ≡ (b || false)
    last true = refl
    last false = refl

pub loop-rec-preserved : goal.loop-rec-preserved
loop-rec-preserved c =
    let i = c.loop-rec.rec-index in
    let recs = c.args.recs.now in
    let r = get_or recs i no_rec in
    let was = c.loop-rec.invariant in
    let old = c.args.copy.now.items in
    let next : take (i + 1) recs ≡ take i recs ++ r ∷ [] = take_more recs i no_rec c.loop-rec-test.true in
    let pushed : c.push_reserved.new.self.items ≡ c.loop-rec.copy.items ++ r ∷ [] = c.push_reserved.ensures.items in
    record {
      copied = pushed ∙ (ap (λ l. l ++ r ∷ []) was.copied
          ∙ (append_assoc old (take i recs) (r ∷ []) ∙ ap (λ l. old ++ l) (sym next)));
      read = c.put.ensures.placed ∙ (ap (placed r) was.read
          ∙ (sym (listed-push c.loop-rec.copy.items r) ∙ ap listed (sym pushed)));
      times = subst (λ (l : List Rec). All (λ x. time x ≤ last_time) l) (sym c.put.ensures.placed)
          (all_placed (λ t. t ≤ last_time) r c.loop-rec.content.records
          (c.requires.range i no_rec c.loop-rec-test.true).time was.times);
      ended = c.kept_end_on-end.ensures c.loop-rec.copy.items was.ended ∙ ap kept_end (sym pushed);
      spare = omega (arith, c.put.ensures.spare, was.spare);
      room = omega (arith, c.push_reserved.ensures.len, c.push_reserved.ensures.capacity, was.room);
      marked = λ k within.
          let from = window_from c.args.grid k in
          let to = window_to c.args.grid k in
          let span = c.touched.ensures c.loop-rec.copy.items k was.read was.ended (omega (arith, c.loop-rec.auto.marks, c.requires.few)) in
          or_more (is_marked c.loop-rec.marks k) (is_marked c.args.marks.now k) (is_touched old (take i recs) from to)
          (touches c.loop-rec.copy.items r from to) (is_touched old (take (i + 1) recs) from to)
          (is_marked c.mark.new.marks k)
          (c.mark.ensures k (omega arith) ∙ ap (λ b. is_marked c.loop-rec.marks k || b) span)
          (was.marked k (omega arith))
          (ap (λ l. is_touched old l from to) next
          ∙ (is_touched-push old (take i recs) r from to
          ∙ ap (λ l. is_touched old (take i recs) from to || touches l r from to) (sym was.copied)));
    }
