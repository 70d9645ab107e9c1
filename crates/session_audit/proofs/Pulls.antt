-- Cells of which groups pulled.
use Rattle.std.proofs.Common.{◌≡◌, ℕ, zero, suc, ◌<◌, List, [], ◌∷◌, ◌++◌, All, length, get_or, None, refl, sym, ap, ◌∙◌, arith, append-nil, append_assoc}
use Rattle.std.proofs.lemmas.List.{get_or-map, length-map, same_lists}
use Rattle.std.proofs.lemmas.List.Elements.{All-append, All-head, All-tail}
use Rattle.tag_cell.specs.{Entry, CellWalk, after_entry, done, cell_start, state_after, cell_walked, ToldCell as Cell, durable_records}
use Rattle.tag_cell.specs.declared.entry.Entry.TheVariants as entry
use Rattle.session_audit.specs.Agendas.{ask_item, phase_item}
use Rattle.session_audit.specs.{ask_of, take_of, AreAllShown, AreLonger, AreEach, IsPull, IsPulledMore, durable_lists}
use Rattle.value_rows.specs.{Query, RawRow}
use Rattle.session_audit.proofs.EntryKinds.{longer_shown}

pub pulled_refl : {C : Type 0} (c : Cell C) → IsPulledMore c c
pulled_refl c = record {
  more = [];
  each = λ k d below. absurd (omega (arith, below));
  changed = ap (λ (l : List Entry). record c { tape = l }) (sym (append-nil c.tape));
}

pub pulled_trans : {C : Type 0} (a b c : Cell C) → IsPulledMore a b → IsPulledMore b c → IsPulledMore a c
pulled_trans {C = C} a b c first second = record {
  more = first.more ++ second.more;
  each = All-append IsPull first.more second.more first.each second.each;
  changed = second.changed ∙ (ap (λ (x : Cell C). record x { tape = x.tape ++ second.more }) first.changed
      ∙ ap (λ (l : List Entry). record a { tape = l }) (append_assoc a.tape first.more second.more));
}

-- a pull more
pub pulled_one : {C : Type 0} (group from upto : ℕ) (old new : Cell C)
    → new ≡ record old { tape = old.tape ++ entry.Pull group from upto ∷ [] } → IsPulledMore old new
pulled_one group from upto old new changed = record {
  more = entry.Pull group from upto ∷ [];
  each = one;
  changed = changed;
}
  where
    one : All IsPull (entry.Pull group from upto ∷ [])
    one zero d below = tt
    one (suc i) d below = absurd (omega (arith, below))

-- ---- what tapes show of collectors and readers

-- a pull shows nothing of them
pull_takes : (e : Entry) → IsPull e → take_of e ≡ None
pull_takes (entry.Pull group from upto) is = refl
pull_takes (entry.Take a b c d e) is = absurd is
pull_takes (entry.Ask a b c d) is = absurd is
pull_takes (entry.Commit a b) is = absurd is

pull_asks : (e : Entry) → IsPull e → ask_of e ≡ None
pull_asks (entry.Pull group from upto) is = refl
pull_asks (entry.Take a b c d e) is = absurd is
pull_asks (entry.Ask a b c d) is = absurd is
pull_asks (entry.Commit a b) is = absurd is

longer_by : {C : Type 0} (old new : List (Cell C)) → AreEach IsPulledMore old new → AreLonger IsPull old new
longer_by old new step = record {
  as_many = step.as_many;
  each = λ tag d.
      (let one = step.each tag d in
      record {
        more = one.more;
        each = one.each;
        tape = ap (λ c. c.tape) one.changed;
        same_def = ap (λ c. c.def) one.changed;
        same_opening = ap (λ c. c.opening) one.changed;
      });
}

-- so what is shown of them stays
pub takes_stay : {C : Type 0} (earlier : ℕ) (files : List (List RawRow)) (old new : List (Cell C)) → AreEach IsPulledMore old new
    → AreAllShown take_of (phase_item earlier) files old → AreAllShown take_of (phase_item earlier) files new
takes_stay earlier files old new step = longer_shown take_of (phase_item earlier) IsPull files old new pull_takes (longer_by old new step)

pub asks_stay : {C : Type 0} (files : List (List Query)) (old new : List (Cell C)) → AreEach IsPulledMore old new
    → AreAllShown ask_of ask_item files old → AreAllShown ask_of ask_item files new
asks_stay files old new step = longer_shown ask_of ask_item IsPull files old new pull_asks (longer_by old new step)

-- ---- records that no crash takes away

-- pulls acknowledge nothing
walked_pulls : (w : CellWalk) (es more : List Entry) → All IsPull more → cell_walked w (es ++ more) ≡ cell_walked w es
walked_pulls w [] [] each = refl
walked_pulls w [] (entry.Pull group from upto ∷ more) each =
    walked_pulls w [] more (All-tail IsPull (entry.Pull group from upto) more each)
walked_pulls w [] (entry.Take a b c d e ∷ more) each = absurd (All-head IsPull (entry.Take a b c d e) more each)
walked_pulls w [] (entry.Ask a b c d ∷ more) each = absurd (All-head IsPull (entry.Ask a b c d) more each)
walked_pulls w [] (entry.Commit a b ∷ more) each = absurd (All-head IsPull (entry.Commit a b) more each)
walked_pulls w (e ∷ es) more each = walked_pulls (after_entry w e) es more each

-- so those of a tag stay
durable_same : {C : Type 0} (old new : Cell C) → IsPulledMore old new → durable_records new ≡ durable_records old
durable_same old new step =
    ap durable_records step.changed
    ∙ ap (λ w. (state_after old.def.step old.opening (done old.opening w)).records)
    (walked_pulls (cell_start old.opening) old.tape step.more step.each)

-- and those of all tags
pub lists_same : {C : Type 0} (old new : List (Cell C)) → AreEach IsPulledMore old new → durable_lists new ≡ durable_lists old
lists_same [] [] step = refl
lists_same (c ∷ old) [] step = absurd (omega (arith, step.as_many))
lists_same old (c ∷ new) step =
    same_lists (durable_lists (c ∷ new)) (durable_lists old)
    (length-map (c ∷ new) durable_records ∙ (step.as_many ∙ sym (length-map old durable_records)))
    (λ k d within.
    let there : k < length (c ∷ new) = omega (arith, within, length-map (c ∷ new) durable_records) in
    get_or-map durable_records (c ∷ new) k c d there
    ∙ (durable_same (get_or old k c) (get_or (c ∷ new) k c) (step.each k c)
    ∙ sym (get_or-map durable_records old k c d (omega (arith, there, step.as_many)))))

-- the list of a tag
pub list_at : {C : Type 0} (cells : List (Cell C)) (tag : ℕ) (c : Cell C) → tag < length cells
    → get_or (durable_lists cells) tag [] ≡ durable_records (get_or cells tag c)
list_at cells tag c within = get_or-map durable_records cells tag c [] within
