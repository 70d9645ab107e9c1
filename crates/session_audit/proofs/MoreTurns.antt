-- Turns of a group, one more.
use Rattle.std.proofs.Common.{◌≡◌, ℕ, zero, suc, ◌+◌, ◌<◌, List, [], ◌∷◌, ◌++◌, All, length, map, get_or, None, refl, sym, ap, subst, ◌∙◌, arith, append-nil, append_assoc, length-append}
use Rattle.std.proofs.lemmas.List.Elements.{All-append, filter_map-append}
use Rattle.trend_num.specs.{Rec}
use Rattle.tag_cell.specs.{PullNo}
use Rattle.tag_cell.specs.declared.entry.PullNo.TheVariants as pull
use Rattle.value_rows.specs.{Query}
use Rattle.session_audit.specs.Agendas.{row_item}
use Rattle.session_audit.specs.{AreTapesWhole, AreEach, IsNoAsk, IsRefreshedMore, book_tape, IsInputsOf, durable_numbers, pull_refusal, refreshes, row_ask_of, reached_by}
use Rattle.session_audit.proofs.EntryKinds.{same_shown}
use Rattle.group_book.specs.{RefreshNo, Turn, IsPublished, ToldBook as Book, IsListsRefusal, IsPullRefusal, lists_at}
use Rattle.group_book.specs.declared.turn.Turn.TheVariants.{Refresh, Ask, Save}

-- ---- numbers of durable records

-- they are those of the tags' lists
pub numbers_are : (durables : List (List Rec)) (tags : List ℕ) → map length (lists_at durables tags) ≡ durable_numbers durables tags
numbers_are durables [] = refl
numbers_are durables (tag ∷ tags) = ap (λ l. length (get_or durables tag []) ∷ l) (numbers_are durables tags)

-- ---- refusals

-- of a pull
pub pull_refused : (durable : List Rec) (input from : ℕ) (no : PullNo)
    → ((f a : ℕ) → no ≡ pull.Ahead f a → (f ≡ from) × (a ≡ length durable) × (a < from))
    → IsPullRefusal durable input from (pull_refusal input no)
pull_refused durable input from (pull.Ahead f a) carried = (refl, (carried f a refl).0, (carried f a refl).1, (carried f a refl).2)
pull_refused durable input from pull.WantOfMemory carried = tt

-- ---- a book that was refreshed

pub refreshed_refl : {D : Type 0} (b : Book D) → IsRefreshedMore b b
refreshed_refl b = record {
  more = [];
  each = λ k d below. absurd (omega (arith, below));
  tape = sym (append-nil b.tape);
  same_group = refl;
  same_def = refl;
  same_text = refl;
  same_tags = refl;
  same_opening = refl;
}

pub refreshed_trans : {D : Type 0} (a b c : Book D) → IsRefreshedMore a b → IsRefreshedMore b c → IsRefreshedMore a c
refreshed_trans a b c first second = record {
  more = first.more ++ second.more;
  each = All-append IsNoAsk first.more second.more first.each second.each;
  tape = second.tape ∙ (ap (λ l. l ++ second.more) first.tape ∙ append_assoc a.tape first.more second.more);
  same_group = second.same_group ∙ first.same_group;
  same_def = second.same_def ∙ first.same_def;
  same_text = second.same_text ∙ first.same_text;
  same_tags = second.same_tags ∙ first.same_tags;
  same_opening = second.same_opening ∙ first.same_opening;
}

pub published_more : {D : Type 0} (mores : List (List Rec)) (old new : Book D) → IsPublished mores old new
    → IsRefreshedMore old new
published_more mores old new p = record {
  more = Refresh p.versions ∷ [];
  each = one;
  tape = ap (λ b. b.tape) p.changed;
  same_group = ap (λ b. b.group) p.changed;
  same_def = ap (λ b. b.def) p.changed;
  same_text = ap (λ b. b.text) p.changed;
  same_tags = ap (λ b. b.tags) p.changed;
  same_opening = ap (λ b. b.opening) p.changed;
}
  where
    one : All IsNoAsk (Refresh p.versions ∷ [])
    one zero d below = tt
    one (suc i) d below = absurd (omega (arith, below))

-- it has one refresh more
pub published_count : {D : Type 0} (mores : List (List Rec)) (old new : Book D) → IsPublished mores old new
    → length (refreshes new.tape) ≡ length (refreshes old.tape) + 1
published_count mores old new p =
    ap (λ b. length (refreshes b.tape)) p.changed
    ∙ (ap length (filter_map-append reached_by old.tape (Refresh p.versions ∷ []))
    ∙ length-append (refreshes old.tape) (p.versions.items ∷ []))

-- ---- what a refresh asks and says of cells and books that went on

-- the tags of the inputs are still those
pub inputs_stay : {D : Type 0} (many more : ℕ) (tags : List ℕ) (old new : Book D) → more ≡ many → new.def ≡ old.def
    → IsInputsOf many tags old → IsInputsOf more tags new
inputs_stay many more tags old new same def so = record {
  same = so.same ∙ ap (λ d. d.inputs) (sym def);
  few = so.few;
  known = subst (λ n. All (λ tag. tag < n) tags) (sym same) so.known;
}

-- where the durable records are the same, a refusal is still so
pub refusal_stays : {D : Type 0} (old new : List (List Rec)) (tags : List ℕ) (before after : Book D) (why : RefreshNo) → new ≡ old
    → after ≡ before → IsListsRefusal (lists_at old tags) before why → IsListsRefusal (lists_at new tags) after why
refusal_stays old new tags before after why lists book so =
    subst (λ l. IsListsRefusal (lists_at l tags) after why) (sym lists) (subst (λ b. IsListsRefusal (lists_at old tags) b why) (sym book) so)

-- turns that are no questions show nothing of readers
no_ask : (e : Turn) → IsNoAsk e → row_ask_of e ≡ None
no_ask (Refresh versions) is = refl
no_ask (Ask reader row calc k reply) is = absurd is
no_ask (Save number moment) is = refl

-- so what is shown of these stays
pub questions_stay : {D : Type 0} (files : List (List Query)) (old new : List (Book D)) → AreEach IsRefreshedMore old new
    → AreTapesWhole book_tape row_ask_of row_item files old → AreTapesWhole book_tape row_ask_of row_item files new
questions_stay files old new step before = record {
  each = λ group worker d below.
      (let one = step.each group d in
      same_shown row_ask_of IsNoAsk worker (get_or old group d).tape (get_or new group d).tape one.more no_ask one.each one.tape
      ∙ before.each group worker d (omega (arith, below, step.as_many)));
}
