-- What a cell gains and what a book answers, in no step and in two steps. The laws of this crate's traits are proved
-- here.
use Rattle.std.proofs.Common.{◌++◌, List, [], refl, sym, ap, ◌∙◌, append-nil, append_assoc}
use Rattle.std.proofs.lemmas.List.Elements.{All-append, All-nil}
use Rattle.tag_cell.specs.{Entry, ToldCell as Cell}
use Rattle.group_book.specs.{Turn, ToldBook as Book}
use Rattle.session_audit.specs.Books.{IsAsk, IsAskedMore}
use Rattle.session_audit.specs.Cells.{IsLonger}

-- a cell that has gained no entry
pub longer_refl : {D : Type 0} (IsOf : Entry → Type 0) (c : Cell D) → IsLonger IsOf c c
longer_refl IsOf c = record {
  more = [];
  each = All-nil IsOf;
  tape = sym (append-nil c.tape);
  same_def = refl;
  same_opening = refl;
}

-- a cell that has gained entries twice
pub longer_trans : {D : Type 0} (IsOf : Entry → Type 0) (a b c : Cell D) → IsLonger IsOf a b → IsLonger IsOf b c
    → IsLonger IsOf a c
longer_trans IsOf a b c first second = record {
  more = first.more ++ second.more;
  each = All-append IsOf first.more second.more first.each second.each;
  tape = second.tape ∙ (ap (λ l. l ++ second.more) first.tape ∙ append_assoc a.tape first.more second.more);
  same_def = second.same_def ∙ first.same_def;
  same_opening = second.same_opening ∙ first.same_opening;
}

-- a book that has answered no question
pub asked_refl : {D : Type 0} (b : Book D) → IsAskedMore b b
asked_refl b = record {
  more = [];
  each = All-nil IsAsk;
  changed = ap (λ (l : List Turn). record b { tape = l }) (sym (append-nil b.tape));
}

-- a book that has answered questions twice
pub asked_trans : {D : Type 0} (a b c : Book D) → IsAskedMore a b → IsAskedMore b c → IsAskedMore a c
asked_trans {D = D} a b c first second = record {
  more = first.more ++ second.more;
  each = All-append IsAsk first.more second.more first.each second.each;
  changed = second.changed ∙ (ap (λ (x : Book D). record x { tape = x.tape ++ second.more }) first.changed
      ∙ ap (λ (l : List Turn). record a { tape = l }) (append_assoc a.tape first.more second.more));
}
