-- Cells and books that keep what they were opened as, while entries are added to their tapes.
use Rattle.std.proofs.Common.{◌∙◌, ◌<◌, List, All, ap, sym, subst, get_or}
use Rattle.tag_cell.specs.{Entry, ToldCell as Cell, takes_waiting, TagOpening}
use Rattle.session_audit.specs.{IsCommittedCell, AreLonger, AreEach, IsAskedMore, IsRefreshedMore, IsPulledMore, Kept, KeptGroup, IsCellAsKept}
use Rattle.group_book.specs.{ToldBook as Book, GroupOpening}
use Rattle.session_audit.proofs.Each.{each_trans}
use Rattle.session_audit.specs.BookOpenings.{IsSameOpening, IsBookAsKept}
use Rattle.session_audit.specs.Openings.{AreAsKept}
use Rattle.run_command.specs.{IsBookKept, IsCellKept}

-- what is related place by place is related so by what follows from it
pub each_weaker : {C : Type 0} (R S : C → C → Type 0) → ((a b : C) → R a b → S a b) → (old new : List C) → AreEach R old new
    → AreEach S old new
each_weaker R S follows old new each = record {
  as_many = each.as_many;
  each = λ i d. follows (get_or old i d) (get_or new i d) (each.each i d);
}

module _ {D : Type 0} where
  pub cells_longer : (IsOf : Entry → Type 0) (old new : List (Cell D)) → AreLonger IsOf old new → AreEach IsCellKept old new
  cells_longer IsOf old new longer = record {
    as_many = longer.as_many;
    each = λ i d. record { def = (longer.each i d).same_def; opening = (longer.each i d).same_opening };
  }

  pub cells_pulled : (old new : List (Cell D)) → AreEach IsPulledMore old new → AreEach IsCellKept old new
  cells_pulled = each_weaker IsPulledMore IsCellKept (λ a b more. record {
    def = ap (λ (c : Cell D). c.def) more.changed;
    opening = ap (λ (c : Cell D). c.opening) more.changed;
  })

  pub cells_joined : (a b c : List (Cell D)) → AreEach IsCellKept a b → AreEach IsCellKept b c → AreEach IsCellKept a c
  cells_joined = each_trans IsCellKept (λ a b c first second. record {
    def = second.def ∙ first.def;
    opening = second.opening ∙ first.opening;
  })

  pub books_asked : (old new : List (Book D)) → AreEach IsAskedMore old new → AreEach IsBookKept old new
  books_asked = each_weaker IsAskedMore IsBookKept (λ a b more. record {
    group = ap (λ (x : Book D). x.group) more.changed;
    def = ap (λ (x : Book D). x.def) more.changed;
    text = ap (λ (x : Book D). x.text) more.changed;
    tags = ap (λ (x : Book D). x.tags) more.changed;
    opening = ap (λ (x : Book D). x.opening) more.changed;
  })

  pub books_refreshed : (old new : List (Book D)) → AreEach IsRefreshedMore old new → AreEach IsBookKept old new
  books_refreshed = each_weaker IsRefreshedMore IsBookKept (λ a b more. record {
    group = more.same_group;
    def = more.same_def;
    text = more.same_text;
    tags = more.same_tags;
    opening = more.same_opening;
  })

  pub books_joined : (a b c : List (Book D)) → AreEach IsBookKept a b → AreEach IsBookKept b c → AreEach IsBookKept a c
  books_joined = each_trans IsBookKept (λ a b c first second. record {
    group = second.group ∙ first.group;
    def = second.def ∙ first.def;
    text = second.text ∙ first.text;
    tags = second.tags ∙ first.tags;
    opening = second.opening ∙ first.opening;
  })

  -- what was committed before pulls still is
  pub committed : (old new : List (Cell D)) → AreEach IsPulledMore old new → All IsCommittedCell old → All IsCommittedCell new
  committed old new pulled was i d below =
      let before = was i d (subst (λ n. i < n) pulled.as_many below) in
      let changed = (pulled.each i d).changed in
      record { none_waits = ap takes_waiting changed ∙ before.none_waits; usable = ap (λ c. c.journal.failed) changed ∙ before.usable }

  -- cells that keep their openings are as was kept of them
  pub cells_as_kept : (old new : List (Cell D)) (known : List Kept) → AreEach IsCellKept old new → AreAsKept IsCellAsKept old known
      → AreAsKept IsCellAsKept new known
  cells_as_kept old new known each kept = record {
    each = λ tag c k below.
        let was = kept.each tag c k (subst (λ n. tag < n) each.as_many below) in
        let same = each.each tag c in
        record {
          def = same.def ∙ was.def;
          summary = ap (λ (o : TagOpening). o.summary) same.opening ∙ was.summary;
          records = ap (λ (o : TagOpening). o.recs.items) same.opening ∙ was.records;
          moment = ap (λ (o : TagOpening). o.moment) same.opening ∙ was.moment;
          faults = ap (λ (o : TagOpening). o.faults) same.opening ∙ was.faults;
        };
  }

  -- and so are books
  pub books_as_kept : (old new : List (Book D)) (known : List KeptGroup) → AreEach IsBookKept old new → AreAsKept IsBookAsKept old known
      → AreAsKept IsBookAsKept new known
  books_as_kept old new known each kept = record {
    each = λ group b k below.
        let was = kept.each group b k (subst (λ n. group < n) each.as_many below) in
        let same = each.each group b in
        record {
          defined = record {
            group_is = same.group ∙ was.defined.group_is;
            def_is = same.def ∙ was.defined.def_is;
            text_is = same.text ∙ was.defined.text_is;
          };
          opened = subst (λ (o : GroupOpening). IsSameOpening o (get_or known group k).opening) (sym same.opening) was.opened;
        };
  }
