-- Cells and books at the end of a session, compared with those that were opened.
use Rattle.std.proofs.Common.{◌≡◌, ◌∙◌, ◌<◌, ℕ, List, [], All, arith, ap, sym, subst, length, map, get_or, refl, Vec, vec_len}
use Rattle.std.proofs.lemmas.List.{get_or-map, length-map}
use Rattle.std.specs.List.{AllZip}
use Rattle.std.specs.declared.alloc.Global.{Global}
use Rattle.tag_base.specs.{GroupDef, IsSoundGroup}
use Rattle.tag_cell.specs.{ToldCell as Cell}
use Rattle.group_book.specs.{ToldBook as Book}
use Rattle.session_audit.specs.{Kept, KeptGroup, AreInputs, IsInputsOf, IsCellCopied, IsCellAsKept}
use Rattle.session_audit.specs.Openings.{AreAsKept}
use Rattle.session_audit.specs.BookOpenings.{IsBookAsKept, IsBookCopied}
use Rattle.run_command.specs.Runs.{AreDefined, IsContinued, IsContinuedGroup}
use Rattle.run_command.specs.{AreInputsFor}
use Rattle.plant_status.proofs.Elements.{element}
use Rattle.run_command.proofs.Zipped.{zip_at, zip_each, zip_length, zip_on, zip_same}

-- as many are known as there are at the end, where as many were opened
pub as_many_known : {A B : Type 0} (opened ended : Vec A Global) (through : List A) (known : Vec B Global) → through ≡ opened.items
    → vec_len known ≡ length through → vec_len ended ≡ vec_len opened → length known.items ≡ length ended.items
as_many_known opened ended through known same copied many =
    omega (arith, ap length same, copied, many, known.ok, ended.ok, opened.ok)

module _ {D : Type 0} where
  -- cells that are as was kept of what was opened are continued
  pub continued : (opened cells : List (Cell D)) (known : List Kept) → length known ≡ length cells → AllZip IsCellCopied opened known
      → AreAsKept IsCellAsKept cells known → AllZip IsContinued opened cells
  continued opened cells known many copied kept =
      zip_on IsCellCopied (λ k c. IsCellAsKept c k) IsContinued (λ o k c copy same. record {
        def = same.def ∙ copy.def;
        summary = same.summary ∙ copy.summary;
        records = same.records ∙ copy.records;
        moment = same.moment ∙ copy.moment;
        faults = same.faults ∙ copy.faults;
      }) opened known cells copied (zip_each (λ k c. IsCellAsKept c k) known cells (sym many)
      (λ i k c below. kept.each i c k (subst (λ n. i < n) many below)))

  -- so are books
  pub groups_continued : (opened books : List (Book D)) (known : List KeptGroup) → length known ≡ length books
      → AllZip IsBookCopied opened known → AreAsKept IsBookAsKept books known → AllZip IsContinuedGroup opened books
  groups_continued opened books known many copied kept =
      zip_on IsBookCopied (λ k b. IsBookAsKept b k) IsContinuedGroup (λ o k b copy same. record {
        group = same.defined.group_is ∙ copy.group;
        def = same.defined.def_is ∙ copy.def;
        text = same.defined.text_is ∙ copy.text;
        versions = same.opened.versions ∙ copy.versions;
        rows = same.opened.rows ∙ copy.rows;
        moment = same.opened.moment ∙ copy.moment;
        faults = same.opened.faults ∙ copy.faults;
      }) opened known books copied (zip_each (λ k b. IsBookAsKept b k) known books (sym many)
      (λ i k b below. kept.each i b k (subst (λ n. i < n) many below)))

  -- what was opened is continued by itself
  pub still : (cells : List (Cell D)) → AllZip IsContinued cells cells
  still = zip_same IsContinued (λ c. record { def = refl; summary = refl; records = refl; moment = refl; faults = refl })

  pub groups_still : (books : List (Book D)) → AllZip IsContinuedGroup books books
  groups_still = zip_same IsContinuedGroup (λ b. record {
    group = refl;
    def = refl;
    text = refl;
    versions = refl;
    rows = refl;
    moment = refl;
    faults = refl;
  })

  -- what is continued is continued on
  pub cells_on : (a b c : List (Cell D)) → AllZip IsContinued a b → AllZip IsContinued b c → AllZip IsContinued a c
  cells_on = zip_on IsContinued IsContinued IsContinued (λ x y z first second. record {
    def = second.def ∙ first.def;
    summary = second.summary ∙ first.summary;
    records = second.records ∙ first.records;
    moment = second.moment ∙ first.moment;
    faults = second.faults ∙ first.faults;
  })

  pub books_on : (a b c : List (Book D)) → AllZip IsContinuedGroup a b → AllZip IsContinuedGroup b c → AllZip IsContinuedGroup a c
  books_on = zip_on IsContinuedGroup IsContinuedGroup IsContinuedGroup (λ x y z first second. record {
    group = second.group ∙ first.group;
    def = second.def ∙ first.def;
    text = second.text ∙ first.text;
    versions = second.versions ∙ first.versions;
    rows = second.rows ∙ first.rows;
    moment = second.moment ∙ first.moment;
    faults = second.faults ∙ first.faults;
  })

  -- ---- the tags of the groups' inputs

  -- those of a base are those of its books
  pub inputs_of_base : (many n : ℕ) (groups : List GroupDef) (books : List (Book D)) (inputs : List (List ℕ)) → n ≡ many
      → inputs ≡ map (λ d. d.inputs.items) groups → All (IsSoundGroup many) groups → length books ≡ length groups
      → AreDefined groups books → AreInputs n inputs books
  inputs_of_base many n groups books inputs same is sound as_many defined = record {
    as_many = ap length is ∙ length-map groups (λ d. d.inputs.items) ∙ sym as_many;
    each = λ i b below.
        let there : i < length groups = omega (arith, below, as_many) in
        let g = element groups i there in
        let its = sound i g there in
        let tags : get_or inputs i [] ≡ (get_or groups i g).inputs.items =
        ap (λ l. get_or l i []) is ∙ get_or-map (λ (d : GroupDef). d.inputs.items) groups i g [] there in
        subst (λ m. IsInputsOf m (get_or inputs i []) (get_or books i b)) (sym same)
        (subst (λ l. IsInputsOf many l (get_or books i b)) (sym tags) (record {
          same = sym (ap (λ d. d.inputs) (defined i g b below));
          few = its.few_inputs;
          known = its.inputs_are_tags;
        }));
  }

  -- those of books are those of their copies
  pub inputs_copied : (many : ℕ) (inputs : List (List ℕ)) (books : List (Book D)) (known : List KeptGroup) → AreInputs many inputs books
      → AllZip IsBookCopied books known → AreInputsFor many inputs known
  inputs_copied many inputs books known are copied = record {
    as_many = are.as_many ∙ sym (zip_length IsBookCopied books known copied);
    each = λ i k below.
        let there : i < length books = omega (arith, below, zip_length IsBookCopied books known copied) in
        let b = element books i there in
        let it = are.each i b there in
        record {
          same = it.same ∙ sym (ap (λ d. d.inputs) (zip_at IsBookCopied books known i b k copied below).def);
          few = it.few;
          known = it.known;
        };
  }

  -- and of books that continue them
  pub inputs_continued : (many n : ℕ) (inputs more : List (List ℕ)) (old new : List (Book D)) → n ≡ many → more ≡ inputs
      → AreInputs many inputs old → AllZip IsContinuedGroup old new → AreInputs n more new
  inputs_continued many n inputs more old new same same_inputs are on =
      subst (λ m. AreInputs m more new) (sym same) (subst (λ l. AreInputs many l new) (sym same_inputs) (record {
        as_many = are.as_many ∙ sym (zip_length IsContinuedGroup old new on);
        each = λ i b below.
            let there : i < length old = omega (arith, below, zip_length IsContinuedGroup old new on) in
            let a = element old i there in
            let it = are.each i a there in
            record {
              same = it.same ∙ sym (ap (λ d. d.inputs) (zip_at IsContinuedGroup old new i a b on below).def);
              few = it.few;
              known = it.known;
            };
      }))
