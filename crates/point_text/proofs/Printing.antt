-- Lemmas on an archive that is printed a piece at a time.
use Rattle.std.proofs.Common.{◌≡◌, ℕ, ◌+◌, ◌-◌, ◌≤◌, List, ◌++◌, length, take, drop, Option, arith, sym, ap, ◌∙◌, subst, append_assoc, length-append}
use Rattle.std.proofs.Math.Seq.{take-add, take-append-add}
use Rattle.std.proofs.KnownBytes.{Appends-trans}
use Rattle.std.proofs.lemmas.Grind.{flat_map-append}
use Rattle.std.proofs.lemmas.List.{take-append-drop, take-append-le}
use Rattle.std.specs.List.{flat_map}
use Rattle.trend_num.specs.{Rec, Point}
use Rattle.byte_io.specs.Outside.{Outside, Gains, IsWritten, IsCutShort, next_fault_count}
use Rattle.point_text.specs.{archive_text, held_line, record_line}

-- a text was written after another
pub written_more : (before at now : Outside) (x y : List ℕ) → IsWritten before at x → IsWritten at now y → IsWritten before now (x ++ y)
written_more before at now x y first second = record {
  whole = Appends-trans before.content at.content now.content x y first.whole second.whole;
  no_fault = second.no_fault ∙ first.no_fault;
}

-- or a part of it was, and so a part of the whole
pub cut_more : (before at now : Outside) (x y z : List ℕ) → IsWritten before at x → IsCutShort at now y → IsCutShort before now (x ++ (y ++ z))
cut_more before at now x y z first cut =
    let part : take (length x + cut.given) (x ++ (y ++ z)) ≡ x ++ take cut.given y =
    take-append-add x (y ++ z) cut.given ∙ ap (λ l. x ++ l) (take-append-le cut.given y z (omega (arith, cut.fewer))) in
    record {
      given = length x + cut.given;
      fewer = omega (arith, cut.fewer, length-append x (y ++ z), length-append y z);
      part = subst (Gains before now) (sym part)
          (Appends-trans before.content at.content now.content x (take cut.given y) first.whole cut.part);
      one_fault = cut.one_fault ∙ ap next_fault_count first.no_fault;
    }

-- the lines of some records more
pub lines_more : (recs : List Rec) (done next : ℕ) → done ≤ next
    → flat_map record_line (take done recs) ++ flat_map record_line (take (next - done) (drop done recs)) ≡ flat_map record_line (take next recs)
lines_more recs done next order =
    let whole : done + (next - done) ≡ next = omega arith in
    sym (flat_map-append record_line (take done recs) (take (next - done) (drop done recs)))
    ∙ ap (flat_map record_line) (sym (take-add done (next - done) recs) ∙ ap (λ k. take k recs) whole)

-- an archive's text is the lines of its first records, and then the text of the others
pub text_from : (n : ℕ) (recs : List Rec) (held : Option Point)
    → archive_text recs held ≡ flat_map record_line (take n recs) ++ archive_text (drop n recs) held
text_from n recs held =
    ap (λ l. flat_map record_line l ++ held_line held) (sym (take-append-drop n recs))
    ∙ ap (λ l. l ++ held_line held) (flat_map-append record_line (take n recs) (drop n recs))
    ∙ append_assoc (flat_map record_line (take n recs)) (flat_map record_line (drop n recs)) (held_line held)
