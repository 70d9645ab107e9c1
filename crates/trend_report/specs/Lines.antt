-- The lines of a report, byte for byte.
use Rattle.std.specs.Prelude.{List, ◌++◌, Bool, true, false, Option, None, Some, codes, ℕ, ℤ, pos, ◌-◌, ◌==◌, if◌then◌else◌}
use Rattle.std.specs.Fmt.{decimal, signed_decimal}
use Rattle.std.specs.List.{count_by, flat_map}
use Rattle.trend_num.specs.{Kind, Rec, Summary, Point, Reading, CalcValue}
use Rattle.trend_num.specs.declared.archive.Kind.TheVariants.{Kept, Late}
use Rattle.trend_num.specs.declared.reading.Reading.TheVariants.{Exact, Line, Flat, Nothing}
use Rattle.trend_model.specs.{rounded}
use Rattle.interp_read.specs.{Reply}
use Rattle.interp_read.specs.declared.query.Reply.TheVariants.{At, Points, Window}
use Rattle.trend_num.specs.declared.value.Bad.{Bad as Cause}
use Rattle.trend_num.specs.declared.value.Bad.TheVariants.{NoData, DivZero, Range}
use Rattle.trend_num.specs.declared.value.CalcValue.TheVariants.{Num, Bad}
use Rattle.trend_report.specs.declared.group_line.GroupLine.{GroupLine}
use Rattle.trend_report.specs.declared.group_line.LastRow.{LastRow}
use Rattle.trend_report.specs.declared.tag_line.TagLine.{TagLine}
use Rattle.trend_report.specs.declared.reply_line.ReplyText.{ReplyText}
use Rattle.trend_report.specs.declared.reply_line.ReplyText.TheVariants.{Tag, Snap, Row}

-- ---- tags

-- whether a record is late, and whether it is kept
abbrev pub is_late : Kind → Bool
is_late Kept = false
is_late Late = true

abbrev pub is_kept : Kind → Bool
is_kept Kept = true
is_kept Late = false

-- the line of a tag with this name, these records and this summary
abbrev pub tag_line_of : List ℕ → List Rec → Summary → TagLine
tag_line_of name recs summary = record {
  name = name;
  taken = summary.taken;
  records = summary.records;
  kept = count_by (λ r. is_kept r.kind) recs;
  late = count_by (λ r. is_late r.kind) recs;
  held = summary.held;
}

-- `T,V`
abbrev pub point_text : Point → List ℕ
point_text p = decimal p.t ++ codes "," ++ signed_decimal p.v

-- a point, or `none` if there is none
abbrev pub held_text : Option Point → List ℕ
held_text None = codes "none"
held_text (Some q) = point_text q

-- ` taken=N records=R kept=K late=L held=`, with the spaces
abbrev pub counts_text : TagLine → List ℕ
counts_text l =
    codes " taken=" ++ decimal l.taken ++ codes " records=" ++ decimal l.records ++ codes " kept="
    ++ decimal l.kept
    ++ codes " late=" ++ decimal l.late ++ codes " held="

-- `tag NAME taken=N records=R kept=K late=L held=HELD`
abbrev pub tag_text : TagLine → List ℕ
tag_text l = codes "tag " ++ l.name ++ counts_text l ++ held_text l.held ++ codes "\n"

-- ---- replies

-- the whole number nearest to a fraction, the upper one of two that are equally near. A fraction over 0, which no read
-- returns, gives 0
abbrev pub whole_of : ℤ → ℕ → ℤ
whole_of num den = if den == 0 then pos 0 else rounded num den

-- what a tag reads at a time; a fraction is rounded
abbrev pub reading_text : Reading → List ℕ
reading_text (Exact v) = codes "exact " ++ signed_decimal v
reading_text (Line f) = codes "line " ++ signed_decimal (whole_of f.num f.den)
reading_text (Flat v) = codes "flat " ++ signed_decimal v
reading_text Nothing = codes "none"

-- each point and a space after it, and then `more` if others follow, else `end`
abbrev pub points_text : List Point → Bool → List ℕ
points_text ps true = flat_map (λ p. point_text p ++ codes " ") ps ++ codes "more"
points_text ps false = flat_map (λ p. point_text p ++ codes " ") ps ++ codes "end"

-- a number, or `none` if there is none
abbrev pub number_text : Option ℤ → List ℕ
number_text None = codes "none"
number_text (Some n) = signed_decimal n

-- why a value is no number
abbrev pub cause_text : Cause → List ℕ
cause_text NoData = codes "bad nodata"
cause_text DivZero = codes "bad divzero"
cause_text Range = codes "bad range"

-- the value of a calculation, or `none` if there is none
abbrev pub value_text : Option CalcValue → List ℕ
value_text None = codes "none"
value_text (Some (Num n)) = signed_decimal n
value_text (Some (Bad why)) = cause_text why

-- the answer to a question about a tag
abbrev pub answer_text : Reply → List ℕ
answer_text (At reading) = reading_text reading
answer_text (Points ps) = points_text ps.list.items ps.more
answer_text (Window n) = number_text n

-- the answer to any query
abbrev pub told_text : ReplyText → List ℕ
told_text (Tag reply) = answer_text reply
told_text (Snap s) = codes "snap " ++ decimal s.taken ++ codes " " ++ held_text s.held
told_text (Row value) = value_text value

-- `reply READER ROW`, with a space after it
abbrev pub asker_text : ℕ → ℕ → List ℕ
asker_text reader row = codes "reply " ++ decimal reader ++ codes " " ++ decimal row ++ codes " "

-- `reply READER ROW TEXT`
abbrev pub reply_text : ℕ → ℕ → ReplyText → List ℕ
reply_text reader row r = codes "reply " ++ decimal reader ++ codes " " ++ decimal row ++ codes " "
    ++ told_text r ++ codes "\n"

-- ---- groups

-- `group NAME windows=W refreshes=N evals=E`
abbrev pub heading_text : List ℕ → ℕ → ℕ → ℕ → List ℕ
heading_text name windows refreshes evals = codes "group " ++ name ++ codes " windows=" ++ decimal windows ++ codes " refreshes="
    ++ decimal refreshes ++ codes " evals=" ++ decimal evals ++ codes "\n"

-- what follows the names of a group and a calculation: the last of `windows` windows and the value there, or `none`
abbrev pub last_value_text : ℕ → Option CalcValue → List ℕ
last_value_text windows None = codes "none"
last_value_text windows (Some v) = decimal (windows - 1) ++ codes " " ++ value_text (Some v)

-- `calc GROUP NAME K VALUE`, or `calc GROUP NAME none`
abbrev pub last_text : List ℕ → ℕ → LastRow → List ℕ
last_text group windows l =
    codes "calc " ++ group ++ codes " " ++ l.calc ++ codes " " ++ last_value_text windows l.value ++ codes "\n"

-- these lines, one after the other
abbrev pub group_lines : List ℕ → ℕ → ℕ → ℕ → List LastRow → List ℕ
group_lines name windows refreshes evals lasts =
    heading_text name windows refreshes evals ++ flat_map (last_text name windows) lasts

abbrev pub group_line_text : GroupLine → List ℕ
group_line_text g = group_lines g.name g.windows g.refreshes g.evals g.lasts.items
