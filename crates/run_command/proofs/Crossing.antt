-- Groups may be shared between workers where their devices may go to another one.
use denote.RattleType.{RattleType}
use base.Fraction.{full_share}
use base.Shift.{Keyless}
use mathlib.Core.List.{List}
use mathlib.Core.Path.{subst, sym}
use mir.Val.{Val}
use denote.RawPtr.{Ptr, block_ptr, null_ptr, lies_at}
use denote.Memory.{part_of, raw_all}
use denote.Struct.Declared.{shape}
use denote.Enum.Enum.{Enum}
use denote.Enum.Declared as E
use denote.Param.Send.{IsSend, IsSync, sendable, recorded_send_of, enum_send_at, SendAt, cell_keyless, recorded_send, struct_send, view_send}
use denote.Builtin.{bool, u8, u32}
use Rattle.std.proofs.Crossing.{Vec-send, crosses, frees}
use Rattle.disk_model.specs.declared.device.Disk.{Ghosts}
use Rattle.trend_num.specs.contracts.measure.Measure as Measure
use Rattle.trend_num.specs.contracts.name.Name as Name
use Rattle.trend_num.specs.contracts.value.CalcValue as CalcValue
use Rattle.calc_parser.specs.contracts.tree.Expr as Expr
use Rattle.calc_parser.specs.contracts.tree.Op as Op
use Rattle.calc_parser.specs.contracts.tree.Cmp as Cmp
use Rattle.calc_parser.specs.declared.tree.Expr.{Expr as Tree}
use Rattle.calc_parser.specs.declared.tree.Expr.TheVariants as tree
use Rattle.calc_check.specs.contracts.definition.CalcDef as CalcDef
use Rattle.calc_check.specs.contracts.checked.Checked as Checked
use Rattle.calc_refresh.specs.contracts.definition.GroupDefParts as GroupDefParts
use Rattle.calc_refresh.specs.contracts.sheet.Sheet as Sheet
use Rattle.late_insert.specs.contracts.content.Content as Content
use Rattle.group_book.specs.contracts.history.GroupOpening as GroupOpening
use Rattle.group_book.specs.contracts.turn.Turn as Turn
use Rattle.group_book.specs.contracts.book.Book as Book
use Rattle.group_book.specs.contracts.book.Book.TheInside as Inside
use Rattle.run_command.specs.contracts.groups.Groups as Groups

box_keyless : (H : RattleType) (a : H.Denot) → ((vs : List Val) → Keyless (H.own_val a vs)) → (p : Ptr)
    → Keyless (lies_at H full_share p a)
unfolding part_of
box_keyless H a s (block_ptr b o) = λ vs. (cell_keyless full_share (raw_all H.mir) vs b o, s vs)
box_keyless H a s null_ptr = tt

measure_send : IsSend Measure.the_row
measure_send = search sendable depth 20 fits 10000

value_send : IsSend CalcValue.the_row
value_send = search sendable depth 20 fits 10000

op_send : IsSend Op.the_row
op_send = search sendable depth 20 fits 10000

cmp_send : IsSend Cmp.the_row
cmp_send = search sendable depth 20 fits 10000

name_send : IsSend Name.the_row
name_send = search sendable depth 20

send_at : (d : Tree) → SendAt (Enum (E.shape Expr.the_type)) ((Expr.the_type).to d)
send_at (tree.Num n) = enum_send_at (E.shape Expr.the_type) ((Expr.the_type).to (tree.Num n)) (search sendable)
send_at (tree.Window m n) = enum_send_at (E.shape Expr.the_type) ((Expr.the_type).to (tree.Window m n)) (((λ vs. measure_send.owned m vs), λ k w. tt), (((λ vs. name_send.owned n vs), λ k w. tt), tt))
send_at (tree.Calc n) = enum_send_at (E.shape Expr.the_type) ((Expr.the_type).to (tree.Calc n)) (((λ vs. name_send.owned n vs), λ k w. tt), tt)
send_at (tree.Neg' p a) = enum_send_at (E.shape Expr.the_type) ((Expr.the_type).to (tree.Neg' p a)) (((λ vs. ((λ x. (tt, (tt, ((λ y. (tt, ((λ z. (tt, (tt, tt))), tt))), tt)))), (box_keyless Expr.the_hole a (λ us. subst (λ F. Keyless (F us)) (sym (Expr.own_is a)) ((send_at a).0 us)) p.ptr, frees.frees p.alloc _ p.ptr))), λ k w. tt), tt)
send_at (tree.Abs' p a) = enum_send_at (E.shape Expr.the_type) ((Expr.the_type).to (tree.Abs' p a)) (((λ vs. ((λ x. (tt, (tt, ((λ y. (tt, ((λ z. (tt, (tt, tt))), tt))), tt)))), (box_keyless Expr.the_hole a (λ us. subst (λ F. Keyless (F us)) (sym (Expr.own_is a)) ((send_at a).0 us)) p.ptr, frees.frees p.alloc _ p.ptr))), λ k w. tt), tt)
send_at (tree.Two' op p a q b) = enum_send_at (E.shape Expr.the_type) ((Expr.the_type).to (tree.Two' op p a q b)) (((λ vs. op_send.owned op vs), λ k w. tt), (((λ vs. ((λ x. (tt, (tt, ((λ y. (tt, ((λ z. (tt, (tt, tt))), tt))), tt)))), (box_keyless Expr.the_hole a (λ us. subst (λ F. Keyless (F us)) (sym (Expr.own_is a)) ((send_at a).0 us)) p.ptr, frees.frees p.alloc _ p.ptr))), λ k w. tt), (((λ vs. ((λ x. (tt, (tt, ((λ y. (tt, ((λ z. (tt, (tt, tt))), tt))), tt)))), (box_keyless Expr.the_hole b (λ us. subst (λ F. Keyless (F us)) (sym (Expr.own_is b)) ((send_at b).0 us)) q.ptr, frees.frees q.alloc _ q.ptr))), λ k w. tt), tt)))
send_at (tree.Compare' op p a q b) = enum_send_at (E.shape Expr.the_type) ((Expr.the_type).to (tree.Compare' op p a q b)) (((λ vs. cmp_send.owned op vs), λ k w. tt), (((λ vs. ((λ x. (tt, (tt, ((λ y. (tt, ((λ z. (tt, (tt, tt))), tt))), tt)))), (box_keyless Expr.the_hole a (λ us. subst (λ F. Keyless (F us)) (sym (Expr.own_is a)) ((send_at a).0 us)) p.ptr, frees.frees p.alloc _ p.ptr))), λ k w. tt), (((λ vs. ((λ x. (tt, (tt, ((λ y. (tt, ((λ z. (tt, (tt, tt))), tt))), tt)))), (box_keyless Expr.the_hole b (λ us. subst (λ F. Keyless (F us)) (sym (Expr.own_is b)) ((send_at b).0 us)) q.ptr, frees.frees q.alloc _ q.ptr))), λ k w. tt), tt)))
send_at (tree.If' p a q b r c) = enum_send_at (E.shape Expr.the_type) ((Expr.the_type).to (tree.If' p a q b r c)) (((λ vs. ((λ x. (tt, (tt, ((λ y. (tt, ((λ z. (tt, (tt, tt))), tt))), tt)))), (box_keyless Expr.the_hole a (λ us. subst (λ F. Keyless (F us)) (sym (Expr.own_is a)) ((send_at a).0 us)) p.ptr, frees.frees p.alloc _ p.ptr))), λ k w. tt), (((λ vs. ((λ x. (tt, (tt, ((λ y. (tt, ((λ z. (tt, (tt, tt))), tt))), tt)))), (box_keyless Expr.the_hole b (λ us. subst (λ F. Keyless (F us)) (sym (Expr.own_is b)) ((send_at b).0 us)) q.ptr, frees.frees q.alloc _ q.ptr))), λ k w. tt), (((λ vs. ((λ x. (tt, (tt, ((λ y. (tt, ((λ z. (tt, (tt, tt))), tt))), tt)))), (box_keyless Expr.the_hole c (λ us. subst (λ F. Keyless (F us)) (sym (Expr.own_is c)) ((send_at c).0 us)) r.ptr, frees.frees r.alloc _ r.ptr))), λ k w. tt), tt)))

expr_send : IsSend Expr.the_row
expr_send = recorded_send_of (Enum (E.shape Expr.the_type)) (Expr.the_type).D (Expr.the_type).to (Expr.the_type).to_one send_at

hole_send : IsSend Expr.the_hole
hole_send = record {
  owned = λ a vs. subst (λ F. Keyless (F vs)) (sym (Expr.own_is a)) (expr_send.owned a vs);
  leaving = λ k x w. tt;
}

def_send : IsSend CalcDef.the_row
def_send = search (hole_send, name_send, crosses, sendable) depth 60 fits 10000

checked_send : IsSend Checked.the_row
checked_send = search (def_send, crosses, sendable) depth 60 fits 10000

content_send : IsSend Content.the_row
content_send = search (crosses, sendable) depth 60 fits 10000

sheet_send : IsSend Sheet.the_row
sheet_send = search (checked_send, content_send, crosses, sendable) depth 60 fits 10000

turn_send : IsSend Turn.the_row
turn_send = search (crosses, sendable) depth 60 fits 10000

checked_field_send : IsSend (Checked.the_field).row
checked_field_send = checked_send

parts_field_send : IsSend (GroupDefParts.the_field).row
parts_field_send = struct_send (shape GroupDefParts.the_type) (search sendable, (search sendable, (search sendable, (checked_field_send, tt))))

opening_field_send : IsSend (GroupOpening.the_field).row
opening_field_send = struct_send (shape GroupOpening.the_type) (
  Vec-send u32 (search sendable),
  (
    Vec-send _ (Vec-send CalcValue.the_row value_send),
    (search sendable, (search sendable, tt)),
  ),
)

sheet_field_send : IsSend (Sheet.the_field).row
sheet_field_send = sheet_send

inside_send : (D : RattleType) (k : Ghosts D.Denot) → IsSend D → IsSend (Inside.the_row D k)
inside_send D k s = recorded_send (Inside.the_field D k).row _ _ (Inside.the_type D k).to_one
    (struct_send (shape (Inside.the_type D k)) (
      (search sendable),
      (
        (search sendable),
        (
          (parts_field_send),
          (
            (Vec-send u8 (search sendable)),
            (
              (Vec-send u32 (search sendable)),
              (
                (opening_field_send),
                (
                  (Vec-send Turn.the_row turn_send),
                  (
                    (sheet_field_send),
                    (
                      (Vec-send u32 (search sendable)),
                      (
                        (search (s, sendable)),
                        (
                          (search sendable),
                          (
                            (Vec-send u32 (search sendable)),
                            (
                              (Vec-send _ (Vec-send CalcValue.the_row value_send)),
                              (
                                (search sendable),
                                (
                                  (Vec-send bool (search sendable)),
                                  (
                                    (search sendable),
                                    (
                                        tt),
                                  ),
                                ),
                              ),
                            ),
                          ),
                        ),
                      ),
                    ),
                  ),
                ),
              ),
            ),
          ),
        ),
      ),
    ))

pub book_send : (D : RattleType) (k : Ghosts D.Denot) → IsSend D → IsSend (Book.the_row D k)
book_send D k s = view_send (Inside.the_row D k) _ _ _ _ (inside_send D k s)

pub groups_sync : (D : RattleType) (k : Ghosts D.Denot) → IsSend D → IsSync (Groups.the_row D k)
groups_sync D k s = search (book_send, crosses, sendable) depth 60
