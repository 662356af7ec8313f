use Rattle.std.proofs.Common.{List, [], refl, sym, ap, ◌∙◌, arith}
use Rattle.std.specs.Prelude.{slice_index_or, slice_set}
use Rattle.msg_names.specs.Number.{selector_number, imp_number}
use Rattle.msg_rows.specs.RowList.{RowList, own_in, rows_of, set_last}
use Rattle.msg_rows.proofs.ReservedLemmas.{all-none, all-read, put-few, put-written, put-unwritten}
use Rattle.msg_rows.proofs.RoomLemmas.{keep-all, keep-same}
use Rattle.std.proofs.Common.{subst}
use Rattle.msg_rows.specs.RowList.{KeepRoom}
use Rattle.msg_rows.proofs.ReservedLemmas.{all}
use Rattle.msg_rows.proofs.row_lists.RowLists.rewrite_row.Goals as goal

pub invariant_of-self : goal.invariant_of-self
invariant_of-self c = record { few = put-few c.self.inside.written.items c.rewrite_row.new.lists.items c.self.inside.count c.args.at _ c.self.invariant.few c.rewrite_row.ensures.rows; room = omega (arith, c.self.invariant.room, c.rewrite_row.ensures.room) }

pub returns-then-at-len-clause-rows : goal.returns-then-at-len-clause-rows
returns-then-at-len-clause-rows c =
    let put = set_last (selector_number c.args.sel) (imp_number c.args.imp) in
    put-written c.self.inside.written.items c.rewrite_row.new.lists.items c.self.inside.count c.args.at put (omega (arith, c.if-at-len.true, c.len.ensures, c.self.inside.written.ok.0)) c.rewrite_row.ensures.rows
    ∙ ap (λ (ls : List RowList). slice_set (rows_of ls) c.args.at (put (slice_index_or (rows_of ls) c.args.at []))) c.self.view_is

pub returns-else-at-len-clause-rows : goal.returns-else-at-len-clause-rows
returns-else-at-len-clause-rows c =
    let put = set_last (selector_number c.args.sel) (imp_number c.args.imp) in
    ap rows_of (sym c.self.view_is) ∙ put-unwritten c.self.inside.written.items c.self.inside.count c.args.at put (omega (arith, c.if-at-len.false, c.len.ensures, c.self.inside.written.ok.0)) refl
    ∙ ap (λ (ls : List RowList). slice_set (rows_of ls) c.args.at (put (slice_index_or (rows_of ls) c.args.at []))) c.self.view_is

pub returns-then-at-len-clause-was : goal.returns-then-at-len-clause-was
returns-then-at-len-clause-was c =
    c.rewrite_row.ensures.was ∙ ap (own_in (selector_number c.args.sel))
    (sym (all-read c.self.inside.written.items c.self.inside.count c.args.at (omega (arith, c.if-at-len.true, c.len.ensures, c.self.inside.written.ok.0)))
    ∙ ap (λ (ls : List RowList). slice_index_or (rows_of ls) c.args.at []) c.self.view_is)

pub returns-else-at-len-clause-was : goal.returns-else-at-len-clause-was
returns-else-at-len-clause-was c =
    ap (own_in (selector_number c.args.sel))
    (sym (all-none c.self.inside.written.items c.self.inside.count c.args.at (omega (arith, c.if-at-len.false, c.len.ensures, c.self.inside.written.ok.0)))
    ∙ ap (λ (ls : List RowList). slice_index_or (rows_of ls) c.args.at []) c.self.view_is)

pub returns-then-at-len-clause-keeps : goal.returns-then-at-len-clause-keeps
returns-then-at-len-clause-keeps c =
    let count = c.self.inside.count in
    subst (λ ls. KeepRoom ls (all c.rewrite_row.new.lists.items count)) c.self.view_is (keep-all c.self.inside.written.items c.rewrite_row.new.lists.items count c.rewrite_row.ensures.keeps)

pub returns-else-at-len-clause-keeps : goal.returns-else-at-len-clause-keeps
returns-else-at-len-clause-keeps c = keep-same c.args.self.now c.args.self.now refl
