use Rattle.std.proofs.Common.{List, [], sym, ap, ◌∙◌, arith}
use Rattle.std.specs.Prelude.{slice_index_or, slice_set}
use Rattle.msg_rows.specs.RowList.{RowList, rows_of, without_last}
use Rattle.msg_rows.proofs.PopLemmas.{without-empty}
use Rattle.msg_rows.proofs.ReservedLemmas.{put-few, put-written, put-unwritten}
use Rattle.msg_rows.proofs.RoomLemmas.{keep-all, keep-same}
use Rattle.std.proofs.Common.{subst, refl}
use Rattle.msg_rows.specs.RowList.{KeepRoom}
use Rattle.msg_rows.proofs.ReservedLemmas.{all}
use Rattle.msg_rows.proofs.row_lists.RowLists.shorten_rows.Goals as goal

pub invariant_of-self : goal.invariant_of-self
invariant_of-self c = record { few = put-few c.self.inside.written.items c.shorten_rows.new.lists.items c.self.inside.count c.args.at _ c.self.invariant.few c.shorten_rows.ensures.rows; room = omega (arith, c.self.invariant.room, c.shorten_rows.ensures.room) }

pub returns-then-at-len-clause-rows : goal.returns-then-at-len-clause-rows
returns-then-at-len-clause-rows c =
    let put = without_last c.args.count in
    put-written c.self.inside.written.items c.shorten_rows.new.lists.items c.self.inside.count c.args.at put (omega (arith, c.if-at-len.true, c.len.ensures, c.self.inside.written.ok.0)) c.shorten_rows.ensures.rows
    ∙ ap (λ (ls : List RowList). slice_set (rows_of ls) c.args.at (put (slice_index_or (rows_of ls) c.args.at []))) c.self.view_is

pub returns-else-at-len-clause-rows : goal.returns-else-at-len-clause-rows
returns-else-at-len-clause-rows c =
    let put = without_last c.args.count in
    ap rows_of (sym c.self.view_is) ∙ put-unwritten c.self.inside.written.items c.self.inside.count c.args.at put (omega (arith, c.if-at-len.false, c.len.ensures, c.self.inside.written.ok.0)) (without-empty c.args.count)
    ∙ ap (λ (ls : List RowList). slice_set (rows_of ls) c.args.at (put (slice_index_or (rows_of ls) c.args.at []))) c.self.view_is

pub returns-then-at-len-clause-keeps : goal.returns-then-at-len-clause-keeps
returns-then-at-len-clause-keeps c =
    let count = c.self.inside.count in
    subst (λ ls. KeepRoom ls (all c.shorten_rows.new.lists.items count)) c.self.view_is (keep-all c.self.inside.written.items c.shorten_rows.new.lists.items count c.shorten_rows.ensures.keeps)

pub returns-else-at-len-clause-keeps : goal.returns-else-at-len-clause-keeps
returns-else-at-len-clause-keeps c = keep-same c.args.self.now c.args.self.now refl
