use Rattle.std.proofs.Common.{List, [], sym, ap, ◌∙◌, arith}
use Rattle.std.specs.Prelude.{slice_index_or, slice_set}
use Rattle.msg_rows.specs.RowList.{RowList, rows_of, with_row_at}
use Rattle.msg_rows.proofs.ReservedLemmas.{put-written}
use Rattle.msg_rows.proofs.RoomLemmas.{keep-all, keep-same}
use Rattle.std.proofs.Common.{subst, refl}
use Rattle.msg_rows.specs.RowList.{KeepRoom}
use Rattle.msg_rows.proofs.ReservedLemmas.{all}
use Rattle.msg_rows.proofs.row_lists.RowLists.put_back_row.Goals as goal

pub returns-then-at-len-clause-rows : goal.returns-then-at-len-clause-rows
returns-then-at-len-clause-rows c =
    let put = with_row_at c.args.place c.args.sel c.args.imp in
    put-written c.self.inside.written.items c.put_back_row.new.lists.items c.self.inside.count c.args.at put (omega (arith, c.if-at-len.true, c.len.ensures, c.self.inside.written.ok.0)) c.put_back_row.ensures.rows
    ∙ ap (λ (ls : List RowList). slice_set (rows_of ls) c.args.at (put (slice_index_or (rows_of ls) c.args.at []))) c.self.view_is

pub returns-then-at-len-clause-keeps : goal.returns-then-at-len-clause-keeps
returns-then-at-len-clause-keeps c =
    let count = c.self.inside.count in
    subst (λ ls. KeepRoom ls (all c.put_back_row.new.lists.items count)) c.self.view_is (keep-all c.self.inside.written.items c.put_back_row.new.lists.items count c.put_back_row.ensures.keeps)

pub returns-else-at-len-clause-keeps : goal.returns-else-at-len-clause-keeps
returns-else-at-len-clause-keeps c = keep-same c.args.self.now c.args.self.now refl
