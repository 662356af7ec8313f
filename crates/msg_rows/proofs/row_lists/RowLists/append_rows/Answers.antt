use Rattle.std.proofs.Common.{◌≡◌, ◌++◌, [], ℕ, List, length, sym, ap, ◌∙◌, arith}
use Rattle.std.specs.Prelude.{slice_index_or, slice_set}
use Rattle.msg_rows.specs.Methods.{method_numbers}
use Rattle.msg_rows.specs.RowList.{RowList, rows_of}
use Rattle.msg_rows.proofs.ReservedLemmas.{Reaches, all-length, all-same, by_result, if_err, if_ok, put, put-few, reached-same, same-few}
use Rattle.msg_rows.proofs.RoomLemmas.{grown-on, keep-all}
use Rattle.std.proofs.Common.{subst}
use Rattle.msg_rows.specs.RowList.{KeepRoom, rooms_of}
use Rattle.msg_rows.proofs.ReservedLemmas.{all}
use Rattle.msg_rows.proofs.row_lists.RowLists.append_rows.Goals as goal

pub invariant_of-self : goal.invariant_of-self
invariant_of-self c =
    let written = c.self.inside.written.items in
    let count = c.self.inside.count in
    let whole : length c.args.self.now ≡ count = ap length (sym c.self.view_is) ∙ all-length written count c.self.invariant.few in
    let reaches : Reaches written c.reach.new.lists.items count =
    record { rows = c.reach.ensures.rows; more = c.reach.ensures.more; few = c.reach.ensures.few count (omega (arith, whole, c.requires)) c.self.invariant.few } in
    by_result c.append_rows.result c.append_rows.ensures.ok c.append_rows.ensures.err
    (λ e. record { few = put-few c.reach.new.lists.items c.append_rows.new.lists.items count c.args.at _ reaches.few e; room = omega (arith, c.self.invariant.room, c.reach.ensures.room, c.append_rows.ensures.room) })
    (λ e. record { few = same-few c.reach.new.lists.items c.append_rows.new.lists.items count reaches.few e; room = omega (arith, c.self.invariant.room, c.reach.ensures.room, c.append_rows.ensures.room) })

pub returns-clause-ok : goal.returns-clause-ok
returns-clause-ok c =
    let written = c.self.inside.written.items in
    let count = c.self.inside.count in
    let whole : length c.args.self.now ≡ count = ap length (sym c.self.view_is) ∙ all-length written count c.self.invariant.few in
    let reaches : Reaches written c.reach.new.lists.items count =
    record { rows = c.reach.ensures.rows; more = c.reach.ensures.more; few = c.reach.ensures.few count (omega (arith, whole, c.requires)) c.self.invariant.few } in
    let f = (λ (rs : List (ℕ × ℕ)). rs ++ method_numbers c.args.methods.now) in
    if_ok c.append_rows.result c.append_rows.ensures.ok (λ e. put written c.reach.new.lists.items c.append_rows.new.lists.items count c.args.at f reaches c.reach.ensures.reached e
    ∙ ap (λ (ls : List RowList). slice_set (rows_of ls) c.args.at (f (slice_index_or (rows_of ls) c.args.at []))) c.self.view_is)

pub returns-clause-err : goal.returns-clause-err
returns-clause-err c =
    let written = c.self.inside.written.items in
    let count = c.self.inside.count in
    let whole : length c.args.self.now ≡ count = ap length (sym c.self.view_is) ∙ all-length written count c.self.invariant.few in
    let reaches : Reaches written c.reach.new.lists.items count =
    record { rows = c.reach.ensures.rows; more = c.reach.ensures.more; few = c.reach.ensures.few count (omega (arith, whole, c.requires)) c.self.invariant.few } in
    if_err c.append_rows.result c.append_rows.ensures.err (λ e. all-same c.reach.new.lists.items c.append_rows.new.lists.items count e ∙ reached-same written c.reach.new.lists.items count reaches ∙ ap rows_of c.self.view_is)

pub returns-clause-keeps : goal.returns-clause-keeps
returns-clause-keeps c =
    let count = c.self.inside.count in
    let was = c.self.inside.written.items in
    subst (λ ls. KeepRoom ls (all c.append_rows.new.lists.items count)) c.self.view_is
    (keep-all was c.append_rows.new.lists.items count (grown-on (rooms_of was) (rooms_of c.reach.new.lists.items) (rooms_of c.append_rows.new.lists.items) c.reach.ensures.keeps c.append_rows.ensures.keeps))
