use Rattle.std.proofs.Common.{◌≡◌, ◌+◌, ◌++◌, [], ℕ, List, length, sym, ap, ◌∙◌, arith}
use Rattle.std.specs.Prelude.{reverse, slice_index_or, slice_set}
use Rattle.msg_rows.specs.Methods.{method_numbers}
use Rattle.msg_rows.specs.RowList.{RowList, rows_of}
use Rattle.msg_rows.proofs.ReservedLemmas.{Reaches, all-length, all-same, by_result, if_err, if_ok, put_two, put_two-few, reached-same, same-few}
use Rattle.msg_rows.proofs.RoomLemmas.{grown-on, keep-all, lacks-before}
use Rattle.std.proofs.Common.{subst, ◌⊎◌, ⊎_elim, inl, inr}
use Rattle.msg_rows.specs.RowList.{KeepRoom, LacksRoomAt, rooms_of}
use Rattle.msg_rows.proofs.ReservedLemmas.{all}
use Rattle.msg_rows.proofs.row_lists.RowLists.attach_rows.Goals as goal

pub invariant_of-self : goal.invariant_of-self
invariant_of-self c =
    let written = c.self.inside.written.items in
    let count = c.self.inside.count in
    let whole : length c.args.self.now ≡ count = ap length (sym c.self.view_is) ∙ all-length written count c.self.invariant.few in
    let reaches : Reaches written c.reach.new.lists.items count =
    record { rows = c.reach.ensures.rows; more = c.reach.ensures.more; few = c.reach.ensures.few count (omega (arith, whole, c.requires)) c.self.invariant.few } in
    by_result c.attach_rows.result c.attach_rows.ensures.ok c.attach_rows.ensures.err
    (λ e. record { few = put_two-few c.reach.new.lists.items c.attach_rows.new.lists.items count c.args.at _ _ reaches.few e; room = omega (arith, c.self.invariant.room, c.reach.ensures.room, c.attach_rows.ensures.room) })
    (λ e. record { few = same-few c.reach.new.lists.items c.attach_rows.new.lists.items count reaches.few e; room = omega (arith, c.self.invariant.room, c.reach.ensures.room, c.attach_rows.ensures.room) })

pub returns-clause-ok : goal.returns-clause-ok
returns-clause-ok c =
    let written = c.self.inside.written.items in
    let count = c.self.inside.count in
    let whole : length c.args.self.now ≡ count = ap length (sym c.self.view_is) ∙ all-length written count c.self.invariant.few in
    let reaches : Reaches written c.reach.new.lists.items count =
    record { rows = c.reach.ensures.rows; more = c.reach.ensures.more; few = c.reach.ensures.few count (omega (arith, whole, c.requires)) c.self.invariant.few } in
    let f = λ (rs : List (ℕ × ℕ)). rs ++ reverse (method_numbers c.args.methods.now) in
    let g = λ (rs : List (ℕ × ℕ)). rs ++ reverse (method_numbers c.args.class_methods.now) in
    if_ok c.attach_rows.result c.attach_rows.ensures.ok (λ e. put_two written c.reach.new.lists.items c.attach_rows.new.lists.items count c.args.at f g reaches c.reach.ensures.reached e
    ∙ ap (λ (ls : List RowList). slice_set (slice_set (rows_of ls) c.args.at (f (slice_index_or (rows_of ls) c.args.at []))) (c.args.at + 1) (g (slice_index_or (rows_of ls) (c.args.at + 1) []))) c.self.view_is)

pub returns-clause-err : goal.returns-clause-err
returns-clause-err c =
    let written = c.self.inside.written.items in
    let count = c.self.inside.count in
    let whole : length c.args.self.now ≡ count = ap length (sym c.self.view_is) ∙ all-length written count c.self.invariant.few in
    let reaches : Reaches written c.reach.new.lists.items count =
    record { rows = c.reach.ensures.rows; more = c.reach.ensures.more; few = c.reach.ensures.few count (omega (arith, whole, c.requires)) c.self.invariant.few } in
    if_err c.attach_rows.result c.attach_rows.ensures.err (λ e. all-same c.reach.new.lists.items c.attach_rows.new.lists.items count e ∙ reached-same written c.reach.new.lists.items count reaches ∙ ap rows_of c.self.view_is)

pub returns-clause-keeps : goal.returns-clause-keeps
returns-clause-keeps c =
    let count = c.self.inside.count in
    let was = c.self.inside.written.items in
    subst (λ ls. KeepRoom ls (all c.attach_rows.new.lists.items count)) c.self.view_is
    (keep-all was c.attach_rows.new.lists.items count (grown-on (rooms_of was) (rooms_of c.reach.new.lists.items) (rooms_of c.attach_rows.new.lists.items) c.reach.ensures.keeps c.attach_rows.ensures.keeps))

pub returns-clause-refused : goal.returns-clause-refused
returns-clause-refused c =
    let written = c.self.inside.written.items in
    let count = c.self.inside.count in
    let at = c.args.at in
    let n = length c.args.methods.now in
    let m = length c.args.class_methods.now in
    let whole : length c.args.self.now ≡ count = ap length (sym c.self.view_is) ∙ all-length written count c.self.invariant.few in
    let reaches : Reaches written c.reach.new.lists.items count =
    record { rows = c.reach.ensures.rows; more = c.reach.ensures.more; few = c.reach.ensures.few count (omega (arith, whole, c.requires)) c.self.invariant.few } in
    if_err c.attach_rows.result c.attach_rows.ensures.refused (λ lacks.
    subst (λ ls. LacksRoomAt ls at n ⊎ LacksRoomAt ls (at + 1) m) c.self.view_is
    (⊎_elim (λ (first : LacksRoomAt c.reach.new.lists.items at n). inl (lacks-before written c.reach.new.lists.items count at n reaches c.reach.ensures.keeps (omega (arith, c.reach.ensures.reached)) first))
    (λ (second : LacksRoomAt c.reach.new.lists.items (at + 1) m). inr (lacks-before written c.reach.new.lists.items count (at + 1) m reaches c.reach.ensures.keeps c.reach.ensures.reached second)) lacks))
