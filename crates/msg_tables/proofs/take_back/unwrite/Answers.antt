use Rattle.std.proofs.Common.{subst, arith}
use Rattle.std.specs.Vec.{vec_capacity}
use Rattle.msg_names.specs.ClassRef.{slot_of}
use Rattle.msg_tables.specs.Journal.{CanGoBack}
use Rattle.msg_rows.proofs.RoomLemmas.{CanPut, can-put, length-put_at}
use Rattle.msg_tables.proofs.take_back.unwrite.Goals as goal
use Rattle.msg_tables.proofs.take_back.unwrite.Goals.{After-slot-in-Removed}

put : (c : After-slot-in-Removed) → CanPut c.args.lists.now (slot_of c.in-Removed.class) c.in-Removed.place
put c =
    let back = subst (λ e. CanGoBack e (vec_capacity c.args.order.now) c.args.lists.now c.args.order.now.items) c.in-Removed.is c.requires in
    can-put c.args.lists.now (slot_of c.in-Removed.class) c.in-Removed.place c.in-Removed.sel c.in-Removed.imp back

pub put_back_row-requires-clause-at : goal.put_back_row-requires-clause-at
put_back_row-requires-clause-at c = let is = c.slot-in-Removed.ensures in let p = (put c).inside in rw is p

pub put_back_row-requires-clause-room : goal.put_back_row-requires-clause-room
put_back_row-requires-clause-room c = let is = c.slot-in-Removed.ensures in let p = (put c).room in rw is p

pub put_back_row-requires-clause-place : goal.put_back_row-requires-clause-place
put_back_row-requires-clause-place c = let is = c.slot-in-Removed.ensures in let p = (put c).place in rw is p

pub remake-requires-clause-room : goal.remake-requires-clause-room
remake-requires-clause-room c =
    let back = subst (λ e. CanGoBack e (vec_capacity c.args.order.now) c.args.lists.now c.args.order.now.items) c.in-Disposed.is c.requires in
    let many = length-put_at c.in-Disposed.place c.in-Disposed.class c.args.order.now.items in
    let a = back.1 in
    omega (arith, many, a)

pub remake-requires-clause-place : goal.remake-requires-clause-place
remake-requires-clause-place c =
    let back = subst (λ e. CanGoBack e (vec_capacity c.args.order.now) c.args.lists.now c.args.order.now.items) c.in-Disposed.is c.requires in
    let many = length-put_at c.in-Disposed.place c.in-Disposed.class c.args.order.now.items in
    let a = back.0 in
    omega (arith, many, a)
