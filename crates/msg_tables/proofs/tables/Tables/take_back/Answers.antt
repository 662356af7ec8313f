use Rattle.std.proofs.Common.{◌≡◌, length, sym, ap, ◌∙◌, subst, arith}
use Rattle.msg_tables.specs.Preorder.{HavePreorder}
use Rattle.msg_rows.specs.RowList.{rooms_of, rows_of}
use Rattle.std.specs.Vec.{vec_capacity}
use Rattle.msg_rows.proofs.RoomLemmas.{grown-same}
use Rattle.msg_tables.proofs.BackLemmas.{kept-again, view-again}
use Rattle.msg_tables.proofs.JournalLemmas.{fit-all, supers-length}
use Rattle.msg_tables.proofs.tables.Tables.take_back.Goals as goal

pub unwrite_all-made-requires : goal.unwrite_all-made-requires
unwrite_all-made-requires c =
    let (old, goes) = rw (← c.self.view_is) at c.requires in
    let rooms = rooms_of c.self.inside.lists in
    fit-all rooms rooms (length c.self.inside.supers.items) (vec_capacity c.self.inside.order) (rows_of c.self.inside.lists) c.self.inside.order.items c.args.journal.now.items (grown-same rooms) c.self.invariant.room goes.back.room

pub returns-then-made-clause-grown : goal.returns-then-made-clause-grown
returns-then-made-clause-grown c = rw (← c.self.view_is) c.unwrite_all-made.ensures.keeps

pub returns-else-made-clause-grown : goal.returns-else-made-clause-grown
returns-else-made-clause-grown c = rw (← c.self.view_is) c.unwrite_all-made.ensures.keeps

pub rebuild-requires-clause-order : goal.rebuild-requires-clause-order
rebuild-requires-clause-order c =
    let (old, goes) = rw (← c.self.view_is) at c.requires in
    let s : c.unwrite_all-made.new.supers.items ≡ old.supers = c.unwrite_all-made.ensures.supers ∙ goes.back.supers in
    let o : c.unwrite_all-made.new.order.items ≡ old.order = c.unwrite_all-made.ensures.order ∙ goes.back.order in
    let l : rows_of c.unwrite_all-made.new.lists ≡ old.lists = c.unwrite_all-made.ensures.lists ∙ goes.back.lists in
    let kept = kept-again old c.unwrite_all-made.new.supers.items c.unwrite_all-made.new.order.items c.self.inside.listed c.unwrite_all-made.new.lists c.self.inside.counts c.self.inside.limits c.args.start.rows c.args.start.changes s o l goes.rest goes.sound in
    rw (c.deref.ensures.value, c.deref-then-made.ensures.value) kept.ordered

pub rebuild-requires-clause-few : goal.rebuild-requires-clause-few
rebuild-requires-clause-few c =
    let (old, goes) = rw (← c.self.view_is) at c.requires in
    let s : c.unwrite_all-made.new.supers.items ≡ old.supers = c.unwrite_all-made.ensures.supers ∙ goes.back.supers in
    let o : c.unwrite_all-made.new.order.items ≡ old.order = c.unwrite_all-made.ensures.order ∙ goes.back.order in
    let l : rows_of c.unwrite_all-made.new.lists ≡ old.lists = c.unwrite_all-made.ensures.lists ∙ goes.back.lists in
    let kept = kept-again old c.unwrite_all-made.new.supers.items c.unwrite_all-made.new.order.items c.self.inside.listed c.unwrite_all-made.new.lists c.self.inside.counts c.self.inside.limits c.args.start.rows c.args.start.changes s o l goes.rest goes.sound in
    omega (arith, ap length c.deref.ensures.value, kept.few_classes)

pub rebuild-requires-clause-depths : goal.rebuild-requires-clause-depths
rebuild-requires-clause-depths c =
    let many : length c.unwrite_all-made.new.supers.items ≡ length c.self.inside.supers.items = ap length c.unwrite_all-made.ensures.supers ∙ supers-length c.args.journal.now.items c.self.inside.supers.items in
    omega (arith, ap length c.deref.ensures.value, many, c.self.invariant.preorder.depth_room)

pub rebuild-requires-clause-nexts : goal.rebuild-requires-clause-nexts
rebuild-requires-clause-nexts c =
    let many : length c.unwrite_all-made.new.supers.items ≡ length c.self.inside.supers.items = ap length c.unwrite_all-made.ensures.supers ∙ supers-length c.args.journal.now.items c.self.inside.supers.items in
    omega (arith, ap length c.deref.ensures.value, many, c.self.invariant.preorder.next_room)

pub invariant_of-self : goal.invariant_of-self
invariant_of-self c =
    let (old, goes) = rw (← c.self.view_is) at c.requires in
    let s : c.unwrite_all-made.new.supers.items ≡ old.supers = c.unwrite_all-made.ensures.supers ∙ goes.back.supers in
    let o : c.unwrite_all-made.new.order.items ≡ old.order = c.unwrite_all-made.ensures.order ∙ goes.back.order in
    let l : rows_of c.unwrite_all-made.new.lists ≡ old.lists = c.unwrite_all-made.ensures.lists ∙ goes.back.lists in
    let kept = kept-again old c.unwrite_all-made.new.supers.items c.unwrite_all-made.new.order.items c.self.inside.listed c.unwrite_all-made.new.lists c.self.inside.counts c.self.inside.limits c.args.start.rows c.args.start.changes s o l goes.rest goes.sound in
    let many : length c.unwrite_all-made.new.supers.items ≡ length c.self.inside.supers.items = ap length c.unwrite_all-made.ensures.supers ∙ supers-length c.args.journal.now.items c.self.inside.supers.items in
    record {
      counted = kept.counted;
      order = kept.ordered;
      room = omega (arith, many, c.self.invariant.room, c.unwrite_all-made.ensures.room);
      preorder = subst (λ supers. HavePreorder supers c.rebuild.new.self.depths c.rebuild.new.self.nexts) c.deref.ensures.value c.rebuild.ensures;
      lists = kept.many;
      listed = kept.listed;
      few_classes = kept.few_classes;
      few_rows = kept.few_rows;
      few_changes = kept.few_changes;
    }

pub invariant_of-self-else-made : goal.invariant_of-self-else-made
invariant_of-self-else-made c =
    let (old, goes) = rw (← c.self.view_is) at c.requires in
    let s : c.unwrite_all-made.new.supers.items ≡ old.supers = c.unwrite_all-made.ensures.supers ∙ goes.back.supers in
    let o : c.unwrite_all-made.new.order.items ≡ old.order = c.unwrite_all-made.ensures.order ∙ goes.back.order in
    let l : rows_of c.unwrite_all-made.new.lists ≡ old.lists = c.unwrite_all-made.ensures.lists ∙ goes.back.lists in
    let kept = kept-again old c.unwrite_all-made.new.supers.items c.unwrite_all-made.new.order.items c.self.inside.listed c.unwrite_all-made.new.lists c.self.inside.counts c.self.inside.limits c.args.start.rows c.args.start.changes s o l goes.rest goes.sound in
    let many : length c.unwrite_all-made.new.supers.items ≡ length c.self.inside.supers.items = ap length c.unwrite_all-made.ensures.supers ∙ supers-length c.args.journal.now.items c.self.inside.supers.items in
    record {
      counted = kept.counted;
      order = kept.ordered;
      room = omega (arith, many, c.self.invariant.room, c.unwrite_all-made.ensures.room);
      preorder = subst (λ supers. HavePreorder supers c.self.inside.preorder.depths c.self.inside.preorder.nexts) (sym (c.unwrite_all-made.ensures.kept c.if-made.false)) c.self.invariant.preorder;
      lists = kept.many;
      listed = kept.listed;
      few_classes = kept.few_classes;
      few_rows = kept.few_rows;
      few_changes = kept.few_changes;
    }

pub returns-then-made-clause-back : goal.returns-then-made-clause-back
returns-then-made-clause-back c old goes =
    let goes = rw (← c.self.view_is) at goes in
    let s : c.unwrite_all-made.new.supers.items ≡ old.supers = c.unwrite_all-made.ensures.supers ∙ goes.back.supers in
    let o : c.unwrite_all-made.new.order.items ≡ old.order = c.unwrite_all-made.ensures.order ∙ goes.back.order in
    let l : rows_of c.unwrite_all-made.new.lists ≡ old.lists = c.unwrite_all-made.ensures.lists ∙ goes.back.lists in
    view-again old c.unwrite_all-made.new.supers.items c.unwrite_all-made.new.order.items c.self.inside.listed c.unwrite_all-made.new.lists c.self.inside.counts c.self.inside.limits c.args.start.rows c.args.start.changes s o l goes.rest

pub returns-else-made-clause-back : goal.returns-else-made-clause-back
returns-else-made-clause-back c old goes =
    let goes = rw (← c.self.view_is) at goes in
    let s : c.unwrite_all-made.new.supers.items ≡ old.supers = c.unwrite_all-made.ensures.supers ∙ goes.back.supers in
    let o : c.unwrite_all-made.new.order.items ≡ old.order = c.unwrite_all-made.ensures.order ∙ goes.back.order in
    let l : rows_of c.unwrite_all-made.new.lists ≡ old.lists = c.unwrite_all-made.ensures.lists ∙ goes.back.lists in
    view-again old c.unwrite_all-made.new.supers.items c.unwrite_all-made.new.order.items c.self.inside.listed c.unwrite_all-made.new.lists c.self.inside.counts c.self.inside.limits c.args.start.rows c.args.start.changes s o l goes.rest
