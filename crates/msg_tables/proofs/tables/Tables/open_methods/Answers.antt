use Rattle.std.proofs.Common.{◌≡◌, ◌<◌, [], ◌++◌, length, length-append, refl, sym, ap, ◌∙◌, subst, arith}
use Rattle.std.specs.Prelude.{slice_set, slice_index_or}
use Rattle.msg_rows.specs.Methods.{method_numbers}
use Rattle.msg_rows.specs.RowList.{rows_of}
use Rattle.msg_tables.specs.After.{rows_at}
use Rattle.msg_tables.specs.Stands.{Holds}
use Rattle.msg_names.specs.ClassRef.{slot_of}
use Rattle.msg_tables.specs.View.{kept}
use Rattle.msg_tables.proofs.HoldsLemmas.{holds-append, length-rows_at, length-method_numbers}
use Rattle.msg_tables.proofs.EditLemmas.{counted-put}
use Rattle.msg_tables.proofs.ListedLemmas.{listed-append}
use Rattle.msg_names.proofs.ClassRefLemmas.{slot_of-inside}
use Rattle.msg_tables.proofs.PutLemmas.{put-length, put-listed, length-rows_of}
use Rattle.msg_tables.specs.Origin.{last_imp}
use Rattle.msg_tables.proofs.tables.Tables.open_methods.Goals as goal

pub invariant_of-self-2 : goal.invariant_of-self-2
invariant_of-self-2 c =
    let given = rw (← c.self.view_is) at c.requires in
    let now = c.in_ok-append_rows.ensures.ok in
    let methods = method_numbers c.args.methods.now in
    let n = last_imp c.self.inside.counts in
    let was = c.self.inside.lists in
    let inside = slot_of-inside c.args.class (length c.self.inside.supers.items) (length was) c.self.invariant.lists given.class in
    let there : c.slot.result < length (rows_of was) = omega (arith, c.slot.ensures, inside, length-rows_of was) in
    let before = slice_index_or (rows_of was) c.slot.result [] in
    let total = counted-put (rows_of was) (rows_of c.append_rows.new.self) c.slot.result c.self.inside.row_count (before ++ methods) there now c.self.invariant.counted in
    let more = length-append before methods in
    record {
      counted = omega (arith, total, more, length-method_numbers c.args.methods.now);
      order = c.self.invariant.order;
      room = c.self.invariant.room;
      preorder = c.self.invariant.preorder;
      lists = put-length c.self.inside.lists c.append_rows.new.self c.slot.result _ now ∙ c.self.invariant.lists;
      listed = put-listed n c.self.inside.lists c.append_rows.new.self c.slot.result (λ ms. ms ++ methods) now c.self.invariant.listed
          (λ ms all. listed-append n ms methods all given.listed);
      few_classes = c.self.invariant.few_classes;
      few_rows = given.room;
      few_changes = c.self.invariant.few_changes;
    }

pub returns : goal.returns
returns c =
    let given = rw (← c.self.view_is) at c.requires in
    let was = c.self.inside.lists in
    let class = c.args.class in
    let methods = method_numbers c.args.methods.now in
    let is : rows_of c.append_rows.new.self ≡ slice_set (rows_of was) (slot_of class) (kept (rows_of was) class ++ methods) =
    c.in_ok-append_rows.ensures.ok ∙ ap (λ p. slice_set (rows_of was) p (slice_index_or (rows_of was) p [] ++ methods)) c.slot.ensures in
    let inside = slot_of-inside class (length c.self.inside.supers.items) (length was) c.self.invariant.lists given.class in
    let room : slot_of class < length (rows_of was) = omega (arith, length-rows_of was, inside) in
    rw (← c.self.view_is) record {
      rows = λ rows holds. subst (λ lists. Holds lists (rows ++ rows_at class methods)) (sym is) (holds-append (rows_of was) rows class methods room holds);
      row_count = omega (arith, length-rows_at class methods, length-method_numbers c.args.methods.now);
      rest = refl;
    }
