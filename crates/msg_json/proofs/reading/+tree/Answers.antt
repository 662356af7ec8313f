use Rattle.std.proofs.Common.{◌≡◌, ◌-◌, ◌<◌, [], ◌∷◌, ◌++◌, drop, length, Some, None, sym, ap, ap₂, ◌∙◌, arith, rules, append_assoc}
use Rattle.std.proofs.Math.Seq.{drop-append_seam}
use Rattle.std.proofs.lemmas.Result.{err_from_is_err_and}
use Rattle.json.specs.Token.{Token}
use Rattle.json.specs.Json.{parse_map, after_end_array, read_key, items, members, value}
use Rattle.json.specs.Reads.{token_of}
use Rattle.json.proofs.Grammar.{value_is, value-begin_array, value-begin_object, read_key-shorter}
use Rattle.serde_json.specs.Data.{null, boolean, number, string, array, object}
use Rattle.serde_json.specs.Read.{of_json, of_members, converted}
use Rattle.serde_json.specs.View.{number_view}
use Rattle.msg_json.proofs.ReadingLemmas.{converted-array, converted-object, item_read, item_refused, items_over, member_read, member_refused, key_refused, members_over}
use Rattle.msg_json.specs.View.{view, items_view, members_view}
use Rattle.msg_json.specs.declared.tree.Tree.{Text, Number, Bool, Null, the_lemmas}
use Rattle.msg_json.proofs.ViewLemmas.{Entry, view-Array, view-Object, items_before, items_before-no_items, one_more_item, members_view-push}
use Rattle.msg_json.proofs.reading.+tree.Goals as goal

pub tree-returns-in_default-clause-err : goal.tree-returns-in_default-clause-err
tree-returns-in_default-clause-err t c other =
    let empty : c.args.reader.now ≡ [] = grind arith in
    ap (converted of_json) (ap (value c.args.depth) empty ∙ value_is c.args.depth [])

pub tree-returns-then-depth-eq0-clause-err : goal.tree-returns-then-depth-eq0-clause-err
unfolding value
tree-returns-then-depth-eq0-clause-err t c other =
    let first : c.args.reader.now ≡ token_of c.in-Some.token ∷ c.next.new.self = c.in-Some.ensures.value in
    let none : c.args.depth ≡ 0 = omega arith in
    ap (converted of_json) (ap₂ value none (first ∙ ap (λ k. token_of k ∷ c.next.new.self) c.in-BeginArray.is))

pub tree-returns-then-depth-eq0-2-clause-err : goal.tree-returns-then-depth-eq0-2-clause-err
unfolding value
tree-returns-then-depth-eq0-2-clause-err t c other =
    let first : c.args.reader.now ≡ token_of c.in-Some.token ∷ c.next.new.self = c.in-Some.ensures.value in
    let none : c.args.depth ≡ 0 = omega arith in
    ap (converted of_json) (ap₂ value none (first ∙ ap (λ k. token_of k ∷ c.next.new.self) c.in-BeginObject.is))

pub tree-returns-in_err-values-in-BeginArray-clause-err : goal.tree-returns-in_err-values-in-BeginArray-clause-err
tree-returns-in_err-values-in-BeginArray-clause-err t c =
    let e = err_from_is_err_and c.from_residual.result c.from_residual.ensures.1 in
    let first : c.args.reader.now ≡ token_of c.in-Some.token ∷ c.next.new.self = c.in-Some.ensures.value in
    let opened = ap (converted of_json) (ap (value c.args.depth) (first ∙ ap (λ k. token_of k ∷ c.next.new.self) c.in-BeginArray.is) ∙ value-begin_array c.args.depth c.next.new.self (omega arith)) ∙ converted-array (items (value (c.args.depth - 1)) (length c.next.new.self) c.next.new.self) in
    rw (e.1, e.2) (λ other. opened ∙ ap (parse_map array) (c.in_err-values-in-BeginArray.ensures.err other))

pub tree-returns-in_err-members-in-BeginObject-clause-err : goal.tree-returns-in_err-members-in-BeginObject-clause-err
tree-returns-in_err-members-in-BeginObject-clause-err t c =
    let e = err_from_is_err_and c.from_residual-in_err-members-in-BeginObject.result c.from_residual-in_err-members-in-BeginObject.ensures.1 in
    let first : c.args.reader.now ≡ token_of c.in-Some.token ∷ c.next.new.self = c.in-Some.ensures.value in
    let opened = ap (converted of_json) (ap (value c.args.depth) (first ∙ ap (λ k. token_of k ∷ c.next.new.self) c.in-BeginObject.is) ∙ value-begin_object c.args.depth c.next.new.self (omega arith)) ∙ converted-object (members (value (c.args.depth - 1)) (length c.next.new.self) c.next.new.self) in
    rw (e.1, e.2) (λ other. opened ∙ ap (parse_map object) (c.in_err-members-in-BeginObject.ensures.err other))

pub tree-returns-in-String-clause-ok : goal.tree-returns-in-String-clause-ok
tree-returns-in-String-clause-ok t c =
    let first : c.args.reader.now ≡ token_of c.in-Some.token ∷ c.next.new.self = c.in-Some.ensures.value in
    let is : c.args.reader.now ≡ Token.string c.in-String.text.now ∷ c.next.new.self = grind (arith, first) in
    let seen : view (Text c.in-String.text) ≡ string c.in-String.text.now = search (rules, the_lemmas) in
    ap (converted of_json) (ap (value c.args.depth) is ∙ value_is c.args.depth _) ∙ ap (λ d. Some (d, c.next.new.self)) (sym seen)

pub tree-returns-in-Bool-clause-ok : goal.tree-returns-in-Bool-clause-ok
tree-returns-in-Bool-clause-ok t c =
    let first : c.args.reader.now ≡ token_of c.in-Some.token ∷ c.next.new.self = c.in-Some.ensures.value in
    let is : c.args.reader.now ≡ Token.boolean c.in-Bool.truth ∷ c.next.new.self = grind (arith, first) in
    let seen : view (Bool c.in-Bool.truth) ≡ boolean c.in-Bool.truth = search (rules, the_lemmas) in
    ap (converted of_json) (ap (value c.args.depth) is ∙ value_is c.args.depth _) ∙ ap (λ d. Some (d, c.next.new.self)) (sym seen)

pub tree-returns-in-Null-clause-ok : goal.tree-returns-in-Null-clause-ok
tree-returns-in-Null-clause-ok t c =
    let first : c.args.reader.now ≡ token_of c.in-Some.token ∷ c.next.new.self = c.in-Some.ensures.value in
    let is : c.args.reader.now ≡ Token.null ∷ c.next.new.self = grind (arith, first) in
    let seen : view Null ≡ null = search (rules, the_lemmas) in
    ap (converted of_json) (ap (value c.args.depth) is ∙ value_is c.args.depth _) ∙ ap (λ d. Some (d, c.next.new.self)) (sym seen)

pub tree-returns-in-Some-number-clause-ok : goal.tree-returns-in-Some-number-clause-ok
tree-returns-in-Some-number-clause-ok t c =
    let first : c.args.reader.now ≡ token_of c.in-Some.token ∷ c.next.new.self = c.in-Some.ensures.value in
    let is : c.args.reader.now ≡ Token.number c.in-Number.text.now ∷ c.next.new.self = grind (arith, first) in
    let seen : view (Number c.in-Some-number.number) ≡ number (number_view c.in-Some-number.number) = search (rules, the_lemmas) in
    ap (converted of_json) (ap (value c.args.depth) is ∙ value_is c.args.depth _) ∙ rw (← c.in-Some-number.ensures, seen)

pub tree-returns-in-None-clause-err : goal.tree-returns-in-None-clause-err
tree-returns-in-None-clause-err t c other =
    let first : c.args.reader.now ≡ token_of c.in-Some.token ∷ c.next.new.self = c.in-Some.ensures.value in
    let is : c.args.reader.now ≡ Token.number c.in-Number.text.now ∷ c.next.new.self = grind (arith, first) in
    ap (converted of_json) (ap (value c.args.depth) is ∙ value_is c.args.depth _) ∙ rw (← c.in-None.ensures)

pub tree-returns-in-EndObject-clause-err : goal.tree-returns-in-EndObject-clause-err
tree-returns-in-EndObject-clause-err t c other =
    let first : c.args.reader.now ≡ token_of c.in-Some.token ∷ c.next.new.self = c.in-Some.ensures.value in
    let none : value c.args.depth c.args.reader.now ≡ None = rw (value_is c.args.depth c.args.reader.now, first) (grind arith) in
    ap (converted of_json) none

pub tree-returns-in_ok-values-in-BeginArray-clause-ok : goal.tree-returns-in_ok-values-in-BeginArray-clause-ok
tree-returns-in_ok-values-in-BeginArray-clause-ok t c =
    let first : c.args.reader.now ≡ token_of c.in-Some.token ∷ c.next.new.self = c.in-Some.ensures.value in
    let opened = ap (converted of_json) (ap (value c.args.depth) (first ∙ ap (λ k. token_of k ∷ c.next.new.self) c.in-BeginArray.is) ∙ value-begin_array c.args.depth c.next.new.self (omega arith)) ∙ converted-array (items (value (c.args.depth - 1)) (length c.next.new.self) c.next.new.self) in
    let found = c.in_ok-values-in-BeginArray in
    opened ∙ ap (parse_map array) found.ensures.ok ∙ ap (λ d. Some (d, c.values.new.reader)) (sym (view-Array found.field-0))

pub tree-returns-in_ok-members-in-BeginObject-clause-ok : goal.tree-returns-in_ok-members-in-BeginObject-clause-ok
tree-returns-in_ok-members-in-BeginObject-clause-ok t c =
    let first : c.args.reader.now ≡ token_of c.in-Some.token ∷ c.next.new.self = c.in-Some.ensures.value in
    let opened = ap (converted of_json) (ap (value c.args.depth) (first ∙ ap (λ k. token_of k ∷ c.next.new.self) c.in-BeginObject.is) ∙ value-begin_object c.args.depth c.next.new.self (omega arith)) ∙ converted-object (members (value (c.args.depth - 1)) (length c.next.new.self) c.next.new.self) in
    let found = c.in_ok-members-in-BeginObject in
    opened ∙ ap (parse_map object) found.ensures.ok ∙ ap (λ d. Some (d, c.members.new.reader)) (sym (view-Object found.field-0))

pub values-returns-in_err-value-clause-err : goal.values-returns-in_err-value-clause-err
values-returns-in_err-value-clause-err t c =
    let e = err_from_is_err_and c.from_residual.result c.from_residual.ensures.1 in
    let p = value c.args.depth in
    let l = c.items in
    let going : (after_end_array l.reader ≡ None) × (c.take_end_array.new.self ≡ l.reader) = grind arith in
    rw (e.1, e.2) (λ other. l.invariant.4 ∙ ap (parse_map (items_before l.invariant.1)) (item_refused p l.invariant.0 l.reader going.0 (rw (← going.1) (c.in_err-value.ensures.err other))))

pub values-items-preserved : goal.values-items-preserved
values-items-preserved t c =
    let p = value c.args.depth in
    let l = c.items in
    let n = l.invariant.0 in
    let found = l.invariant.1 in
    let going : (after_end_array l.reader ≡ None) × (c.take_end_array.new.self ≡ l.reader) = grind arith in
    let done = c.in_ok-value.ensures in
    let v = c.in_ok-value.value in
    let r = c.tree.new.reader in
    let less : length r < length l.reader = rw (← going.1) done.shorter in
    let turn = item_read p n l.reader r (view v) (omega (arith, l.invariant.2)) going.0 (rw (← going.1) done.ok) in
    let pushed : c.push.new.self.items ≡ c.tree.new.stack.values.items ++ v ∷ [] = search rules in (
      n - 1,
      found ++ v ∷ [],
      omega (arith, l.invariant.2),
      pushed ∙ ap (λ vs. vs ++ v ∷ []) (done.values ∙ l.invariant.3) ∙ append_assoc _ found (v ∷ []),
      l.invariant.4 ∙ ap (parse_map (items_before found)) turn ∙ one_more_item found v _,
      omega (arith, l.invariant.5),
      done.members ∙ l.invariant.6,
    )

pub values-returns-in-Ok-clause-ok : goal.values-returns-in-Ok-clause-ok
values-returns-in-Ok-clause-ok t c =
    let p = value c.args.depth in
    let l = c.items in
    let found = l.invariant.1 in
    let r = c.take_end_array.new.self in
    let from : c.len-from.result ≡ length c.args.stack.now.values.items = search rules in
    let kept : c.in-Ok.values.now ≡ found = c.in-Ok.ensures.kept ∙ ap₂ drop from l.invariant.3 ∙ drop-append_seam c.args.stack.now.values.items found in
    l.invariant.4 ∙ ap (parse_map (items_before found)) (items_over p l.invariant.0 l.reader r l.invariant.2 (grind arith)) ∙ ap (λ ds. Some (ds, r)) (items_before-no_items found ∙ ap items_view (sym kept))

pub members-returns-in_err-key-clause-err : goal.members-returns-in_err-key-clause-err
members-returns-in_err-key-clause-err t c =
    let e = err_from_is_err_and c.from_residual.result c.from_residual.ensures.1 in
    let l = c.members in
    rw (e.1, e.2) (λ other. l.invariant.4 ∙ key_refused (value c.args.depth) (members_view l.invariant.1) l.invariant.0 l.reader c.in_err-key.ensures)

pub members-returns-in_err-value-clause-err : goal.members-returns-in_err-value-clause-err
members-returns-in_err-value-clause-err t c =
    let e = err_from_is_err_and c.from_residual-in_err-value.result c.from_residual-in_err-value.ensures.1 in
    let l = c.members in
    let k = c.in-Some.key.now in
    let s = c.next_key.new.reader in
    let named : read_key l.reader ≡ Some (Some k, s) = grind arith in
    rw (e.1, e.2) (λ other. l.invariant.4 ∙ member_refused (value c.args.depth) (members_view l.invariant.1) l.invariant.0 k l.reader s named (c.in_err-value.ensures.err other))

pub members-members-preserved : goal.members-members-preserved
members-members-preserved t c =
    let p = value c.args.depth in
    let l = c.members in
    let n = l.invariant.0 in
    let found = l.invariant.1 in
    let old = members_view found in
    let k = c.in-Some.key.now in
    let s = c.next_key.new.reader in
    let named : read_key l.reader ≡ Some (Some k, s) = grind arith in
    let done = c.in_ok-value.ensures in
    let v = c.in_ok-value.value in
    let m : Entry = (c.in-Some.key, v) in
    let r = c.tree.new.reader in
    let less = read_key-shorter l.reader (Some k) s named in
    let lesser = done.shorter in
    let turn = member_read p old n k l.reader s r (view v) (omega (arith, l.invariant.2)) named done.ok in
    let pushed : c.push.new.self.items ≡ c.tree.new.stack.members.items ++ m ∷ [] = search rules in (
      n - 1,
      found ++ m ∷ [],
      omega (arith, l.invariant.2),
      pushed ∙ ap (λ ms. ms ++ m ∷ []) (done.members ∙ l.invariant.3) ∙ append_assoc _ found (m ∷ []),
      l.invariant.4 ∙ turn ∙ ap (λ so_far. converted (λ ms. of_members ms so_far) (members p (n - 1) r)) (sym (members_view-push found m)),
      omega (arith, l.invariant.5),
      done.values ∙ l.invariant.6,
    )

pub members-returns-in-Ok-clause-ok : goal.members-returns-in-Ok-clause-ok
members-returns-in-Ok-clause-ok t c =
    let l = c.members in
    let found = l.invariant.1 in
    let r = c.next_key.new.reader in
    let from : c.len-from.result ≡ length c.args.stack.now.members.items = search rules in
    let kept : c.in-Ok.members.now ≡ found = c.in-Ok.ensures.kept ∙ ap₂ drop from l.invariant.3 ∙ drop-append_seam c.args.stack.now.members.items found in
    l.invariant.4 ∙ members_over (value c.args.depth) (members_view found) l.invariant.0 l.reader r l.invariant.2 (grind arith) ∙ ap (λ ms. Some (members_view ms, r)) (sym kept)
