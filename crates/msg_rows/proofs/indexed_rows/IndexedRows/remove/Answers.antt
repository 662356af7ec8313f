use Rattle.std.proofs.Common.{◌≡◌, suc, length, sym, ap, ◌∙◌, Some, arith}
use Rattle.std.proofs.lemmas.List.{length-map}
use Rattle.msg_names.specs.Number.{selector_number, imp_number}
use Rattle.msg_rows.specs.Methods.{method_numbers}
use Rattle.msg_rows.specs.RowList.{last_index, own_in, without_row}
use Rattle.msg_rows.proofs.IndexLemmas.{none_found, own_found, place_inside, numbers}
use Rattle.msg_rows.proofs.RemoveLemmas.{numbers-remove, without_row-end, without_row-none, without_row-place}
use Rattle.msg_rows.proofs.indexed_rows.IndexedRows.remove.Goals as goal

pub returns-in_default-clause-rows : goal.returns-in_default-clause-rows
returns-in_default-clause-rows c = without_row-none (selector_number c.args.sel) c.args.self.now.rows (sym c.place.ensures ∙ c.in_default.is)

pub returns-in_default-clause-was : goal.returns-in_default-clause-was
returns-in_default-clause-was c =
    let s = selector_number c.args.sel in
    let is : c.place.result ≡ last_index s (method_numbers c.self.inside.rows.items) = c.place.ensures ∙ ap (λ v. last_index s v.rows) (sym c.self.view_is) in
    sym (none_found c.self.inside.rows.items s c.place.result is c.in_default.is) ∙ ap (λ v. own_in s v.rows) c.self.view_is

pub index-requires : goal.index-requires
index-requires c =
    let s = selector_number c.args.sel in
    let is : c.place.result ≡ last_index s (method_numbers c.self.inside.rows.items) = c.place.ensures ∙ ap (λ v. last_index s v.rows) (sym c.self.view_is) in
    omega (arith, place_inside c.self.inside.rows.items s c.place.result is c.in-Some.place c.in-Some.is, c.self.inside.rows.ok.0)

pub remove-row-requires : goal.remove-row-requires
remove-row-requires c =
    let s = selector_number c.args.sel in
    let is : c.place.result ≡ last_index s (method_numbers c.self.inside.rows.items) = c.place.ensures ∙ ap (λ v. last_index s v.rows) (sym c.self.view_is) in
    omega (arith, place_inside c.self.inside.rows.items s c.place.result is c.in-Some.place c.in-Some.is, c.self.inside.rows.ok.0)

pub overflow_add-place : goal.overflow_add-place
overflow_add-place c =
    let s = selector_number c.args.sel in
    let is : c.place.result ≡ last_index s (method_numbers c.self.inside.rows.items) = c.place.ensures ∙ ap (λ v. last_index s v.rows) (sym c.self.view_is) in
    omega (arith, place_inside c.self.inside.rows.items s c.place.result is c.in-Some.place c.in-Some.is, c.self.inside.rows.ok.0, c.self.ranges)

pub returns-then-place-len-clause-rows : goal.returns-then-place-len-clause-rows
returns-then-place-len-clause-rows c =
    let s = selector_number c.args.sel in
    let rows = c.self.inside.rows.items in
    let found : last_index s c.args.self.now.rows ≡ Some c.in-Some.place = sym c.place.ensures ∙ c.in-Some.is in
    let many : length c.args.self.now.rows ≡ length rows = ap (λ v. length v.rows) (sym c.self.view_is) ∙ length-map rows numbers in
    let end : suc c.in-Some.place ≡ length c.args.self.now.rows = omega (arith, c.if-place-len.true, c.len.ensures, c.self.inside.rows.ok.0, many) in
    c.pop.ensures.rows ∙ without_row-end s c.args.self.now.rows c.in-Some.place found end

pub returns-then-place-len-clause-was : goal.returns-then-place-len-clause-was
returns-then-place-len-clause-was c =
    let s = selector_number c.args.sel in
    let rows = c.self.inside.rows.items in
    let is : c.place.result ≡ last_index s (method_numbers rows) = c.place.ensures ∙ ap (λ v. last_index s v.rows) (sym c.self.view_is) in
    own_found rows s c.place.result is c.in-Some.place c.index.result.now c.in-Some.is c.index.ensures ∙ ap (λ v. own_in s v.rows) c.self.view_is

pub returns-clause-rows : goal.returns-clause-rows
returns-clause-rows c =
    let s = selector_number c.args.sel in
    let rows = c.self.inside.rows.items in
    let found : last_index s (method_numbers rows) ≡ Some c.in-Some.place = ap (λ v. last_index s v.rows) c.self.view_is ∙ sym c.place.ensures ∙ c.in-Some.is in
    ap method_numbers c.remove-row.ensures.items ∙ numbers-remove rows c.in-Some.place ∙ without_row-place s (method_numbers rows) c.in-Some.place found ∙ ap (λ v. without_row s v.rows) c.self.view_is

pub returns-clause-was : goal.returns-clause-was
returns-clause-was c =
    let s = selector_number c.args.sel in
    let rows = c.self.inside.rows.items in
    let is : c.place.result ≡ last_index s (method_numbers rows) = c.place.ensures ∙ ap (λ v. last_index s v.rows) (sym c.self.view_is) in
    own_found rows s c.place.result is c.in-Some.place c.index.result.now c.in-Some.is c.index.ensures ∙ ap (λ v. own_in s v.rows) c.self.view_is
