use Rattle.std.proofs.Common.{◌≡◌, sym, ap, ◌∙◌, option_map, arith}
use Rattle.msg_names.specs.Number.{selector_number, imp_number}
use Rattle.msg_rows.specs.Methods.{method_numbers}
use Rattle.msg_rows.specs.RowList.{last_index, own_in}
use Rattle.msg_rows.proofs.IndexLemmas.{none_found, place_inside, own_found}
use Rattle.msg_rows.proofs.indexed_rows.IndexedRows.find.Goals as goal

pub returns-in_err-place : goal.returns-in_err-place
returns-in_err-place c =
    let s = selector_number c.args.sel in
    let is : c.place.result ≡ last_index s (method_numbers c.self.inside.rows.items) = c.place.ensures ∙ ap (λ v. last_index s v.rows) (sym c.self.view_is) in
    ap (option_map imp_number) c.from_residual.ensures ∙ sym (none_found c.self.inside.rows.items s c.place.result is c.in_err-place.was) ∙ ap (λ v. own_in s v.rows) c.self.view_is

pub index-requires : goal.index-requires
index-requires c =
    let s = selector_number c.args.sel in
    let is : c.place.result ≡ last_index s (method_numbers c.self.inside.rows.items) = c.place.ensures ∙ ap (λ v. last_index s v.rows) (sym c.self.view_is) in
    omega (arith, place_inside c.self.inside.rows.items s c.place.result is c.in_ok-place.field-0 c.in_ok-place.was, c.self.inside.rows.ok.0)

pub returns : goal.returns
returns c =
    let s = selector_number c.args.sel in
    let is : c.place.result ≡ last_index s (method_numbers c.self.inside.rows.items) = c.place.ensures ∙ ap (λ v. last_index s v.rows) (sym c.self.view_is) in
    own_found c.self.inside.rows.items s c.place.result is c.in_ok-place.field-0 c.index.result.now c.in_ok-place.was c.index.ensures ∙ ap (λ v. own_in s v.rows) c.self.view_is
