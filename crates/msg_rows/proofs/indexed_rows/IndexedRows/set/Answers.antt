use Rattle.std.proofs.Common.{◌≡◌, sym, ap, ◌∙◌, Some, arith}
use Rattle.std.proofs.lemmas.List.{length-set}
use Rattle.msg_names.specs.Number.{selector_number, imp_number}
use Rattle.msg_rows.specs.Methods.{method_numbers}
use Rattle.msg_rows.specs.RowList.{last_index, own_in, set_last}
use Rattle.msg_rows.proofs.IndexLemmas.{none_found, none_kept, own_found, place_inside, rows-set}
use Rattle.msg_rows.proofs.LinkLemmas.{linked-set}
use Rattle.msg_rows.proofs.indexed_rows.IndexedRows.set.Goals as goal

pub index-requires : goal.index-requires
index-requires c =
    let s = selector_number c.args.sel in
    let is : c.place.result ≡ last_index s (method_numbers c.self.inside.rows.items) = c.place.ensures ∙ ap (λ v. last_index s v.rows) (sym c.self.view_is) in
    omega (arith, place_inside c.self.inside.rows.items s c.place.result is c.in-Some.place c.in-Some.is, c.self.inside.rows.ok.0)

pub index_mut-requires : goal.index_mut-requires
index_mut-requires c =
    let s = selector_number c.args.sel in
    let is : c.place.result ≡ last_index s (method_numbers c.self.inside.rows.items) = c.place.ensures ∙ ap (λ v. last_index s v.rows) (sym c.self.view_is) in
    omega (arith, place_inside c.self.inside.rows.items s c.place.result is c.in-Some.place c.in-Some.is, c.self.inside.rows.ok.0)

pub invariant_of-self : goal.invariant_of-self
invariant_of-self c =
    let s = selector_number c.args.sel in
    let rows = c.self.inside.rows.items in
    let is : c.place.result ≡ last_index s (method_numbers rows) = c.place.ensures ∙ ap (λ v. last_index s v.rows) (sym c.self.view_is) in
    let found : last_index s (method_numbers rows) ≡ Some c.in-Some.place = sym is ∙ c.in-Some.is in
    record {
      some = c.self.invariant.some;
      wide = omega (arith, c.self.invariant.wide, length-set rows c.in-Some.place (c.args.sel, c.args.imp));
      each = c.self.invariant.each ∙ sym (length-set rows c.in-Some.place (c.args.sel, c.args.imp));
      linked = linked-set rows c.in-Some.place c.args.sel c.args.imp c.self.inside.older.items c.self.inside.newest.items found (place_inside rows s c.place.result is c.in-Some.place c.in-Some.is) c.self.invariant.linked;
    }

pub returns-in-Some-clause-rows : goal.returns-in-Some-clause-rows
returns-in-Some-clause-rows c =
    let s = selector_number c.args.sel in
    let rows = c.self.inside.rows.items in
    let is : c.place.result ≡ last_index s (method_numbers rows) = c.place.ensures ∙ ap (λ v. last_index s v.rows) (sym c.self.view_is) in
    rows-set rows c.in-Some.place c.args.sel c.args.imp (sym is ∙ c.in-Some.is) ∙ ap (λ v. set_last s (imp_number c.args.imp) v.rows) c.self.view_is

pub returns-in_default-clause-rows : goal.returns-in_default-clause-rows
returns-in_default-clause-rows c =
    let s = selector_number c.args.sel in
    let is : c.place.result ≡ last_index s (method_numbers c.self.inside.rows.items) = c.place.ensures ∙ ap (λ v. last_index s v.rows) (sym c.self.view_is) in
    ap (λ v. v.rows) (sym c.self.view_is) ∙ none_kept c.self.inside.rows.items s c.place.result is c.in_default.is (imp_number c.args.imp) ∙ ap (λ v. set_last s (imp_number c.args.imp) v.rows) c.self.view_is

pub returns-in-Some-clause-was : goal.returns-in-Some-clause-was
returns-in-Some-clause-was c =
    let s = selector_number c.args.sel in
    let rows = c.self.inside.rows.items in
    let is : c.place.result ≡ last_index s (method_numbers rows) = c.place.ensures ∙ ap (λ v. last_index s v.rows) (sym c.self.view_is) in
    own_found rows s c.place.result is c.in-Some.place c.index.result.now c.in-Some.is c.index.ensures ∙ ap (λ v. own_in s v.rows) c.self.view_is

pub returns-in_default-clause-was : goal.returns-in_default-clause-was
returns-in_default-clause-was c =
    let s = selector_number c.args.sel in
    let is : c.place.result ≡ last_index s (method_numbers c.self.inside.rows.items) = c.place.ensures ∙ ap (λ v. last_index s v.rows) (sym c.self.view_is) in
    sym (none_found c.self.inside.rows.items s c.place.result is c.in_default.is) ∙ ap (λ v. own_in s v.rows) c.self.view_is
