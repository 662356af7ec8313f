use Rattle.std.proofs.Common.{◌≡◌, ◌<◌, ◌-◌, ◌+◌, ◌++◌, suc, length, reverse, take, drop, sym, ap, ◌∙◌, arith}
use Rattle.std.specs.Prelude.{slice_set, slice_index_or}
use Rattle.std.proofs.lemmas.List.{get_or-map, get_or-reverse, length-map, length-reverse, length-set, map-set}
use Rattle.msg_rows.specs.Methods.{method_number, method_numbers}
use Rattle.msg_host.specs.Asking.{pairs_of}
use Rattle.msg_host.specs.declared.changing.MethodRow.{MethodRow}
use Rattle.msg_host.proofs.ContentsLemmas.{one-more-written}
use Rattle.msg_host.proofs.contents.write_methods.Goals as goal

pub loop-place-preserved : goal.loop-place-preserved
loop-place-preserved c =
    let methods = c.args.methods.now in
    let i = c.loop-place.place in
    let m = c.index-methods-methods.result in
    let numbers = method_numbers methods in
    let inside : i < length methods = c.loop-place-test.true in
    let many : length numbers ≡ length methods = length-map methods method_number in
    let many' : length (reverse numbers) ≡ length methods = length-reverse numbers ∙ many in
    let old : length (pairs_of c.args.rows.now) ≡ length c.args.rows.now = length-map c.args.rows.now (λ (r : MethodRow). (r.sel, r.imp)) in
    -- the method that is written
    let is : slice_index_or (reverse numbers) i (method_number m) ≡ method_number m =
    get_or-reverse numbers i (method_number m) (omega (arith, inside, many))
    ∙ ap (λ n. slice_index_or numbers (n - 1 - i) (method_number m)) many
    ∙ get_or-map method_number methods (length methods - 1 - i) m (method_number m) (omega (arith, inside))
    ∙ ap method_number (sym c.index-methods-methods.is) in
    let next : suc i ≡ i + 1 = omega arith in
    record {
      written =
          map-set (λ (r : MethodRow). (r.sel, r.imp)) c.loop-place.rows i c.row_of.result
          ∙ ap (λ d. slice_set (pairs_of c.loop-place.rows) i d) (c.row_of.ensures ∙ sym is)
          ∙ ap (λ rows. slice_set rows i (slice_index_or (reverse numbers) i (method_number m))) c.loop-place.invariant.written
          ∙ one-more-written (reverse numbers) (pairs_of c.args.rows.now) i (method_number m) (omega (arith, inside, many')) (omega (arith, many', old, c.requires.room))
          ∙ ap (λ n. take n (reverse numbers) ++ drop n (pairs_of c.args.rows.now)) next;
      length = length-set c.loop-place.rows i c.row_of.result ∙ c.loop-place.invariant.length;
    }
