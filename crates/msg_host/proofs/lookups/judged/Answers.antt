use Rattle.std.proofs.Common.{◌≡◌, ◌≤◌, true, length, sym, subst, inr, arith}
use Rattle.std.proofs.lemmas.List.{take_all}
use Rattle.std.proofs.lemmas.Option.{slice_get-get_or}
use Rattle.msg_host.specs.Lookups.{are_asked}
use Rattle.msg_host.proofs.lookups.judged.Goals as goal

pub returns-in-Err-clause-err : goal.returns-in-Err-clause-err
returns-in-Err-clause-err c =
    let rows = c.args.rows.now in
    let at = c.loop-at.at in
    inr (c.number.ensures.room, c.if-places-rows.false, (c.loop-at.invariant.asked, _, slice_get-get_or rows at _ c.loop-at-test.true, c.in-Err.fault, sym c.in-Err.ensures, c.number.ensures.number))

pub returns-clause-ok : goal.returns-clause-ok
returns-clause-ok c =
    let rows = c.args.rows.now in
    let at = c.loop-at.at in
    let whole : length rows ≤ at = omega (arith, c.loop-at-test.false) in
    (c.if-places-rows.false, subst (λ rs. are_asked c.args.classes rs ≡ true) (take_all at rows whole) c.loop-at.invariant.asked, c.loop-at.invariant.place)
