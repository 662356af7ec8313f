use Rattle.std.proofs.Common.{◌≡◌, ◌≤◌, true, length, take, sym, subst, arith}
use Rattle.std.proofs.lemmas.List.{take_all}
use Rattle.std.proofs.lemmas.Option.{slice_get-get_or}
use Rattle.msg_host.specs.Listing.{are_meant, changes_in}
use Rattle.msg_host.proofs.ListingLemmas.{meant-changes}
use Rattle.msg_host.proofs.listing.meant.Goals as goal

pub returns-in-Err-clause-err : goal.returns-in-Err-clause-err
returns-in-Err-clause-err c =
    let rows = c.args.rows.now in
    let place = c.loop-place.place in
    (changes_in (take place rows), meant-changes (take place rows) c.loop-place.invariant, _, slice_get-get_or rows place _ c.loop-place-test.true, c.in-Err.fault, sym c.in-Err.ensures, c.number-number.ensures.number)

pub returns-clause-ok : goal.returns-clause-ok
returns-clause-ok c =
    let rows = c.args.rows.now in
    let place = c.loop-place.place in
    let whole : length rows ≤ place = omega (arith, c.loop-place-test.false) in
    meant-changes rows (subst (λ rs. are_meant rs ≡ true) (take_all place rows whole) c.loop-place.invariant)
