use Rattle.std.proofs.Common.{◌≡◌, ◌<◌, ◌+◌, ◌%◌, Some, ap, arith, get_or-set_same, length, slice_index_or, slice_set, suc, sym, subst, ◌∙◌}
use Rattle.std.specs.Prelude.{IfSome}
use Rattle.msg_names.specs.ClassRef.{slot_of}
use Rattle.msg_tables.specs.Journal.{place_of}
use Rattle.msg_tables.specs.Recent.{HasPlace}
use Rattle.msg_tables.proofs.recent.Recent.had.Goals as goal

pub returns-clause-comes : goal.returns-clause-comes
returns-clause-comes c =
    let marks = c.self.inside.marks in
    let mark = c.slot-mark.result + 1 in
    let at = mark % 8 in
    let within : at < length marks = omega (arith, c.self.told) in
    let is : place_of c.args.entry.now ≡ Some c.in-Some.place = sym c.place.ensures.place ∙ c.in-Some.is in
    let one : mark ≡ suc (slot_of c.in-Some.place) = omega (arith, c.slot-mark.ensures) in
    subst (λ o. IfSome o (HasPlace (slice_set marks at mark))) (sym is) (at, get_or-set_same marks at mark 0 within ∙ one)
