use Rattle.std.proofs.Common.{◌≢◌, ◌∙◌, ap, sym, arith}
use Rattle.msg_names.specs.Number.{selector_number}
use Rattle.msg_buckets.specs.Word.{sel_of}
use Rattle.msg_buckets.specs.Probing.{hit}
use Rattle.msg_buckets.proofs.PutLemmas.{find_in-written, reachable-written, hit_in-written, occupied-written}
use Rattle.msg_buckets.proofs.array.put.Goals as goal

pub returns-in-Empty-clause-hit : goal.returns-in-Empty-clause-hit
returns-in-Empty-clause-hit c =
    find_in-written c.args.words.now (selector_number c.args.selector) c.pack.result c.in-Empty.place c.pack.ensures.selector (sym c.in-Empty.ensures.found) c.args.selector.positive ∙ ap hit c.pack.ensures.implementation

pub returns-in-Empty-clause-counted : goal.returns-in-Empty-clause-counted
returns-in-Empty-clause-counted c =
    let some : c.pack.result ≢ 0 = λ none. absurd (omega (arith, c.args.selector.positive, c.pack.ensures.selector, ap sel_of none)) in
    occupied-written c.args.words.now (selector_number c.args.selector) c.pack.result c.in-Empty.place c.pack.ensures.selector (sym c.in-Empty.ensures.found) some

pub returns-in-Empty-clause-reachable : goal.returns-in-Empty-clause-reachable
returns-in-Empty-clause-reachable c = reachable-written c.args.words.now (selector_number c.args.selector) c.pack.result c.in-Empty.place c.pack.ensures.selector (sym c.in-Empty.ensures.found)

pub returns-in-Empty-clause-others : goal.returns-in-Empty-clause-others
returns-in-Empty-clause-others c = hit_in-written c.args.words.now (selector_number c.args.selector) c.pack.result c.in-Empty.place c.pack.ensures.selector (sym c.in-Empty.ensures.found)
