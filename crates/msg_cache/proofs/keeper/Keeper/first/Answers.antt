use Rattle.std.proofs.Common.{List, [], Bool, length, map, sym, ap, ◌∙◌}
use Rattle.std.proofs.lemmas.List.{length-replicate}
use Rattle.std.specs.Prelude.{false}
use Rattle.msg_model.specs.declared.state.Standing.{Standing}
use Rattle.msg_cache.specs.Uses.{StandingsView, use_of}
use Rattle.msg_model.specs.State.{awaits}
use Rattle.msg_cache.proofs.AwaitedLemmas.{nobody}
use Rattle.msg_cache.proofs.SettledLemmas.{all_used}
use Rattle.msg_cache.proofs.keeper.Keeper.first.Goals as goal

pub invariant_of-result-clause-standings_are : goal.invariant_of-result-clause-standings_are
invariant_of-result-clause-standings_are c =
    let e = c.in_ok-arrays.ensures.standings in
    let senders = ap (λ (v : StandingsView). v.senders) e in
    let uses = all_used c.args.arrays ∙ ap (λ (l : List Standing). map use_of l) (sym c.requires.arrays) in
    e ∙ (λ i. record { senders = sym senders i; uses = uses i; ready = [] })

pub invariant_of-result-clause-senders_are : goal.invariant_of-result-clause-senders_are
invariant_of-result-clause-senders_are c = ap (λ (v : StandingsView). v.senders) c.in_ok-arrays.ensures.standings ∙ sym (ap (λ (l : List Bool). length l) c.requires.senders ∙ length-replicate c.args.senders false)

pub invariant_of-result-clause-nobody : goal.invariant_of-result-clause-nobody
invariant_of-result-clause-nobody c = λ n le. ap (λ (g : List Bool). awaits g n) c.in_ok-copies.ensures.given ∙ nobody c.args.senders n
