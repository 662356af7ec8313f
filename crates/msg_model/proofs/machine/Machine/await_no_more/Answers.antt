-- each array's standing was written
use Rattle.std.proofs.Common.{◌≡◌, ◌∙◌, List, length, map, take, drop, ◌++◌, ap}
use Rattle.std.proofs.lemmas.List.{length-map}
use Rattle.msg_tables.proofs.TakeLemmas.{whole}
use Rattle.msg_model.specs.declared.state.Standing.{Standing}
use Rattle.msg_model.specs.Steps.{seen_out}
use Rattle.msg_model.proofs.EffectLemmas.{standings_become, standings_stay_whole}
use Rattle.msg_model.proofs.machine.Machine.await_no_more.Goals as goal

-- the standings as they are written back
written : (new old now : List Standing) (n k : _) → new ≡ map (seen_out n) now → now ≡ old → k ≡ length old → take k (new ++ drop (length new) old) ≡ map (seen_out n) old
written new old now n k e same count =
    let mapped = e ∙ ap (map (seen_out n)) same in
    whole new old k (ap length mapped ∙ length-map old (seen_out n)) count ∙ mapped

pub invariant_of-self : goal.invariant_of-self
invariant_of-self c = record {
  whole = standings_stay_whole _ c.self.invariant.whole c.args.sender _
      (written c.see_out.new.standings c.self.inside.standings.items c.deref_mut.result.now c.args.sender c.self.inside.standings.len c.see_out.ensures c.deref_mut.ensures.value c.self.inside.standings.ok.0);
  tables = c.self.invariant.tables;
}

pub returns : goal.returns
returns c =
    rw (← c.self.view_is)
    (standings_become _ c.self.invariant.whole c.args.sender _
    (written c.see_out.new.standings c.self.inside.standings.items c.deref_mut.result.now c.args.sender c.self.inside.standings.len c.see_out.ensures c.deref_mut.ensures.value c.self.inside.standings.ok.0))
