use Rattle.std.proofs.Common.{ℕ, List, Bool, length, sym, subst}
use Rattle.std.specs.Prelude.{Option, IfNone}
use Rattle.msg_cache.specs.BitSet.{HasNone}
use Rattle.msg_cache.proofs.LayeredLemmas.{over_none}
use Rattle.msg_cache.proofs.layered_set.LayeredSet.first_from.Goals as goal

pub returns-in_err-word-clause-none : goal.returns-in_err-word-clause-none
returns-in_err-word-clause-none c =
    let s = c.self.inside in
    let from = c.args.from in
    subst (λ (r : Option ℕ). IfNone r (HasNone c.args.self.now from (length c.args.self.now))) (sym c.from_residual.ensures)
    (subst (λ (l : List Bool). HasNone l from (length l)) c.self.view_is (over_none s.numbers s.words from c.self.invariant.words c.in_default.ensures.none c.in_err-word.ensures.none))
