use Rattle.std.proofs.Common.{ℕ, length, sym, subst}
use Rattle.std.specs.Prelude.{Option, IfNone}
use Rattle.msg_cache.specs.BitSet.{HasNone}
use Rattle.msg_cache.proofs.LayeredLemmas.{over_none}
use Rattle.msg_cache.proofs.layered_set.first_word.Goals as goal

pub returns-in_err-block-clause-none : goal.returns-in_err-block-clause-none
returns-in_err-block-clause-none c =
    let words = c.args.words.now in
    subst (λ (r : Option ℕ). IfNone r (HasNone words c.args.from (length words))) (sym c.from_residual.ensures)
    (over_none words c.args.blocks.now c.args.from c.requires.summary c.in_default.ensures.none c.in_err-block.ensures.none)
