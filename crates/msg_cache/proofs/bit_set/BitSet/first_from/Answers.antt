use Rattle.std.proofs.Common.{List, Bool, length, ap, arith}
use Rattle.msg_cache.proofs.BitSetLemmas.{members_length}
use Rattle.msg_cache.proofs.bit_set.BitSet.first_from.Goals as goal

pub first_in_word-requires : goal.first_in_word-requires
first_in_word-requires c =
    let s = c.self.inside in
    omega (arith, c.loop-at-test.true, members_length s.words.items s.limit, ap (λ (l : List Bool). length l) c.self.view_is)

pub loop-at-smaller : goal.loop-at-smaller
loop-at-smaller c =
    let s = c.self.inside in
    omega (arith, c.loop-at-test.true, members_length s.words.items s.limit, ap (λ (l : List Bool). length l) c.self.view_is)

pub returns-clause-none : goal.returns-clause-none
returns-clause-none c = λ a low high.
    let s = c.self.inside in
    c.loop-at.invariant.none a low (omega (arith, high, c.loop-at-test.false, members_length s.words.items s.limit, ap (λ (l : List Bool). length l) c.self.view_is))
