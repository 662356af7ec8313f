use Rattle.std.proofs.Common.{ℕ, ◌+◌, ◌/◌, List, ap, ◌∙◌, arith}
use Rattle.msg_cache.specs.BitSet.{members}
use Rattle.msg_cache.proofs.BitSetLemmas.{all_members}
use Rattle.msg_cache.proofs.bit_set.BitSet.all.Goals as goal

pub returns : goal.returns
returns c =
    let n = c.args.limit in
    ap (λ (l : List ℕ). members l n) (c.in_ok-words.ensures.items_if_clones_equal (λ y e. e)) ∙ all_members (n / 64 + 1) n (omega arith)
