use Rattle.std.proofs.Common.{List, Bool, length, sym, ap, ◌∙◌}
use Rattle.msg_cache.proofs.BitSetLemmas.{members_length}
use Rattle.msg_cache.proofs.bit_set.BitSet.limit.Goals as goal

pub returns : goal.returns
returns c = let s = c.self.inside in sym (members_length s.words.items s.limit) ∙ ap (λ (l : List Bool). length l) c.self.view_is
