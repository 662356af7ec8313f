use Rattle.std.proofs.Common.{ap, refl, slice_set, ◌∙◌}
use Rattle.msg_tables.specs.PreorderView.{PreorderView}
use Rattle.msg_tables.proofs.LinkLemmas.{same-depths, set-next}
use Rattle.msg_tables.proofs.preorder.Preorder.set_next.Goals as goal

pub returns-clause-depths : goal.returns-clause-depths
returns-clause-depths c =
    same-depths c.self.inside.links.items c.args.class (record { depth = c.index_mut.result.now.depth; next = c.args.next }) c.index_mut.result.now c.index_mut.ensures.value refl
    ∙ ap (λ (v : PreorderView). v.depths) c.self.view_is

pub returns-clause-nexts : goal.returns-clause-nexts
returns-clause-nexts c =
    set-next c.self.inside.links.items c.args.class (record { depth = c.index_mut.result.now.depth; next = c.args.next })
    ∙ ap (λ ns. slice_set ns c.args.class c.args.next) (ap (λ (v : PreorderView). v.nexts) c.self.view_is)
