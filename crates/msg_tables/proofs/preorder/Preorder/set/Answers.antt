use Rattle.std.proofs.Common.{ap, slice_set, ◌∙◌}
use Rattle.msg_tables.specs.PreorderView.{PreorderView}
use Rattle.msg_tables.proofs.LinkLemmas.{set-depth, set-next}
use Rattle.msg_tables.proofs.preorder.Preorder.set.Goals as goal

pub returns-clause-depths : goal.returns-clause-depths
returns-clause-depths c =
    set-depth c.self.inside.links.items c.args.class c.args.link
    ∙ ap (λ ds. slice_set ds c.args.class c.args.link.depth) (ap (λ (v : PreorderView). v.depths) c.self.view_is)

pub returns-clause-nexts : goal.returns-clause-nexts
returns-clause-nexts c =
    set-next c.self.inside.links.items c.args.class c.args.link
    ∙ ap (λ ns. slice_set ns c.args.class c.args.link.next) (ap (λ (v : PreorderView). v.nexts) c.self.view_is)
