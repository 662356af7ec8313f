use Rattle.std.proofs.Common.{◌∙◌, ap, None, refl}
use Rattle.msg_tables.proofs.LinkLemmas.{depths_of, nexts_of, map-replicate}
use Rattle.msg_tables.specs.declared.preorder.Link.{Link}
use Rattle.msg_tables.proofs.preorder.Preorder.new.Goals as goal

pub returns-clause-depths : goal.returns-clause-depths
returns-clause-depths c =
    ap depths_of (c.in_ok-vec.ensures.items_if_clones_equal (λ y e. e)) ∙ map-replicate (λ (l : Link). l.depth) c.args.classes (record { depth = 0; next = None })

pub returns-clause-nexts : goal.returns-clause-nexts
returns-clause-nexts c =
    ap nexts_of (c.in_ok-vec.ensures.items_if_clones_equal (λ y e. e)) ∙ map-replicate (λ (l : Link). l.next) c.args.classes (record { depth = 0; next = None })
