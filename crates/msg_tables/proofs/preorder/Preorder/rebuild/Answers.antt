use Rattle.std.proofs.Common.{vec_len, ◌≡◌, ◌∙◌, ap, length, replicate, None, arith}
use Rattle.std.proofs.lemmas.List.{length-map}
use Rattle.msg_tables.specs.declared.preorder.Link.{Link}
use Rattle.msg_tables.specs.PreorderView.{PreorderView}
use Rattle.msg_tables.proofs.LinkLemmas.{depths_of, nexts_of, map-replicate}
use Rattle.msg_tables.proofs.preorder.Preorder.rebuild.Goals as goal

pub place_all-requires-clause-depths : goal.place_all-requires-clause-depths
place_all-requires-clause-depths c =
    let links = c.self.inside.links.items in
    let same = ap (λ (v : PreorderView). length v.depths) c.self.view_is in
    let count : vec_len c.self.inside.links ≡ length c.args.supers.now = omega (arith, c.self.inside.links.ok, same, c.requires.depths, length-map links (λ (l : Link). l.depth)) in
    ap depths_of (c.fill.ensures.items (λ y e. e))
    ∙ map-replicate (λ (l : Link). l.depth) (vec_len c.self.inside.links) (record { depth = 0; next = None })
    ∙ ap (λ n. replicate n 0) count

pub place_all-requires-clause-nexts : goal.place_all-requires-clause-nexts
place_all-requires-clause-nexts c =
    let links = c.self.inside.links.items in
    let same = ap (λ (v : PreorderView). length v.depths) c.self.view_is in
    let count : vec_len c.self.inside.links ≡ length c.args.supers.now = omega (arith, c.self.inside.links.ok, same, c.requires.depths, length-map links (λ (l : Link). l.depth)) in
    ap nexts_of (c.fill.ensures.items (λ y e. e))
    ∙ map-replicate (λ (l : Link). l.next) (vec_len c.self.inside.links) (record { depth = 0; next = None })
    ∙ ap (λ n. replicate n None) count
