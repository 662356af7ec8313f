use Rattle.std.proofs.Common.{ap, sym, ◌∙◌, subst}
use Rattle.msg_order.specs.Superclasses.{AreListed, depth_of}
use Rattle.msg_tables.specs.Origin.{OriginView}
use Rattle.msg_image.proofs.PartLemmas.{origin_seen, sound, classes-listed, depth-above}
use Rattle.msg_image.proofs.image.Image.depth.Goals as goal

pub superclass_count-requires-clause-listed : goal.superclass_count-requires-clause-listed
superclass_count-requires-clause-listed c =
    let image = c.args.self.now in
    let supers = ap (λ (o : OriginView). o.superclasses) (origin_seen c.self.inside image c.self.view_is c.self.invariant) in
    subst AreListed (sym supers) (classes-listed image (sound c.self.inside image c.self.view_is c.self.invariant))

pub returns-clause-above : goal.returns-clause-above
returns-clause-above c =
    let image = c.args.self.now in
    let supers = ap (λ (o : OriginView). o.superclasses) (origin_seen c.self.inside image c.self.view_is c.self.invariant) in
    c.superclass_count.ensures ∙ ap (λ ds. depth_of ds c.args.class) supers ∙ depth-above image c.args.class (sound c.self.inside image c.self.view_is c.self.invariant) c.requires
