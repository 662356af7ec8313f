use Rattle.std.proofs.Common.{◌<◌, sym, subst, length, Option}
use Rattle.std.specs.Prelude.{IfSome}
use Rattle.msg_names.specs.declared.value.ClassRef.{ClassRef}
use Rattle.msg_names.proofs.ClassRefLemmas.{above-listed}
use Rattle.msg_image.proofs.PartLemmas.{superclass_listed}
use Rattle.msg_image.proofs.image.Image.superclass.Goals as goal

pub returns-clause-listed : goal.returns-clause-listed
returns-clause-listed c =
    let n = length c.args.self.now.classes in
    let listed = superclass_listed c.self.inside c.args.self.now c.self.view_is c.self.invariant c.args.class.class c.superclass.result c.requires c.superclass.ensures in
    subst (λ (o : Option ClassRef). IfSome o (λ above. above.class < n)) (sym c.above.ensures) (above-listed c.args.class c.superclass.result n c.requires listed)
