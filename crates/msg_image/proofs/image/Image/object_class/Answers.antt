use Rattle.msg_image.proofs.PartLemmas.{object_sound}
use Rattle.msg_image.proofs.image.Image.object_class.Goals as goal

pub returns-clause-listed : goal.returns-clause-listed
returns-clause-listed c = object_sound c.self.inside c.args.self.now c.self.view_is c.self.invariant c.args.object.object c.index.result.now c.requires c.index.ensures
