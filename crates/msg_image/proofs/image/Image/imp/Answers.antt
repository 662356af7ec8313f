use Rattle.std.proofs.Common.{◌<◌, ◌-◌, length, arith}
use Rattle.msg_names.specs.Number.{imp_number}
use Rattle.msg_image.proofs.PartLemmas.{imp_sound}
use Rattle.msg_image.proofs.image.Image.imp.Goals as goal

pub returns-clause-sound : goal.returns-clause-sound
returns-clause-sound c =
    let in_range : imp_number c.args.imp - 1 < length c.args.self.now.imps = omega arith in
    imp_sound c.self.inside c.args.self.now c.self.view_is c.self.invariant (imp_number c.args.imp - 1) c.index.result.now in_range (rw c.number.ensures at c.index.ensures)
