use Rattle.msg_image.proofs.FaultlessLemmas.{faultless}
use Rattle.msg_image.proofs.PlaceLemmas.{class_place}
use Rattle.msg_image.proofs.laws.a_class_has_the_number_of_its_place.Goals as goal

pub returns : goal.returns
returns c = λ f place p none. class_place f (faultless f none) place p
