use Rattle.msg_image.proofs.FaultlessLemmas.{faultless}
use Rattle.msg_image.proofs.PlaceLemmas.{imp_place}
use Rattle.msg_image.proofs.laws.an_implementation_has_the_number_of_its_place.Goals as goal

pub returns : goal.returns
returns c = λ f place p none. imp_place f (faultless f none) place p
