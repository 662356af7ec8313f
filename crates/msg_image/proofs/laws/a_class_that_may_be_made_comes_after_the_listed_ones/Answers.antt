use Rattle.msg_image.proofs.FaultlessLemmas.{faultless}
use Rattle.msg_image.proofs.PlaceLemmas.{made_place}
use Rattle.msg_image.proofs.laws.a_class_that_may_be_made_comes_after_the_listed_ones.Goals as goal

pub returns : goal.returns
returns c = λ f place name none. made_place f (faultless f none) place name
