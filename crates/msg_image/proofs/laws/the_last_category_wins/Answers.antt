use Rattle.msg_image.proofs.CategoryLemmas.{last-class, last-meta}
use Rattle.msg_image.proofs.laws.the_last_category_wins.Goals as goal

pub returns-clause-class : goal.returns-clause-class
returns-clause-class c = λ image before later k s i sound is. last-class image before later k s i sound is

pub returns-clause-metaclass : goal.returns-clause-metaclass
returns-clause-metaclass c = λ image before later k s i sound is. last-meta image before later k s i sound is
