use Rattle.std.proofs.Common.{◌*◌, length, map, drop, sym, ap, ◌∙◌, arith}
use Rattle.std.proofs.lemmas.List.{length-map}
use Rattle.msg_tables.specs.Attached.{categories_in, category_lists}
use Rattle.msg_tables.specs.Origin.{OriginView}
use Rattle.msg_tables.specs.declared.origin.ListedClass.{ListedClass}
use Rattle.msg_tables.proofs.OriginLemmas.{categories-back, drop-listed}
use Rattle.msg_tables.proofs.origin.Origin.categories.Goals as goal

pub returns : goal.returns
returns c =
    let classes = c.self.inside.classes.items in
    let categories = c.self.inside.categories.items in
    let count = length-map classes (λ (k : ListedClass). k.superclass) in
    let lists = drop-listed 0 classes (category_lists categories) (2 * length (map (λ (k : ListedClass). k.superclass) classes)) (omega (arith, count)) in
    c.deref.ensures.value ∙ sym (categories-back categories) ∙ ap categories_in (sym lists) ∙ ap (λ (o : OriginView). categories_in (drop (2 * length o.superclasses) o.lists)) c.self.view_is
