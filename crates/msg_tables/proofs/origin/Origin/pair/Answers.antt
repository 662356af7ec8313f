use Rattle.std.proofs.Common.{◌≡◌, ◌<◌, ◌-◌, length, ap, ◌∙◌, refl, arith}
use Rattle.std.proofs.lemmas.Option.{slice_get_read}
use Rattle.msg_tables.specs.Attached.{category_lists}
use Rattle.msg_tables.specs.Origin.{OriginView}
use Rattle.msg_tables.proofs.OriginLemmas.{length-listed, length-categories, pair-class, pair-category}
use Rattle.msg_tables.proofs.origin.Origin.pair.Goals as goal

pub index-category-requires : goal.index-category-requires
index-category-requires c =
    let classes = c.self.inside.classes in
    let categories = c.self.inside.categories in
    omega (arith, length-listed 0 classes.items (category_lists categories.items), length-categories categories.items, ap (λ (o : OriginView). length o.lists) c.self.view_is, c.requires, c.len-listed.ensures, c.if-pair-listed.false, classes.ok.0, categories.ok.0)

pub returns-then-pair-listed : goal.returns-then-pair-listed
returns-then-pair-listed c =
    let classes = c.self.inside.classes in
    let rest = category_lists c.self.inside.categories.items in
    let inside : c.args.pair < length classes.items = omega (arith, c.if-pair-listed.true, c.len-listed.ensures, classes.ok.0) in
    let at = slice_get_read classes.items (length classes.items) c.args.pair c.index-class.result.now refl inside c.index-class.ensures in
    rw (← c.self.view_is) (pair-class classes.items rest c.args.pair c.index-class.result.now at)

pub returns-else-pair-listed : goal.returns-else-pair-listed
returns-else-pair-listed c =
    let classes = c.self.inside.classes in
    let categories = c.self.inside.categories in
    let rest = category_lists categories.items in
    let listed : c.len-listed.result ≡ length classes.items = c.len-listed.ensures ∙ classes.ok.0 in
    let place = c.args.pair - c.len-listed.result in
    let inside : place < length categories.items = omega (arith, length-listed 0 classes.items rest, length-categories categories.items, ap (λ (o : OriginView). length o.lists) c.self.view_is, c.requires, listed, c.if-pair-listed.false) in
    let at = slice_get_read categories.items (length categories.items) place c.index-category.result.now refl inside c.index-category.ensures in
    rw (← c.self.view_is) (pair-category classes.items categories.items c.args.pair place c.index-category.result.now (omega (arith, listed, c.if-pair-listed.false)) at)
