use Rattle.std.proofs.Common.{length, ap, arith}
use Rattle.msg_tables.specs.Attached.{category_lists}
use Rattle.msg_tables.specs.Origin.{OriginView}
use Rattle.msg_tables.proofs.OriginLemmas.{length-listed, length-categories}
use Rattle.msg_tables.proofs.origin.Origin.pair_count.Goals as goal

pub returns-clause-pairs : goal.returns-clause-pairs
returns-clause-pairs c =
    let classes = c.self.inside.classes in
    let categories = c.self.inside.categories in
    omega (arith, length-listed 0 classes.items (category_lists categories.items), length-categories categories.items, ap (λ (o : OriginView). length o.lists) c.self.view_is, c.len.ensures, c.len-2.ensures, classes.ok.0, categories.ok.0)
