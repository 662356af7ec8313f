use Rattle.std.proofs.Common.{ap}
use Rattle.msg_image.specs.Items.{ChangeAllItem}
use Rattle.msg_image.specs.Numbers.{numbers_by}
use Rattle.msg_image.proofs.ResolveLemmas.{changes_found}
use Rattle.msg_image.proofs.resolve.ItemResolveFormItem.resolve.Goals as goal

pub returns-in_ok-each-in-ChangeAll : goal.returns-in_ok-each-in-ChangeAll
returns-in_ok-each-in-ChangeAll c =
    let changes = changes_found (numbers_by c.args.names.now) c.in-ChangeAll.forms.items c.in_ok-each-in-ChangeAll.field-0.items (rw c.deref.ensures.value at c.in_ok-each-in-ChangeAll.ensures) in
    rw c.in-ChangeAll.is (ap ChangeAllItem changes)
