use Rattle.std.proofs.Common.{◌≡◌, true, false, refl, sym, ◌∙◌}
use Rattle.std.specs.List.{list_any}
use Rattle.msg_form.specs.Shape.{second_form_of, is_newest}
use Rattle.msg_form.specs.Views.{item_view, items_view}
use Rattle.msg_form.proofs.AnyLemmas.{list_any-map}
use Rattle.msg_form.proofs.form.Form.fill_second.Goals as goal

pub returns-then-has_newest : goal.returns-then-has_newest
unfolding second_form_of
returns-then-has_newest c =
    let items = c.fill_third.new.self.items.items in
    let met : list_any is_newest (items_view items) ≡ true = list_any-map is_newest item_view items ∙ sym (rw c.deref.ensures.value at c.has_newest.ensures) ∙ c.if-has_newest.true in
    rw (c.in_ok-fill_third.ensures, met) refl

pub returns : goal.returns
unfolding second_form_of
returns c =
    let items = c.fill_third.new.self.items.items in
    let unmet : list_any is_newest (items_view items) ≡ false = list_any-map is_newest item_view items ∙ sym (rw c.deref.ensures.value at c.has_newest.ensures) ∙ c.if-has_newest.false in
    rw (c.in_ok-fill_third.ensures, unmet) refl
