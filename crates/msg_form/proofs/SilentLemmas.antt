-- Bodies without texts at places of selectors.
use Rattle.std.proofs.Common.{◌≡◌, Bool, true, false, ◌||◌, List, [], ◌++◌, refl, sym, ◌∙◌}
use Rattle.std.specs.List.{list_any}
use Rattle.std.proofs.lemmas.List.Folds.{list_any-append}
use Rattle.msg_form.specs.Expression.{whole, nil, object_named, class_named, selector_named, Expression, constant, me, arg, binary, choice, send, super_send}
use Rattle.msg_form.specs.Parts.{names_text, has_texts, parts}
use Rattle.msg_form.specs.Walk.{texts_in}

neither : (a b : Bool) → (a || b) ≡ false → (a ≡ false) × (b ≡ false)
neither true b h = cc
neither false b h = (refl, h)

apart : (ps qs : List Expression) → list_any names_text (ps ++ qs) ≡ false → (list_any names_text ps ≡ false) × (list_any names_text qs ≡ false)
apart ps qs h = neither (list_any names_text ps) (list_any names_text qs) (sym (list_any-append names_text ps qs) ∙ h)

pub silent : (e : Expression) → has_texts e ≡ false → texts_in e ≡ []
silent (constant (whole z)) h = refl
silent (constant nil) h = refl
silent (constant (object_named n)) h = refl
silent (constant (class_named n)) h = refl
silent (constant (selector_named s)) h = cc
silent me h = refl
silent (arg k) h = refl
silent (binary o a b) h = let none = apart (parts a) (parts b) h in rw (silent a none.0, silent b none.1) refl
silent (choice a b c) h =
    let none = apart (parts a) (parts b ++ parts c) h in
    let last = apart (parts b) (parts c) none.1 in
    rw (silent a none.0, silent b last.0, silent c last.1) refl
silent (send r s es) h = cc
silent (super_send s es) h = cc
