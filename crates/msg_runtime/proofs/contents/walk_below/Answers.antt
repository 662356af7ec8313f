use Rattle.std.proofs.Common.{◌≡◌, ◌≤◌, [], ◌∷◌, ℕ, List, Option, None, Some, length, drop, sym, ap, ◌∙◌, subst, arith}
use Rattle.std.specs.Iterator.{YieldsFirst}
use Rattle.msg_tables.specs.Contents.{AreBelowClass}
use Rattle.msg_runtime.proofs.contents.walk_below.Goals as goal

-- what is left after a step is all but the first
rest-of : (s t : List ℕ) (r : Option ℕ) → YieldsFirst (λ (w : List ℕ). w) s r t → t ≡ drop 1 s
rest-of s t None e = e.1 ∙ sym (ap (drop 1) e.0)
rest-of s t (Some x) e = sym (ap (drop 1) e)

fewer : (s : List ℕ) → length (drop 1 s) ≤ length s
fewer [] = omega arith
fewer (x ∷ s) = omega arith

pub returns-clause-below : goal.returns-clause-below
returns-clause-below c = λ h stands.
    subst (AreBelowClass h c.args.class) (sym (rest-of c.classes-walk.result c.next.new.self c.next.result c.next.ensures.steps ∙ ap (drop 1) c.classes-walk.ensures)) (c.below.ensures.under h stands)

pub returns-clause-few : goal.returns-clause-few
returns-clause-few c =
    let is = rest-of c.classes-walk.result c.next.new.self c.next.result c.next.ensures.steps ∙ ap (drop 1) c.classes-walk.ensures in
    omega (arith, ap length is, fewer c.below.result.classes, c.below.ensures.few)
