-- Names that are numbered one after another.
use Rattle.std.proofs.Common.{◌≡◌, ◌<◌, ◌≤◌, ◌+◌, ℕ, List, [], ◌∷◌, map, drop, drop-cons, add-one, get_or, suc, length, refl, sym, ap, ◌∙◌}
use Rattle.std.specs.Prelude.{fold}
use Rattle.std.proofs.lemmas.List.{drop_all}
use Rattle.msg_names.specs.Numbering.{with_name}
use Rattle.msg_form.specs.Text.{Text, distinct}

-- the names so far, and then those of the parts that are left, are all
abbrev pub Gathers : {A : Type 0} → (A → Text) → List A → ℕ → List Text → Type 0
Gathers named parts i names = fold with_name names (map named (drop i parts)) ≡ distinct (map named parts)

pub gathers-start : {A : Type 0} (named : A → Text) (parts : List A) → Gathers named parts 0 []
unfolding distinct
gathers-start named parts = refl
