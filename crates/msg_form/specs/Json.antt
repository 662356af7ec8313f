-- What JSON values spell.
use Rattle.std.specs.Prelude.{ℕ, ℤ, List, [], ◌∷◌, Bool, true, false, if◌then◌else◌, Option, Some, None, option_map, option_and_then, slice_get, ⊤}
use Rattle.serde_json.specs.Data.{Data, Items, no_items, item}
use Rattle.serde_json.specs.Find.{get, as_array, as_number, as_str, as_i64}
use Rattle.msg_names.specs.Name.{is_identifier}
use Rattle.msg_form.specs.Text.{Text}

infixl 10 ◌>>=◌
abbrev pub ◌>>=◌ : {A B : Type 0} → Option A → (A → Option B) → Option B
o >>= f = option_and_then f o

abbrev pub only_if : Bool → Option ⊤
only_if true = Some tt
only_if false = None

-- the values of a list
abbrev pub values_of : Items → List Data
values_of no_items = []
values_of (item d ds) = d ∷ values_of ds

abbrev pub list_at : Data → Option (List Data)
list_at d = option_map values_of (as_array d)

-- what the values spell, if each spells something
abbrev pub each : {A B : Type 0} → (A → Option B) → List A → Option (List B)
each f [] = Some []
each f (d ∷ ds) = f d >>= λ x. option_map (λ xs. x ∷ xs) (each f ds)

-- what the values of a list spell
abbrev pub list_of : {B : Type 0} → (Data → Option B) → Data → Option (List B)
list_of f d = list_at d >>= each f

-- what the value at a place spells
abbrev pub value_of : {B : Type 0} → (Data → Option B) → ℕ → List Data → Option B
value_of f i ds = slice_get ds i >>= f

-- what the value at a key spells
abbrev pub field_of : {B : Type 0} → (Data → Option B) → Text → Data → Option B
field_of f key d = get key d >>= f

-- a number for which `as_i64` returns one
unfoldable pub whole_of : Data → Option ℤ
whole_of d = as_number d >>= as_i64

-- a class's, an object's or an implementation's name
unfoldable pub name_of : Data → Option Text
name_of d = as_str d >>= λ s. if is_identifier s then Some s else None
