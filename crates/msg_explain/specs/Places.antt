-- Places in a document, and the faults of form that are there.
use Rattle.std.specs.Prelude.{◌≡◌, ℕ, ◌<◌, List, [], ◌∷◌, true, false, Some, slice_get}
use Rattle.serde_json.specs.Data.{Data}
use Rattle.serde_json.specs.Find.{get}
use Rattle.msg_json.specs.View.{view}
use Rattle.msg_form.specs.Json.{list_at}
use Rattle.msg_explain.specs.Fitting.{fits}
use Rattle.msg_explain.specs.Tables.{Key, keys, at_place, word_of, edition_of}
use Rattle.msg_explain.specs.declared.part.Part.TheVariants.{Document}
use Rattle.msg_explain.specs.declared.part.Wanted.{Wanted}
use Rattle.msg_explain.specs.declared.part.Wanted.TheVariants.{One}
use Rattle.msg_explain.specs.declared.place.Place.{Place}
use Rattle.msg_explain.specs.declared.place.Step.{Step}
use Rattle.msg_explain.specs.declared.place.Step.TheVariants as steps

-- the table has the key for what is wanted, and the object has the value there
abbrev pub IsAtKey : Wanted → Data → ℕ → Key → Data → Type 0
IsAtKey w d j k v = (slice_get (keys w) j ≡ Some k) × (get k.0 d ≡ Some v)

-- the table wants this at the place, and the list has the value there
abbrev pub IsAtPlace : Wanted → List Data → ℕ → Wanted → Data → Type 0
IsAtPlace w ds i x v = (at_place w (word_of ds) i ≡ Some x) × (slice_get ds i ≡ Some v)

-- the step leads to the value, and the table wants this there
abbrev pub IsStep : Wanted → Data → Step → Wanted → Data → Type 0
IsStep w d (steps.Key k) x v = (j : ℕ) × IsAtKey w d j (k.now, x) v
IsStep w d (steps.Place i) x v = (ds : List Data) × (list_at d ≡ Some ds) × IsAtPlace w ds i x v

-- the steps lead to the value, and the table wants this there
abbrev pub IsAt : Wanted → Data → List Step → Wanted → Data → Type 0
IsAt w d [] x v = (w ≡ x) × (d ≡ v)
IsAt w d (s ∷ path) x v = (y : Wanted) × (u : Data) × IsStep w d s y u × IsAt y u path x v

-- each part of the value is what is wanted there
abbrev pub PartsFit : Wanted → Data → Type 0
PartsFit w d = (s : Step) (x : Wanted) (v : Data) → IsStep w d s x v → fits x v ≡ true

-- so are those at the first keys of the table
abbrev pub KeysFit : Wanted → Data → ℕ → Type 0
KeysFit w d n = (j : ℕ) (k : Key) (v : Data) → j < n → IsAtKey w d j k v → fits k.1 v ≡ true

-- so are those at the first places
abbrev pub PlacesFit : Wanted → List Data → ℕ → Type 0
PlacesFit w ds n = (i : ℕ) (x : Wanted) (v : Data) → i < n → IsAtPlace w ds i x v → fits x v ≡ true

-- A place's value isn't what is wanted there, and the fault is none of its parts'.
pub record IsMisplaced (w : Wanted) (d : Data) (p : Place) : Type 0 where
  pub there : IsAt w d p.path.items p.wanted (view p.found)
  pub unfit : fits p.wanted (view p.found) ≡ false
  pub own : PartsFit p.wanted (view p.found)

-- what is wanted of a document
abbrev pub whole : Data → Wanted
whole d = One (Document (edition_of d))
