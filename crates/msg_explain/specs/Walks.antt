-- What a walk over a document has found.
use Rattle.std.specs.Prelude.{◌≡◌, ℕ, ◌<◌, List, [], ◌∷◌, ◌++◌, map, true}
use Rattle.std.specs.Borrow.{Bor}
use Rattle.std.specs.List.{All, Contains}
use Rattle.serde_json.specs.Data.{Data}
use Rattle.msg_json.specs.View.{view}
use Rattle.msg_form.specs.Form.{Form}
use Rattle.msg_form.specs.Text.{Text}
use Rattle.msg_form.specs.Views.{form_view}
use Rattle.msg_form.specs.declared.faults.DocumentFault.{DocumentFault}
use Rattle.msg_explain.specs.Judging.{HasFaultAt, has_fault}
use Rattle.msg_explain.specs.Places.{IsAt, IsAtKey, IsAtPlace, IsStep, whole}
use Rattle.msg_explain.specs.Telling.{step_text}
use Rattle.msg_explain.specs.declared.walk.Walk.{Walk}
use Rattle.msg_explain.specs.declared.part.Wanted.{Wanted}
use Rattle.msg_explain.specs.declared.place.Place.{Place}
use Rattle.msg_explain.specs.declared.place.Step.{Step}
use Rattle.msg_explain.specs.declared.place.Step.TheVariants as steps

-- the texts of a path's steps
abbrev pub texts_of : List Step → List Text
texts_of path = map step_text path

-- a place of the path is told
abbrev pub IsTold : List Place → List Step → Type 0
IsTold places path = Contains (map (λ (p : Place). texts_of p.path.items) places) (texts_of path)

-- each place of a document whose value has the fault is told
abbrev pub AllAreTold : Form → DocumentFault → Data → List Place → Type 0
AllAreTold f fault d places =
    (path : List Step) (w : Wanted) (v : Data) → IsAt (whole d) d path w v → has_fault f fault w v ≡ true → IsTold places path

-- ---- on the way

-- the steps lead from the document to the value
abbrev pub IsOnWay : Walk → List Step → Wanted → Data → Type 0
IsOnWay w path x v = IsAt w.wanted (view w.document) path x v

-- each place's value has the fault
abbrev pub AreFaulty : Walk → List Place → Type 0
AreFaulty w places = All (HasFaultAt (form_view w.judge.form.now) w.judge.fault w.wanted (view w.document)) places

-- what was told stays so
abbrev pub StayTold : List Place → List Place → Type 0
StayTold old new = (path : List Step) → IsTold old path → IsTold new path

-- the value at a path, and those below it, are told where they have the fault
abbrev pub AllBelowAreTold : Walk → List Step → Wanted → Data → List Place → Type 0
AllBelowAreTold w path x v places =
    (below : List Step) (y : Wanted) (u : Data) → IsAt x v below y u → has_fault (form_view w.judge.form.now) w.judge.fault y u ≡ true → IsTold places (path ++ below)

-- so are those a step below it and further
abbrev pub PartsAreTold : Walk → List Step → Wanted → Data → List Place → Type 0
PartsAreTold w path x v places =
    (s : Step) (y : Wanted) (u : Data) → IsStep x v s y u → AllBelowAreTold w (path ++ s ∷ []) y u places

-- of a list so many places, with what is below them
abbrev pub PlacesAreTold : Walk → List Step → Wanted → List Data → ℕ → List Place → Type 0
PlacesAreTold w path x ds n places =
    (i : ℕ) (y : Wanted) (u : Data) → i < n → IsAtPlace x ds i y u → AllBelowAreTold w (path ++ steps.Place i ∷ []) y u places

-- of an object so many keys of the table
abbrev pub KeysAreTold : Walk → List Step → Wanted → Data → ℕ → List Place → Type 0
KeysAreTold w path x d n places =
    (j : ℕ) (k : Bor Text) (y : Wanted) (u : Data) → j < n → IsAtKey x d j (k.now, y) u → AllBelowAreTold w (path ++ steps.Key k ∷ []) y u places
