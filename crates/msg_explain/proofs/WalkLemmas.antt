-- A walk over a document.
use Rattle.std.proofs.Common.{◌≡◌, ℕ, ◌<◌, List, [], ◌∷◌, ◌++◌, append-nil, append_assoc, map, length, codes, get_or, None, Some, true, sym, ap, subst, ◌∙◌, ◌+◌, arith, Bor, below_more, Result, Ok, Err}
use Rattle.std.specs.Prelude.{OnOk}
use Rattle.std.specs.List.{Contains}
use Rattle.std.proofs.lemmas.List.{length-map, map-append}
use Rattle.std.proofs.lemmas.List.Elements.{Contains-append_left, Contains-push}
use Rattle.serde_json.specs.Data.{Data, array, object}
use Rattle.serde_json.specs.Find.{get}
use Rattle.msg_json.specs.declared.tree.Tree.{Tree}
use Rattle.msg_json.specs.View.{view, items_view, members_view}
use Rattle.msg_form.specs.Views.{form_view}
use Rattle.msg_form.proofs.JsonLemmas.{values_of-items_view, value_there}
use Rattle.msg_explain.specs.Judging.{has_fault}
use Rattle.msg_explain.specs.Places.{IsAtKey, IsAtPlace}
use Rattle.msg_explain.specs.Tables.{Key, key_view, keys, at_place, word_of}
use Rattle.msg_explain.specs.Telling.{step_text}
use Rattle.msg_explain.specs.Walks.{texts_of, AllBelowAreTold, AreFaulty, IsTold, KeysAreTold, PartsAreTold, PlacesAreTold, StayTold}
use Rattle.msg_explain.specs.declared.walk.Walk.{Walk}
use Rattle.msg_explain.specs.declared.part.Wanted.{Wanted}
use Rattle.msg_explain.specs.declared.place.Place.{Place}
use Rattle.msg_explain.specs.declared.place.Step.{Step}
use Rattle.msg_explain.specs.declared.place.Step.TheVariants as steps
use Rattle.msg_explain.proofs.PlaceLemmas.{inside, key_at}

-- what a loop over parts keeps
pub record Walked (w : Walk) (from path : List Step) (before told : List Place) (Parts : Type 0) : Type 0 where
  pub sound : AreFaulty w told
  pub back : path ≡ from
  pub kept : StayTold before told
  pub parts : Parts

pub both_ok : {T E : Type 0} (P Q R : Type 0) (r : Result T E) → (P → Q → R) → OnOk r P → OnOk r Q → OnOk r R
both_ok P Q R (Ok x) on p q = on p q
both_ok P Q R (Err e) on p q = tt

-- ---- one place more

pub stay_pushed : (told : List Place) (p : Place) → StayTold told (told ++ p ∷ [])
stay_pushed told p path there = subst (λ paths. Contains paths (texts_of path)) (sym (map-append (λ (q : Place). texts_of q.path.items) told (p ∷ []))) (Contains-append_left (map (λ (q : Place). texts_of q.path.items) told) (texts_of p.path.items ∷ []) (texts_of path) there)

pub told_pushed : (told : List Place) (p : Place) (path : List Step) → p.path.items ≡ path → IsTold (told ++ p ∷ []) path
told_pushed told p path same = subst (IsTold (told ++ p ∷ [])) same (subst (λ paths. Contains paths (texts_of p.path.items)) (sym (map-append (λ (q : Place). texts_of q.path.items) told (p ∷ []))) (Contains-push (map (λ (q : Place). texts_of q.path.items) told) (texts_of p.path.items)))

-- a key's text alone is told
key_texts : (path below : List Step) (k : Bor (List ℕ)) → texts_of (path ++ steps.Key k ∷ [] ++ below) ≡ texts_of path ++ (codes "." ++ k.now) ∷ [] ++ texts_of below
key_texts path below k = map-append step_text (path ++ steps.Key k ∷ []) below ∙ ap (λ t. t ++ texts_of below) (map-append step_text path (steps.Key k ∷ []))

pub renamed : (told : List Place) (path below : List Step) (a k : Bor (List ℕ)) → a.now ≡ k.now → IsTold told (path ++ steps.Key a ∷ [] ++ below) → IsTold told (path ++ steps.Key k ∷ [] ++ below)
renamed told path below a k same there =
    subst (Contains (map (λ (q : Place). texts_of q.path.items) told)) (key_texts path below a ∙ ap (λ n. texts_of path ++ (codes "." ++ n) ∷ [] ++ texts_of below) same ∙ sym (key_texts path below k)) there

-- ---- a value, its parts and what is below them

pub all_of : (w : Walk) (path : List Step) (x : Wanted) (v : Data) (told : List Place) → (has_fault (form_view w.judge.form.now) w.judge.fault x v ≡ true → IsTold told path) → PartsAreTold w path x v told → AllBelowAreTold w path x v told
all_of w path x v told here parts [] y u at faulty =
    let same : has_fault (form_view w.judge.form.now) w.judge.fault x v ≡ true = cc (at.0, at.1, faulty) in
    subst (IsTold told) (sym (append-nil path)) (here same)
all_of w path x v told here parts (s ∷ below) y u at faulty = subst (IsTold told) (append_assoc path (s ∷ []) below) (parts s at.0 at.1 at.2 below y u at.3 faulty)

pub all_stay : (w : Walk) (path : List Step) (x : Wanted) (v : Data) (old new : List Place) → AllBelowAreTold w path x v old → StayTold old new → AllBelowAreTold w path x v new
all_stay w path x v old new all stay below y u at faulty = stay (path ++ below) (all below y u at faulty)

-- ---- the parts of a list

pub list_parts : (w : Walk) (path : List Step) (x : Wanted) (vs : List Tree) (told : List Place) → PlacesAreTold w path x (map view vs) (length vs) told → PartsAreTold w path x (array (items_view vs)) told
list_parts w path x vs told all (steps.Key k) y u step = absurd (cc step.1.1)
list_parts w path x vs told all (steps.Place i) y u step =
    let same : step.0 ≡ map view vs = cc (ap Some (values_of-items_view vs)) in
    let there = subst (λ ds. IsAtPlace x ds i y u) same step.2 in
    all i y u (omega (arith, length-map vs view, inside (map view vs) i u there.1)) there

-- the places so far, and one more
pub one_more_told : (w : Walk) (path : List Step) (x : Wanted) (ds : List Data) (i : ℕ) (old new : List Place) → PlacesAreTold w path x ds i old → StayTold old new → ((y : Wanted) (u : Data) → IsAtPlace x ds i y u → AllBelowAreTold w (path ++ steps.Place i ∷ []) y u new) → PlacesAreTold w path x ds (i + 1) new
one_more_told w path x ds i old new so_far stay here j y u lt at =
    below_more (λ k. (z : Wanted) (t : Data) → IsAtPlace x ds k z t → AllBelowAreTold w (path ++ steps.Place k ∷ []) z t new) i (λ k h z t there. all_stay w (path ++ steps.Place k ∷ []) z t old new (so_far k z t h there) stay) here j lt y u at

pub place_told : (w : Walk) (path : List Step) (x : Wanted) (vs : List Tree) (i : ℕ) (v : Tree) (part : Wanted) (told : List Place) → i < length vs → v ≡ get_or vs i v → at_place x (word_of (map view vs)) i ≡ Some part → AllBelowAreTold w (path ++ steps.Place i ∷ []) part (view v) told
    → (y : Wanted) (u : Data) → IsAtPlace x (map view vs) i y u → AllBelowAreTold w (path ++ steps.Place i ∷ []) y u told
place_told w path x vs i v part told lt there wants all y u at =
    let here = value_there vs i v lt there in
    let wanted : part ≡ y = cc (wants, at.0) in
    let value : view v ≡ u = cc (here, at.1) in
    subst (λ z. AllBelowAreTold w (path ++ steps.Place i ∷ []) z u told) wanted (subst (λ d. AllBelowAreTold w (path ++ steps.Place i ∷ []) part d told) value all)

pub no_place_told : (w : Walk) (path : List Step) (x : Wanted) (ds : List Data) (i : ℕ) (told : List Place) → at_place x (word_of ds) i ≡ None → (y : Wanted) (u : Data) → IsAtPlace x ds i y u → AllBelowAreTold w (path ++ steps.Place i ∷ []) y u told
no_place_told w path x ds i told none y u at = absurd (cc (none, at.0))

-- ---- the parts of an object

pub object_parts : (w : Walk) (path : List Step) (x : Wanted) (ms : List (Bor (List ℕ) × Tree)) (told : List Place) → KeysAreTold w path x (object (members_view ms)) (length (keys x)) told → PartsAreTold w path x (object (members_view ms)) told
object_parts w path x ms told all (steps.Key k) y u step = all step.0 k y u (inside (keys x) step.0 (k.now, y) step.1.0) step.1
object_parts w path x ms told all (steps.Place i) y u step = absurd (cc step.1)

pub one_more_key_told : (w : Walk) (path : List Step) (x : Wanted) (d : Data) (j : ℕ) (old new : List Place) → KeysAreTold w path x d j old → StayTold old new → ((k : Bor (List ℕ)) (y : Wanted) (u : Data) → IsAtKey x d j (k.now, y) u → AllBelowAreTold w (path ++ steps.Key k ∷ []) y u new) → KeysAreTold w path x d (j + 1) new
one_more_key_told w path x d j old new so_far stay here i k y u lt at =
    below_more (λ n. (l : Bor (List ℕ)) (z : Wanted) (t : Data) → IsAtKey x d n (l.now, z) t → AllBelowAreTold w (path ++ steps.Key l ∷ []) z t new) j (λ n h l z t there. all_stay w (path ++ steps.Key l ∷ []) z t old new (so_far n l z t h there) stay) here i lt k y u at

pub key_told : (w : Walk) (path : List Step) (x : Wanted) (d : Data) (ks : List (Bor (List ℕ) × Wanted)) (j : ℕ) (e : Bor (List ℕ) × Wanted) (v : Data) (told : List Place) → map key_view ks ≡ keys x → j < length ks → get (get_or ks j e).0.now d ≡ Some v
    → AllBelowAreTold w (path ++ steps.Key (get_or ks j e).0 ∷ []) (get_or ks j e).1 v told → (k : Bor (List ℕ)) (y : Wanted) (u : Data) → IsAtKey x d j (k.now, y) u → AllBelowAreTold w (path ++ steps.Key k ∷ []) y u told
key_told w path x d ks j e v told same lt got all k y u there below z t at faulty =
    let key : key_view (get_or ks j e) ≡ (k.now, y) = cc (key_at x ks j e same lt, there.0) in
    let name : (get_or ks j e).0.now ≡ k.now = ap (λ (l : Key). l.0) key in
    let wanted : (get_or ks j e).1 ≡ y = ap (λ (l : Key). l.1) key in
    let value : v ≡ u = cc (got, there.1, ap (λ (l : Key). get l.0 d) key) in
    let here = subst (λ m. AllBelowAreTold w (path ++ steps.Key (get_or ks j e).0 ∷ []) m u told) wanted (subst (λ c. AllBelowAreTold w (path ++ steps.Key (get_or ks j e).0 ∷ []) (get_or ks j e).1 c told) value all) in
    renamed told path below (get_or ks j e).0 k name (here below z t at faulty)

pub no_key_told : (w : Walk) (path : List Step) (x : Wanted) (d : Data) (ks : List (Bor (List ℕ) × Wanted)) (j : ℕ) (e : Bor (List ℕ) × Wanted) (told : List Place) → map key_view ks ≡ keys x → j < length ks → get (get_or ks j e).0.now d ≡ None
    → (k : Bor (List ℕ)) (y : Wanted) (u : Data) → IsAtKey x d j (k.now, y) u → AllBelowAreTold w (path ++ steps.Key k ∷ []) y u told
no_key_told w path x d ks j e told same lt got k y u there =
    let key : key_view (get_or ks j e) ≡ (k.now, y) = cc (key_at x ks j e same lt, there.0) in
    absurd (cc (got, there.1, ap (λ (l : Key). get l.0 d) key))

-- ---- turns of a loop

-- a turn that goes into a part
pub went_on : {F G H : Type 0} (w : Walk) (from old new : List Step) (before told more : List Place) → Walked w from old before told F → AreFaulty w more → new ≡ old → StayTold told more → H → (F → H → G) → Walked w from new before more G
went_on w from old new before told more so_far sound back kept here on = record {
  sound = sound;
  back = back ∙ so_far.back;
  kept = λ path there. kept path (so_far.kept path there);
  parts = on so_far.parts here;
}

-- a turn without a part
pub passed_on : {F G : Type 0} (w : Walk) (from now : List Step) (before told : List Place) → Walked w from now before told F → (F → G) → Walked w from now before told G
passed_on w from now before told so_far on = record { sound = so_far.sound; back = so_far.back; kept = so_far.kept; parts = on so_far.parts }
