-- Steps through a document.
use Rattle.std.proofs.Common.{◌≡◌, ℕ, zero, suc, ◌<◌, ◌≤◌, List, [], ◌∷◌, ◌++◌, map, get_or, length, slice_get, None, Some, option_map, true, refl, sym, ap, subst, ◌∙◌, ◌+◌, arith, Bor, below_more, Result, Ok, Err}
use Rattle.std.specs.Prelude.{OnOk}
use Rattle.std.proofs.lemmas.Option.{slice_get-map}
use Rattle.std.specs.List.{All}
use Rattle.std.proofs.lemmas.List.{length-map}
use Rattle.serde_json.specs.Data.{Data, array, object}
use Rattle.serde_json.specs.Find.{get, get_member}
use Rattle.msg_json.specs.declared.tree.Tree.{Tree}
use Rattle.msg_json.specs.View.{view, items_view, members_view}
use Rattle.msg_form.proofs.JsonLemmas.{values_of-items_view, value_there}
use Rattle.msg_explain.specs.Fitting.{fits}
use Rattle.msg_explain.specs.Places.{IsAt, IsStep, IsAtKey, IsAtPlace, IsMisplaced, PartsFit, KeysFit, PlacesFit}
use Rattle.msg_explain.specs.Tables.{Key, key_view, keys, at_place, word_of}
use Rattle.msg_explain.specs.declared.part.Wanted.{Wanted}
use Rattle.msg_explain.specs.declared.place.Place.{Place}
use Rattle.msg_explain.specs.declared.place.Step.{Step}
use Rattle.msg_explain.specs.declared.place.Step.TheVariants as steps

-- what a loop over parts keeps: where nothing was told, the parts so far fit
pub record Searched (w : Wanted) (d : Data) (from path : List Step) (before told : List Place) (Fit : Type 0) : Type 0 where
  pub sound : All (IsMisplaced w d) told
  pub back : path ≡ from
  pub grown : length before ≤ length told
  pub own : length told ≤ length before → Fit

-- the element at an index
pub slice_there : {A : Type 0} (xs : List A) (i : ℕ) (x : A) → i < length xs → x ≡ get_or xs i x → slice_get xs i ≡ Some x
slice_there [] i x lt at = absurd (omega arith)
slice_there (y ∷ xs) zero x lt at = ap Some (sym at)
slice_there (y ∷ xs) (suc i) x lt at = slice_there xs i x (omega arith) at

pub slice_at : {A : Type 0} (xs : List A) (i : ℕ) (d : A) → i < length xs → slice_get xs i ≡ Some (get_or xs i d)
slice_at [] i d lt = absurd (omega arith)
slice_at (y ∷ xs) zero d lt = refl
slice_at (y ∷ xs) (suc i) d lt = slice_at xs i d (omega arith)

pub inside : {A : Type 0} (xs : List A) (i : ℕ) (x : A) → slice_get xs i ≡ Some x → i < length xs
inside [] i x there = cc
inside (y ∷ xs) zero x there = omega arith
inside (y ∷ xs) (suc i) x there = omega (arith, inside xs i x there)

-- one step further
pub further : (w : Wanted) (d : Data) (path : List Step) (x : Wanted) (v : Data) (s : Step) (y : Wanted) (u : Data) → IsAt w d path x v → IsStep x v s y u → IsAt w d (path ++ s ∷ []) y u
further w d [] x v s y u at step = (y, u, subst (λ z. IsStep z d s y u) (sym at.0) (subst (λ e. IsStep x e s y u) (sym at.1) step), (refl, refl))
further w d (t ∷ path) x v s y u at step = (at.0, at.1, at.2, further at.0 at.1 path x v s y u at.3 step)

-- a list's value is a step away
pub at_value : (w : Wanted) (vs : List Tree) (i : ℕ) (v : Tree) (x : Wanted) → i < length vs → v ≡ get_or vs i v → at_place w (word_of (map view vs)) i ≡ Some x → IsStep w (array (items_view vs)) (steps.Place i) x (view v)
at_value w vs i v x lt there wants = (map view vs, ap Some (values_of-items_view vs), (wants, value_there vs i v lt there))

-- nothing is at a key of a list
pub list_fits : (w : Wanted) (vs : List Tree) → PlacesFit w (map view vs) (length vs) → PartsFit w (array (items_view vs))
list_fits w vs fit (steps.Key k) x v step = cc
list_fits w vs fit (steps.Place i) x v step =
    let same : step.0 ≡ map view vs = cc (ap Some (values_of-items_view vs)) in
    let there = subst (λ ds. IsAtPlace w ds i x v) same step.2 in
    fit i x v (omega (arith, length-map vs view, inside (map view vs) i v there.1)) there

-- nothing is at a place of an object
pub object_fits : (w : Wanted) (ms : List (Bor (List ℕ) × Tree)) → KeysFit w (object (members_view ms)) (length (keys w)) → PartsFit w (object (members_view ms))
object_fits w ms fit (steps.Key k) x v step = fit step.0 (k.now, x) v (inside (keys w) step.0 (k.now, x) step.1.0) step.1
object_fits w ms fit (steps.Place i) x v step = cc

pub on_ok : {T E : Type 0} {P Q : Type 0} (r : Result T E) → (P → Q) → OnOk r P → OnOk r Q
on_ok (Ok x) f holds = f holds
on_ok (Err e) f holds = tt

-- a turn that goes into a part
pub went : {F G H : Type 0} (w : Wanted) (d : Data) (from old new : List Step) (before told more : List Place) → Searched w d from old before told F → All (IsMisplaced w d) more → new ≡ old → length told ≤ length more → (length more ≤ length told → H) → (F → H → G)
    → Searched w d from new before more G
went w d from old new before told more so_far sound back grown fit on = record {
  sound = sound;
  back = back ∙ so_far.back;
  grown = omega (arith, so_far.grown, grown);
  own = λ short. on (so_far.own (omega (arith, so_far.grown, grown, short))) (fit (omega (arith, so_far.grown, grown, short)));
}

-- a turn without a part
pub passed : {F G : Type 0} (w : Wanted) (d : Data) (from now : List Step) (before told : List Place) → Searched w d from now before told F → (F → G) → Searched w d from now before told G
passed w d from now before told so_far on = record { sound = so_far.sound; back = so_far.back; grown = so_far.grown; own = λ short. on (so_far.own short) }

pub one_more_place : (w : Wanted) (ds : List Data) (i : ℕ) → PlacesFit w ds i → ((x : Wanted) (v : Data) → IsAtPlace w ds i x v → fits x v ≡ true) → PlacesFit w ds (i + 1)
one_more_place w ds i so_far here j x v lt at = below_more (λ k. (y : Wanted) (u : Data) → IsAtPlace w ds k y u → fits y u ≡ true) i (λ k h y u there. so_far k y u h there) here j lt x v at

pub one_more_key : (w : Wanted) (d : Data) (j : ℕ) → KeysFit w d j → ((k : Key) (v : Data) → IsAtKey w d j k v → fits k.1 v ≡ true) → KeysFit w d (j + 1)
one_more_key w d j so_far here i k v lt at = below_more (λ n. (l : Key) (u : Data) → IsAtKey w d n l u → fits l.1 u ≡ true) j (λ n h l u there. so_far n l u h there) here i lt k v at

-- the part at a place, where the value there is what is wanted
pub place_fits : (w : Wanted) (vs : List Tree) (i : ℕ) (v : Tree) (x : Wanted) → i < length vs → v ≡ get_or vs i v → at_place w (word_of (map view vs)) i ≡ Some x → fits x (view v) ≡ true → (y : Wanted) (u : Data) → IsAtPlace w (map view vs) i y u → fits y u ≡ true
place_fits w vs i v x lt there wants fit y u at =
    let here = value_there vs i v lt there in
    let wanted : x ≡ y = cc (wants, at.0) in
    let value : view v ≡ u = cc (here, at.1) in
    cc (wanted, value, fit)

pub no_place : (w : Wanted) (ds : List Data) (i : ℕ) → at_place w (word_of ds) i ≡ None → (y : Wanted) (u : Data) → IsAtPlace w ds i y u → fits y u ≡ true
no_place w ds i none y u at = absurd (cc (none, at.0))

-- the key at a place of the table
pub key_at : (w : Wanted) (ks : List (Bor (List ℕ) × Wanted)) (j : ℕ) (e : Bor (List ℕ) × Wanted) → map key_view ks ≡ keys w → j < length ks → slice_get (keys w) j ≡ Some (key_view (get_or ks j e))
key_at w ks j e same lt = ap (λ xs. slice_get xs j) (sym same) ∙ slice_get-map key_view ks j ∙ ap (option_map key_view) (slice_at ks j e lt)

-- an object's value is a step away
pub key_step : (w : Wanted) (ms : List (Bor (List ℕ) × Tree)) (ks : List (Bor (List ℕ) × Wanted)) (j : ℕ) (e : Bor (List ℕ) × Wanted) (i : ℕ) (m : Bor (List ℕ) × Tree) → map key_view ks ≡ keys w → j < length ks → i < length ms
    → get_member (get_or ks j e).0.now (members_view ms) ≡ option_map (λ (n : Bor (List ℕ) × Tree). view n.1) (slice_get ms i) → IsStep w (object (members_view ms)) (steps.Key (get_or ks j e).0) (get_or ks j e).1 (view (get_or ms i m).1)
key_step w ms ks j e i m same lt inside got = (j, (key_at w ks j e same lt, got ∙ ap (option_map (λ (n : Bor (List ℕ) × Tree). view n.1)) (slice_at ms i m inside)))

pub key_fits : (w : Wanted) (d : Data) (ks : List (Bor (List ℕ) × Wanted)) (j : ℕ) (e : Bor (List ℕ) × Wanted) (v : Data) → map key_view ks ≡ keys w → j < length ks → get (get_or ks j e).0.now d ≡ Some v → fits (get_or ks j e).1 v ≡ true → (l : Key) (u : Data) → IsAtKey w d j l u → fits l.1 u ≡ true
key_fits w d ks j e v same lt got fit l u there =
    let key : key_view (get_or ks j e) ≡ l = cc (key_at w ks j e same lt, there.0) in
    let value : v ≡ u = cc (got, there.1, ap (λ (k : Key). get k.0 d) key) in
    subst (λ (k : Key). fits k.1 u ≡ true) key (subst (λ x. fits (get_or ks j e).1 x ≡ true) value fit)

pub no_key : (w : Wanted) (d : Data) (ks : List (Bor (List ℕ) × Wanted)) (j : ℕ) (e : Bor (List ℕ) × Wanted) → map key_view ks ≡ keys w → j < length ks → get (get_or ks j e).0.now d ≡ None → (l : Key) (u : Data) → IsAtKey w d j l u → fits l.1 u ≡ true
no_key w d ks j e same lt got l u there =
    let key : key_view (get_or ks j e) ≡ l = cc (key_at w ks j e same lt, there.0) in
    absurd (cc (got, there.1, ap (λ (k : Key). get k.0 d) key))
