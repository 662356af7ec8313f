-- Going over the values of a list.
use Rattle.std.proofs.Common.{◌≡◌, ℕ, zero, suc, ◌+◌, ◌<◌, ◌≤◌, ◌==◌, true, eq-eqb, List, [], ◌∷◌, ◌++◌, map, drop, get_or, length, slice_get, Option, None, Some, option_map, refl, sym, ap, ◌∙◌, append_assoc, drop-cons, add-one, arith, append-nil}
use Rattle.std.proofs.lemmas.List.{drop_all, length-map, map_push}
use Rattle.serde_json.specs.Data.{Data}
use Rattle.msg_json.specs.declared.tree.Tree.{Tree}
use Rattle.msg_json.specs.View.{view, items_view}
use Rattle.msg_form.specs.Gives.{Fails}
use Rattle.msg_form.specs.Json.{each, values_of}
use Rattle.msg_form.specs.declared.faults.ReadFault.{ReadFault}
use Rattle.msg_form.specs.declared.faults.ReadFault.TheVariants as faults

pub values_of-items_view : (vs : List Tree) → values_of (items_view vs) ≡ map view vs
values_of-items_view [] = refl
values_of-items_view (v ∷ vs) = ap (λ ds. view v ∷ ds) (values_of-items_view vs)

-- the value at a place
pub value_there : (vs : List Tree) (i : ℕ) (v : Tree) → i < length vs → v ≡ get_or vs i v → slice_get (map view vs) i ≡ Some (view v)
value_there [] i v lt at = absurd (omega arith)
value_there (w ∷ vs) zero v lt at = ap (λ x. Some (view x)) (sym at)
value_there (w ∷ vs) (suc i) v lt at = value_there vs i v (omega arith) at

-- what has been read, before what is still to be read
abbrev pub with_first : {B : Type 0} → List B → Option (List B) → Option (List B)
with_first first rest = option_map (λ xs. first ++ xs) rest

pub starts : {B : Type 0} (rest : Option (List B)) → with_first [] rest ≡ rest
starts None = refl
starts (Some xs) = refl

regroup : {B : Type 0} (first : List B) (x : B) (rest : Option (List B)) → with_first first (option_map (λ xs. x ∷ xs) rest) ≡ with_first (first ++ x ∷ []) rest
regroup first x None = refl
regroup first x (Some xs) = ap Some (sym (append_assoc first (x ∷ []) xs))

-- a turn of a loop that reads each value by f, and pushes what it read
pub each_on : {A B : Type 0} (g : A → B) (f : Data → Option B) (vs : List Tree) (i : ℕ) (v : Tree) (old new : List A) (x : A) (whole : Option (List B)) → i < length vs → v ≡ get_or vs i v → f (view v) ≡ Some (g x) → new ≡ old ++ x ∷ []
    → with_first (map g old) (each f (map view (drop i vs))) ≡ whole → with_first (map g new) (each f (map view (drop (i + 1) vs))) ≡ whole
each_on g f vs i v old new x whole lt at read pushed so_far =
    let left : drop i vs ≡ v ∷ drop (i + 1) vs = rw add-one (drop-cons vs i v lt ∙ ap (λ y. y ∷ drop (suc i) vs) (sym at)) in
    let here : with_first (map g old) (each f (map view (drop i vs))) ≡ with_first (map g old ++ g x ∷ []) (each f (map view (drop (i + 1) vs))) = rw (left, read) (regroup (map g old) (g x) (each f (map view (drop (i + 1) vs)))) in
    let grown : map g new ≡ map g old ++ g x ∷ [] = rw pushed (map_push g old x) in
    rw grown (sym here ∙ so_far)

-- after the loop all values are read
pub each_done : {A B : Type 0} (g : A → B) (f : Data → Option B) (vs : List Tree) (i : ℕ) (read : List A) (whole : Option (List B)) → length vs ≤ i → with_first (map g read) (each f (map view (drop i vs))) ≡ whole → whole ≡ Some (map g read)
each_done g f vs i read whole past so_far = sym so_far ∙ ap (λ ds. with_first (map g read) (each f (map view ds))) (drop_all i vs past) ∙ ap Some (append-nil (map g read))

-- if one of the values is not read, the list spells nothing
pub each_fails : {A B : Type 0} (g : A → B) (f : Data → Option B) (vs : List Tree) (i : ℕ) (v : Tree) (read : List A) (whole : Option (List B)) (e : ReadFault) → i < length vs → v ≡ get_or vs i v → Fails e (f (view v))
    → with_first (map g read) (each f (map view (drop i vs))) ≡ whole → Fails e whole
each_fails g f vs i v read whole faults.Memory lt at fails so_far = tt
each_fails g f vs i v read whole faults.Shape lt at none so_far =
    let left : drop i vs ≡ v ∷ drop (suc i) vs = drop-cons vs i v lt ∙ ap (λ y. y ∷ drop (suc i) vs) (sym at) in
    sym so_far ∙ rw (left, none) refl

-- the list has n values
pub so_long : (vs : List Tree) (n : ℕ) → length vs ≡ n → (length (map view vs) == n) ≡ true
so_long vs n e = eq-eqb (length (map view vs)) n (length-map vs view ∙ e)
