-- If no name occurs twice, a name's number is its place.
use Rattle.std.proofs.Common.{◌≡◌, ◌+◌, ◌-◌, ℕ, zero, suc, List, [], ◌∷◌, ◌++◌, map, length, zero-add, Bool, true, false, ◌||◌, cond, Option, Some, None, is_some, option_map, slice_get, bytes_eq, refl, sym, ap, ◌∙◌, subst, arith, append_assoc}
use Rattle.std.specs.Prelude.{fold, filter, is_none, unwrap_or}
use Rattle.std.proofs.lemmas.List.{append-nil, length-map}
use Rattle.std.proofs.lemmas.Option.{slice_get-map, same_Some}
use Rattle.std.proofs.lemmas.Slice.Eq.{bytes_eq-Decides}
use Rattle.msg_names.specs.Numbering.{number_of, name_at, with_name}
use Rattle.msg_names.specs.Number.{imp_number}
use Rattle.msg_names.proofs.NumberLemmas.{is_some-number_of, name_at-number_of}
use Rattle.msg_form.specs.Faults.{has_duplicate_class, has_duplicate_object, has_duplicate_imp}
use Rattle.msg_form.specs.Form.{Form, ClassForm, ObjectForm, ImpForm}
use Rattle.msg_form.specs.Lists.{listed_names, class_names}
use Rattle.msg_form.specs.Text.{Text, number_among, is_among, has_duplicate, distinct, repeats}
use Rattle.msg_form.proofs.TextLemmas.{repeats-step, repeats-none, repeats-append}
use Rattle.msg_image.specs.Numbers.{numbers_of, class_named, object_named, imp_named}
use Rattle.msg_image.proofs.FaultlessLemmas.{IsFaultless}
use Rattle.msg_image.proofs.KnownLemmas.{known, number_of-first}
use Rattle.msg_image.proofs.NoneLemmas.{neither}

distinct-on : (seen texts : List Text) → repeats seen texts ≡ false → fold with_name seen texts ≡ seen ++ texts
distinct-on seen [] e = sym (append-nil seen)
distinct-on seen (t ∷ texts) e =
    let each = neither (is_among t seen) (repeats (with_name seen t) texts) (sym (repeats-step seen t texts) ∙ e) in
    let grown : with_name seen t ≡ seen ++ t ∷ [] = rw each.0 refl in
    distinct-on (with_name seen t) texts each.1 ∙ ap (λ n. n ++ texts) grown ∙ append_assoc seen (t ∷ []) texts

-- texts none of which occurs twice are the different ones
pub distinct-same : (texts : List Text) → has_duplicate texts ≡ false → distinct texts ≡ texts
unfolding distinct
distinct-same texts e = distinct-on [] texts (repeats-none texts ∙ e)

-- one more name before those in which a name is
later : (x t : Text) (names : List Text) (place : ℕ) → is_among x names ≡ false → number_of names t ≡ Some (place + 1) → number_of (x ∷ names) t ≡ Some (suc place + 1)
later x t names place absent rest = at_test (bytes_eq t x) refl
  where
    at_test : (b : Bool) → bytes_eq t x ≡ b → cond b (Some 1) (option_map suc (number_of names t)) ≡ Some (suc place + 1)
    at_test true e =
        let there : is_among x names ≡ true = ap (λ s. is_among s names) (sym ((bytes_eq-Decides t x).0 e)) ∙ is_some-number_of names t ∙ ap is_some rest in
        let clash : true ≡ false = sym there ∙ absent in cc
    at_test false e = rw rest (ap Some (omega arith))

-- a name that is at a place has that place as its number, from 1
number-at : (names : List Text) (place : ℕ) (t : Text) → has_duplicate names ≡ false → slice_get names place ≡ Some t → number_of names t ≡ Some (place + 1)
number-at [] place t none at = cc
number-at (x ∷ names) zero t none at = let same : bytes_eq t x ≡ true = (bytes_eq-Decides t x).1 (sym (same_Some x t at)) in rw same refl
number-at (x ∷ names) (suc place) t none at =
    let each = neither (is_among x names) (has_duplicate names) none in
    later x t names place each.0 (number-at names place t each.1 at)

numbered-at : {A : Type 0} (name : A → Text) (parts : List A) (place : ℕ) (p : A) → has_duplicate (map name parts) ≡ false → slice_get parts place ≡ Some p → number_of (distinct (map name parts)) (name p) ≡ Some (place + 1)
numbered-at name parts place p none at =
    let there : slice_get (map name parts) place ≡ Some (name p) = slice_get-map name parts place ∙ ap (option_map name) at in
    ap (λ names. number_of names (name p)) (distinct-same (map name parts) none) ∙ number-at (map name parts) place (name p) none there

-- in two lists, one after the other
at-first : (xs ys : List Text) (place : ℕ) (t : Text) → slice_get xs place ≡ Some t → slice_get (xs ++ ys) place ≡ Some t
at-first [] ys place t at = cc
at-first (x ∷ xs) ys zero t at = at
at-first (x ∷ xs) ys (suc place) t at = at-first xs ys place t at

at-other : (xs ys : List Text) (place : ℕ) (t : Text) → slice_get ys place ≡ Some t → slice_get (xs ++ ys) (length xs + place) ≡ Some t
at-other [] ys place t at = rw (zero-add place) at
at-other (x ∷ xs) ys place t at = let same : length (x ∷ xs) + place ≡ suc (length xs + place) = omega arith in rw same (at-other xs ys place t at)

numbered-place : (names : List Text) (place : ℕ) (t : Text) → has_duplicate names ≡ false → slice_get names place ≡ Some t → number_of (distinct names) t ≡ Some (place + 1)
numbered-place names place t none at = ap (λ ns. number_of ns t) (distinct-same names none) ∙ number-at names place t none at

module _ (f : Form) (g : IsFaultless f) where
  pub class_place : (place : ℕ) (c : ClassForm) → slice_get f.classes place ≡ Some c → class_named (numbers_of f) c.name ≡ place
  unfolding class_named has_duplicate_class
  class_place place c at =
      let there = slice_get-map (λ (k : ClassForm). k.name) f.classes place ∙ ap (option_map (λ (k : ClassForm). k.name)) at in
      rw (numbered-place (class_names f) place c.name g.one_class (at-first (listed_names f) f.made place c.name there)) (omega arith)

  pub made_place : (place : ℕ) (name : Text) → slice_get f.made place ≡ Some name → class_named (numbers_of f) name ≡ length f.classes + place
  unfolding class_named has_duplicate_class
  made_place place name at =
      let n = length-map f.classes (λ (k : ClassForm). k.name) in
      let named : class_named (numbers_of f) name ≡ (length (listed_names f) + place + 1) - 1 = rw (numbered-place (class_names f) (length (listed_names f) + place) name g.one_class (at-other (listed_names f) f.made place name at)) refl in
      omega (arith, named, n)

  pub object_place : (place : ℕ) (o : ObjectForm) → slice_get f.objects place ≡ Some o → (object_named (numbers_of f) o.name).object ≡ place
  unfolding object_named has_duplicate_object
  object_place place o at = rw (numbered-at (λ (k : ObjectForm). k.name) f.objects place o g.one_object at) (omega arith)

  pub imp_place : (place : ℕ) (i : ImpForm) → slice_get f.imps place ≡ Some i → imp_number (imp_named (numbers_of f) i.name) ≡ place + 1
  unfolding imp_named has_duplicate_imp
  imp_place place i at = rw (numbered-at (λ (k : ImpForm). k.name) f.imps place i g.one_imp at) refl

  -- a class that is named is listed at its number
  pub record IsListedAs (name : Text) (place : ℕ) : Type 0 where
    pub class : ClassForm
    pub at : slice_get f.classes place ≡ Some class
    pub is : class.name ≡ name

  one_listed : has_duplicate (listed_names f) ≡ false
  unfolding has_duplicate_class
  one_listed = sym (repeats-none (listed_names f)) ∙ (neither (repeats [] (listed_names f)) _ (sym (repeats-append [] (listed_names f) f.made) ∙ repeats-none (class_names f) ∙ g.one_class)).0

  -- a listed class has the number that it has among the listed ones
  pub listed_number : (name : Text) → is_among name (listed_names f) ≡ true → class_named (numbers_of f) name ≡ number_among (distinct (listed_names f)) name
  unfolding class_named
  listed_number name among =
      let number = known (listed_names f) name among in
      let here : number_of (distinct (class_names f)) name ≡ Some number.number = number_of-first (listed_names f) f.made name number.number number.is in
      ap (λ o. unwrap_or o 1 - 1) (here ∙ sym number.is)

  at_number : (name : Text) (n : ℕ) → name_at (distinct (listed_names f)) n ≡ Some name → IsListedAs name (n - 1)
  at_number name n is = at_form (slice_get f.classes (n - 1)) refl
    where
      there : option_map (λ (k : ClassForm). k.name) (slice_get f.classes (n - 1)) ≡ Some name
      there = sym (slice_get-map (λ (k : ClassForm). k.name) f.classes (n - 1)) ∙ ap (λ ns. slice_get ns (n - 1)) (sym (distinct-same (listed_names f) one_listed)) ∙ is

      at_form : (o : Option ClassForm) → slice_get f.classes (n - 1) ≡ o → IsListedAs name (n - 1)
      at_form None e = let clash : None ≡ Some name = sym (ap (option_map (λ (k : ClassForm). k.name)) e) ∙ there in cc
      at_form (Some k) e = record { class = k; at = e; is = same_Some k.name name (sym (ap (option_map (λ (c : ClassForm). c.name)) e) ∙ there) }

  pub listed_class : (name : Text) → is_among name (listed_names f) ≡ true → IsListedAs name (class_named (numbers_of f) name)
  listed_class name among =
      let number = known (listed_names f) name among in
      let named : class_named (numbers_of f) name ≡ number.number - 1 = listed_number name among ∙ ap (λ o. unwrap_or o 1 - 1) number.is in
      subst (IsListedAs name) (sym named) (at_number name number.number (name_at-number_of (distinct (listed_names f)) name number.number number.is))

abbrev is_root : ClassForm → Bool
is_root c = is_none c.superclass

-- a name among the roots stays there where a class comes before them
one_more : (name : Text) (x : ClassForm) (cs : List ClassForm) (b : Bool) → is_among name (map (λ (k : ClassForm). k.name) (filter is_root cs)) ≡ true → is_among name (map (λ (k : ClassForm). k.name) (cond b (x ∷ filter is_root cs) (filter is_root cs))) ≡ true
one_more name x cs true there = either (bytes_eq name x.name)
  where
    either : (b : Bool) → (b || is_among name (map (λ (k : ClassForm). k.name) (filter is_root cs))) ≡ true
    either true = refl
    either false = there
one_more name x cs false there = there

-- a class without superclass is one of the roots
pub root_name : (cs : List ClassForm) (place : ℕ) (c : ClassForm) → slice_get cs place ≡ Some c → c.superclass ≡ None → is_among c.name (map (λ (k : ClassForm). k.name) (filter is_root cs)) ≡ true
root_name [] place c at root = cc
root_name (x ∷ cs) zero c at root =
    let same : x ≡ c = same_Some x c at in
    let none : is_none x.superclass ≡ true = ap is_root same ∙ ap is_none root in
    let first : bytes_eq c.name x.name ≡ true = (bytes_eq-Decides c.name x.name).1 (ap (λ (k : ClassForm). k.name) (sym same)) in
    rw none (rw first refl)
root_name (x ∷ cs) (suc place) c at root = one_more c.name x cs (is_none x.superclass) (root_name cs place c at root)
