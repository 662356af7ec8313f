-- The names of a form.
use Rattle.std.proofs.Common.{◌≡◌, ℕ, ◌<◌, ◌≤◌, false, List, [], length, map, drop, Bor, sym, ap, ◌∙◌, arith}
use Rattle.std.specs.Prelude.{fold, nat_lt}
use Rattle.std.proofs.lemmas.Bool.Decides.{nat_tests}
use Rattle.std.proofs.lemmas.List.{drop_all}
use Rattle.std.proofs.lemmas.Simd.{map-map}
use Rattle.msg_names.specs.Numbering.{with_name}
use Rattle.msg_names.specs.declared.names.TheConstants.{MAX_NAMES}
use Rattle.msg_form.specs.Faults.{has_duplicate_class, has_duplicate_object, has_duplicate_imp}
use Rattle.msg_form.specs.Form.{Form, ObjectForm, ImpForm}
use Rattle.msg_form.specs.FormNames.{AreNamesOf, AreAddedWhileFew, HasNone, AreClassesAdded, AreMembersAdded}
use Rattle.msg_form.specs.Lists.{listed_names, class_names, root_names, object_names, imp_names}
use Rattle.msg_form.specs.Text.{Text, AreDistinct, distinct, repeats, texts_view}
use Rattle.msg_form.specs.Views.{object_view, imp_view, form_view}
use Rattle.msg_form.specs.Walk.{selector_texts}
use Rattle.msg_form.specs.declared.form.Form as declared
use Rattle.msg_form.specs.declared.form.Object.{Object}
use Rattle.msg_form.specs.declared.form.Imp.{Imp}
use Rattle.msg_form.specs.declared.form_names.FormNames.{FormNames}
use Rattle.msg_form.proofs.TextLemmas.{distinct-same, fold_grows, repeats-none}

-- the loop that puts texts into a set, and stops at more than 4,096

pub many_so_far : (ts : List (Bor Text)) (i : ℕ) (first names : List Text) (n : ℕ) → n ≡ length names → MAX_NAMES < n → fold with_name names (texts_view (drop i ts)) ≡ fold with_name first (texts_view ts) → AreAddedWhileFew first names (texts_view ts)
many_so_far ts i first names n len many is =
    let more : MAX_NAMES < length (fold with_name first (texts_view ts)) = omega (arith, fold_grows names (texts_view (drop i ts)), ap length is) in
    record {
      many = grind (arith, nat_tests);
      all = λ few. absurd (omega arith);
    }

pub few_gathered : (ts : List (Bor Text)) (i : ℕ) (first names : List Text) → length ts ≤ i → fold with_name names (texts_view (drop i ts)) ≡ fold with_name first (texts_view ts) → AreAddedWhileFew first names (texts_view ts)
few_gathered ts i first names le is =
    let same : names ≡ fold with_name first (texts_view ts) = sym (ap (λ xs. fold with_name names (texts_view xs)) (drop_all i ts le)) ∙ is in
    record {
      many = ap (λ ns. nat_lt MAX_NAMES (length ns)) same;
      all = λ few. same;
    }

-- if they were added to no texts
pub distinct_while_few : (none names texts : List Text) → none ≡ [] → AreAddedWhileFew none names texts → AreDistinct names texts
unfolding distinct
distinct_while_few none names texts empty added = record {
  many = added.many ∙ ap (λ ns. nat_lt MAX_NAMES (length (fold with_name ns texts))) empty;
  all = λ few. added.all few ∙ ap (λ ns. fold with_name ns texts) empty;
}

-- the texts of selectors, the names of classes and those of objects and implementations were added
-- to empty sets
pub are_names : (f : Form) (none between last : FormNames) (selectors : List Text) → AreAddedWhileFew none.selectors selectors (selector_texts f) → AreClassesAdded (record none { selectors = selectors }) between f → AreMembersAdded between last f → HasNone none → AreNamesOf last f
unfolding distinct has_duplicate_class has_duplicate_object has_duplicate_imp
are_names f none between last selectors texts classes members empty =
    let same : last.selectors ≡ selectors = members.selectors ∙ classes.selectors in
    record {
      selectors = rw same (distinct_while_few none.selectors selectors (selector_texts f) empty.selectors texts);
      listed = members.listed ∙ classes.listed ∙ ap (λ ns. fold with_name ns (listed_names f)) empty.listed;
      classes = members.classes ∙ classes.classes ∙ ap (λ ns. fold with_name ns (class_names f)) empty.classes;
      roots = members.roots ∙ classes.roots ∙ ap (λ ns. fold with_name ns (root_names f)) empty.roots;
      objects = members.objects ∙ ap (λ ns. fold with_name ns (object_names f)) (classes.objects ∙ empty.objects);
      imps = members.imps ∙ ap (λ ns. fold with_name ns (imp_names f)) (classes.imps ∙ empty.imps);
      class_twice = members.class_twice ∙ classes.class_twice ∙ ap (λ ns. repeats ns (class_names f)) empty.classes ∙ repeats-none (class_names f);
      object_twice = members.object_twice ∙ ap (λ ns. repeats ns (object_names f)) (classes.objects ∙ empty.objects) ∙ repeats-none (object_names f);
      imp_twice = members.imp_twice ∙ ap (λ ns. repeats ns (imp_names f)) (classes.imps ∙ empty.imps) ∙ repeats-none (imp_names f);
    }

-- the names of the parts xs, seen through g, are those that the form gives
names_shown : {A B : Type 0} (f : B → Text) (g : A → B) (xs ys : List A) → xs ≡ ys → map (λ x. f (g x)) xs ≡ map f (map g ys)
names_shown f g xs ys same = ap (map (λ x. f (g x))) same ∙ sym (map-map f g ys)

pub object_names_shown : (f : declared.Form) (os : List Object) → os ≡ f.objects.items → map (λ o. o.name.now) os ≡ object_names (form_view f)
object_names_shown f os = names_shown (λ (o : ObjectForm). o.name) object_view os f.objects.items

pub imp_names_shown : (f : declared.Form) (is : List Imp) → is ≡ f.imps.items → map (λ i. i.name.now) is ≡ imp_names (form_view f)
imp_names_shown f is = names_shown (λ (i : ImpForm). i.name) imp_view is f.imps.items

-- if no two implementations have the same name, each name has its implementation's place
pub imps_in_place : (f : Form) (n : FormNames) → AreNamesOf n f → n.imp_twice ≡ false → n.imps ≡ imp_names f
unfolding has_duplicate_imp
imps_in_place f n are once = are.imps ∙ distinct-same (imp_names f) (sym are.imp_twice ∙ once)
