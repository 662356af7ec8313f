-- Superclasses.
use Rattle.std.proofs.Common.{◌≡◌, Bor, ℕ, suc, ◌+◌, ◌<◌, Bool, false, not, ◌||◌, List, [], ◌∷◌, ◌++◌, length, map, drop, get_or, Option, None, Some, option_map, bytes_eq, refl, sym, ap, ◌∙◌, drop-cons, add-one}
use Rattle.std.specs.Prelude.{fold}
use Rattle.std.specs.List.{list_any}
use Rattle.std.proofs.lemmas.Simd.{map-map}
use Rattle.msg_names.specs.Numbering.{with_name}
use Rattle.msg_form.specs.Faults.{is_outside, has_late_superclass}
use Rattle.msg_form.specs.Form.{ClassForm}
use Rattle.msg_form.specs.Lists.{listed_names, class_names}
use Rattle.msg_form.specs.Text.{Text, is_among, distinct, repeats, texts_view}
use Rattle.msg_form.specs.Views.{class_view, form_view}
use Rattle.msg_form.specs.declared.form.Form.{Form}
use Rattle.msg_form.specs.declared.form.Class.{Class}
use Rattle.msg_form.proofs.AnyLemmas.{list_any-map}
use Rattle.msg_form.proofs.TextLemmas.{among_last, is_among-with_name, is_among-distinct, fold-append, repeats-append}

-- ---- the names of classes

pub same_names : (f : Form) (cs : List Class) → cs ≡ f.classes.items → map (λ c. c.name.now) cs ≡ listed_names (form_view f)
same_names f cs same = ap (map (λ c. c.name.now)) same ∙ sym (map-map (λ (c : ClassForm). c.name) class_view f.classes.items)

-- the names of the listed classes are added, and then those of the classes that may be made
pub class_names-added : (f : Form) (cs : List Class) (made : List (Bor Text)) (old first all : List Text) → cs ≡ f.classes.items → made ≡ f.made.items → first ≡ fold with_name old (map (λ c. c.name.now) cs)
    → all ≡ fold with_name first (texts_view made) → all ≡ fold with_name old (class_names (form_view f))
class_names-added f cs made old first all listed rest e g =
    let grown : first ≡ fold with_name old (listed_names (form_view f)) = e ∙ ap (fold with_name old) (same_names f cs listed) in
    g ∙ (λ i. fold with_name (grown i) (texts_view (rest i))) ∙ sym (fold-append old (listed_names (form_view f)) (texts_view f.made.items))

-- a name occurs twice among both, or is one of those before
pub repeated_names : (f : Form) (cs : List Class) (made : List (Bor Text)) (old first : List Text) (a b : Bool) → cs ≡ f.classes.items → made ≡ f.made.items → a ≡ repeats old (map (λ c. c.name.now) cs)
    → first ≡ fold with_name old (map (λ c. c.name.now) cs) → b ≡ repeats first (texts_view made) → (a || b) ≡ repeats old (class_names (form_view f))
repeated_names f cs made old first a b listed rest e put g =
    let names = listed_names (form_view f) in
    let is : a ≡ repeats old names = e ∙ ap (repeats old) (same_names f cs listed) in
    let grown : first ≡ fold with_name old names = put ∙ ap (fold with_name old) (same_names f cs listed) in
    let later : b ≡ repeats (fold with_name old names) (texts_view f.made.items) = g ∙ (λ i. repeats (grown i) (texts_view (rest i))) in
    (λ i. is i || later i) ∙ sym (repeats-append old names (texts_view f.made.items))

-- ---- superclasses

is_outside-same : (ms ns : List Text) (superclass : Option Text) → ((q : Text) → is_among q ms ≡ is_among q ns) → is_outside ms superclass ≡ is_outside ns superclass
is_outside-same ms ns None same = refl
is_outside-same ms ns (Some name) same = ap not (same name)

-- only the set of names counts, and not their order
late-same : (ms ns : List Text) (cs : List ClassForm) → ((q : Text) → is_among q ms ≡ is_among q ns) → has_late_superclass ms cs ≡ has_late_superclass ns cs
late-same ms ns [] same = refl
late-same ms ns (c ∷ cs) same =
    let more : (q : Text) → is_among q (ms ++ c.name ∷ []) ≡ is_among q (ns ++ c.name ∷ []) = λ q. among_last q ms c.name ∙ ap (λ b. b || bytes_eq q c.name) (same q) ∙ sym (among_last q ns c.name) in
    (λ i. is_outside-same ms ns c.superclass same i || late-same (ms ++ c.name ∷ []) (ns ++ c.name ∷ []) cs more i)

-- a turn of the loop over the classes
pub late_on : (cs : List Class) (i : ℕ) (c : Class) (r : Bool) (old new : List Text) (whole : Bool) → i < length cs → c ≡ get_or cs i c → r ≡ is_outside old (option_map (λ s. s.now) c.superclass) → r ≡ false → new ≡ with_name old c.name.now
    → has_late_superclass old (map class_view (drop i cs)) ≡ whole → has_late_superclass new (map class_view (drop (i + 1) cs)) ≡ whole
late_on cs i c r old new whole lt at is none grown so_far =
    let left : drop i cs ≡ c ∷ drop (i + 1) cs = rw add-one (drop-cons cs i c lt ∙ ap (λ d. d ∷ drop (suc i) cs) (sym at)) in
    let rest = map class_view (drop (i + 1) cs) in
    let early : is_outside old (option_map (λ s. s.now) c.superclass) ≡ false = sym is ∙ none in
    let step : has_late_superclass old (map class_view (drop i cs)) ≡ has_late_superclass (old ++ c.name.now ∷ []) rest = ap (λ ds. has_late_superclass old (map class_view ds)) left ∙ ap (λ b. b || has_late_superclass (old ++ c.name.now ∷ []) rest) early in
    let same = late-same new (old ++ c.name.now ∷ []) rest (λ q. ap (is_among q) grown ∙ is_among-with_name q old c.name.now ∙ sym (among_last q old c.name.now)) in
    same ∙ sym step ∙ so_far

-- a class has a superclass that isn't listed
pub unlisted_superclass : (cs : List Class) (listed : List Text) (r : Bool) → listed ≡ distinct (map (λ (d : ClassForm). d.name) (map class_view cs)) → r ≡ list_any (λ c. is_outside listed (option_map (λ s. s.now) c.superclass)) cs
    → r ≡ list_any (λ (c : ClassForm). is_outside (map (λ (d : ClassForm). d.name) (map class_view cs)) c.superclass) (map class_view cs)
unlisted_superclass cs listed r is e =
    let names = map (λ (d : ClassForm). d.name) (map class_view cs) in
    let tests : is_outside listed ≡ is_outside names = λ i. λ o. (ap (λ ns. is_outside ns o) is ∙ is_outside-same (distinct names) names o (λ q. is_among-distinct q names)) i in
    e ∙ ap (λ test. list_any (λ c. test (option_map (λ s. s.now) c.superclass)) cs) tests ∙ sym (list_any-map (λ (c : ClassForm). is_outside names c.superclass) class_view cs)
