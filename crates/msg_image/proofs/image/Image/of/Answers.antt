use Rattle.std.proofs.Common.{vec_len, ◌≡◌, ℕ, List, [], ◌∷◌, map, length, refl, sym, ap, ◌∙◌, subst, arith}
use Rattle.std.specs.Prelude.{string_bytes}
use Rattle.std.proofs.lemmas.List.{length-map}
use Rattle.msg_form.specs.Text.{Text, distinct}
use Rattle.msg_form.specs.Views.{form_view}
use Rattle.msg_tables.specs.Origin as origin
use Rattle.msg_image.specs.Document.{image_of}
use Rattle.msg_image.specs.Opened.{origin_of}
use Rattle.msg_image.specs.Parts.{ImageParts, ClassParts, ImpParts}
use Rattle.msg_image.specs.Plain.{imp_parts, object_parts}
use Rattle.msg_image.specs.Sound.{IsSound}
use Rattle.msg_image.specs.declared.image.Classes.{Classes}
use Rattle.msg_image.specs.declared.image.Imp.{Imp}
use Rattle.msg_image.specs.declared.image.Members.{Members}
use Rattle.msg_image.proofs.ImageLemmas.{Pieces, made, opened-is, opened-image, shown-image, sound}
use Rattle.msg_image.proofs.OpenedLemmas.{origin-sound}
use Rattle.msg_image.proofs.image.Image.of.Goals as goal

abbrev pieces : Classes → Members → List Text → Pieces
pieces k m selectors = record {
  selectors = selectors;
  names = map string_bytes k.names.items;
  listed = k.listed.items;
  may = map string_bytes k.made.items;
  categories = m.categories.items;
  objects = map object_parts m.objects.items;
  imps = map imp_parts m.imps.items;
}

may-count : (k : Classes) (n : ℕ) → n ≡ vec_len k.made → n ≡ length (map string_bytes k.made.items)
may-count k n is = let count = length-map k.made.items string_bytes in omega (arith, is, count, k.made.ok.0)

args-seen : (imps : List Imp) → map (λ (m : Imp). m.args) imps ≡ map (λ (m : ImpParts). m.args) (map imp_parts imps)
args-seen [] = refl
args-seen (i ∷ is) = ap (λ ns. i.args ∷ ns) (args-seen is)

pub overflow_cast-made : goal.overflow_cast-made
overflow_cast-made c =
    let image = image_of (form_view c.args.form.now) in
    let p = pieces c.in_ok-classes.classes c.in_ok-members.members c.in_ok-selectors.selectors in
    let is = made c.args.names.now c.args.form.now (pieces c.in_ok-classes.classes c.in_ok-members.members c.in_ok-selectors.selectors) c.requires.fault c.requires.names (record {
      selectors = c.in_ok-selectors.ensures ∙ ap distinct c.as_slice.ensures;
      names = c.in_ok-classes.ensures.names;
      listed = c.in_ok-classes.ensures.listed;
      may = c.in_ok-classes.ensures.made;
      categories = c.in_ok-members.ensures.categories;
      objects = c.in_ok-members.ensures.objects;
      imps = c.in_ok-members.ensures.imps;
    }) in
    let count : c.len-made.result ≡ length image.made = may-count c.in_ok-classes.classes c.len-made.result c.len-made.ensures ∙ ap (λ (q : Pieces). length q.may) is in
    let few = (sound c.args.form.now c.requires.fault).few_classes in
    omega (arith, count, few)

pub new-origin-requires : goal.new-origin-requires
new-origin-requires c =
    let image = image_of (form_view c.args.form.now) in
    let p = pieces c.in_ok-classes.classes c.in_ok-members.members c.in_ok-selectors.selectors in
    let is = made c.args.names.now c.args.form.now (pieces c.in_ok-classes.classes c.in_ok-members.members c.in_ok-selectors.selectors) c.requires.fault c.requires.names (record {
      selectors = c.in_ok-selectors.ensures ∙ ap distinct c.as_slice.ensures;
      names = c.in_ok-classes.ensures.names;
      listed = c.in_ok-classes.ensures.listed;
      may = c.in_ok-classes.ensures.made;
      categories = c.in_ok-members.ensures.categories;
      objects = c.in_ok-members.ensures.objects;
      imps = c.in_ok-members.ensures.imps;
    }) in
    let from = opened-is p c.len-made.result c.in_ok-counts.counts c.limits.result (may-count c.in_ok-classes.classes c.len-made.result c.len-made.ensures) c.in_ok-counts.ensures.colons
    (c.in_ok-counts.ensures.args ∙ ap (map (λ (m : Imp). m.args)) c.deref.ensures.value ∙ args-seen c.in_ok-members.members.imps.items) c.limits.ensures ∙ opened-image image p is in
    subst origin.IsSound (sym from) (origin-sound image (sound c.args.form.now c.requires.fault))

pub invariant_of-result : goal.invariant_of-result
invariant_of-result c =
    let image = image_of (form_view c.args.form.now) in
    let p = pieces c.in_ok-classes.classes c.in_ok-members.members c.in_ok-selectors.selectors in
    let is = made c.args.names.now c.args.form.now (pieces c.in_ok-classes.classes c.in_ok-members.members c.in_ok-selectors.selectors) c.requires.fault c.requires.names (record {
      selectors = c.in_ok-selectors.ensures ∙ ap distinct c.as_slice.ensures;
      names = c.in_ok-classes.ensures.names;
      listed = c.in_ok-classes.ensures.listed;
      may = c.in_ok-classes.ensures.made;
      categories = c.in_ok-members.ensures.categories;
      objects = c.in_ok-members.ensures.objects;
      imps = c.in_ok-members.ensures.imps;
    }) in
    let from : c.new-origin.result ≡ origin_of image = c.new-origin.ensures ∙ opened-is p c.len-made.result c.in_ok-counts.counts c.limits.result (may-count c.in_ok-classes.classes c.len-made.result c.len-made.ensures) c.in_ok-counts.ensures.colons
    (c.in_ok-counts.ensures.args ∙ ap (map (λ (m : Imp). m.args)) c.deref.ensures.value ∙ args-seen c.in_ok-members.members.imps.items) c.limits.ensures ∙ opened-image image p is in
    let whole = shown-image image p c.new-origin.result is from in
    record {
      sound = subst IsSound (sym whole) (sound c.args.form.now c.requires.fault);
      listed = ap (λ (q : Pieces). q.names) is ∙ ap (λ (i : ImageParts). map (λ (k : ClassParts). k.name) i.classes) (sym whole);
      origin = from ∙ ap origin_of (sym whole);
    }

pub returns : goal.returns
returns c =
    let image = image_of (form_view c.args.form.now) in
    let p = pieces c.in_ok-classes.classes c.in_ok-members.members c.in_ok-selectors.selectors in
    let is = made c.args.names.now c.args.form.now (pieces c.in_ok-classes.classes c.in_ok-members.members c.in_ok-selectors.selectors) c.requires.fault c.requires.names (record {
      selectors = c.in_ok-selectors.ensures ∙ ap distinct c.as_slice.ensures;
      names = c.in_ok-classes.ensures.names;
      listed = c.in_ok-classes.ensures.listed;
      may = c.in_ok-classes.ensures.made;
      categories = c.in_ok-members.ensures.categories;
      objects = c.in_ok-members.ensures.objects;
      imps = c.in_ok-members.ensures.imps;
    }) in
    let from : c.new-origin.result ≡ origin_of image = c.new-origin.ensures ∙ opened-is p c.len-made.result c.in_ok-counts.counts c.limits.result (may-count c.in_ok-classes.classes c.len-made.result c.len-made.ensures) c.in_ok-counts.ensures.colons
    (c.in_ok-counts.ensures.args ∙ ap (map (λ (m : Imp). m.args)) c.deref.ensures.value ∙ args-seen c.in_ok-members.members.imps.items) c.limits.ensures ∙ opened-image image p is in
    shown-image image p c.new-origin.result is from
