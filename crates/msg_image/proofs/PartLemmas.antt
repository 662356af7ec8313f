-- Parts of an image that were read.
use Rattle.std.proofs.Common.{vec_len, ◌≡◌, ◌<◌, ◌≤◌, ◌+◌, ◌-◌, ◌*◌, ◌++◌, ◌∷◌, [], zero, suc, String, Global, ℕ, Bool, true, false, cond, List, length, map, get_or, Option, Some, None, option_map, slice_get, refl, sym, ap, ◌∙◌, subst, arith}
use Rattle.std.specs.Prelude.{All, IfSome, string_bytes}
use Rattle.std.proofs.lemmas.List.{length-map}
use Rattle.std.proofs.lemmas.Option.{slice_get-map, slice_get_read, slice_get_within, get_or_from_slice_get, same_Some}
use Rattle.msg_names.specs.declared.value.ClassRef.{ClassRef}
use Rattle.msg_image.specs.declared.image.Image.TheInside.{Inside}
use Rattle.msg_image.specs.declared.image.Object.{Object}
use Rattle.msg_image.specs.declared.image.Imp.{Imp}
use Rattle.msg_names.specs.ClassRef.{above}
use Rattle.std.specs.Option.{option_map_or}
use Rattle.msg_order.specs.Superclasses.{super_of, AreListed, depth_of, has_cycle}
use Rattle.msg_order.proofs.DepthLemmas.{depth-root, depth-step, depth-fewer}
use Rattle.msg_image.specs.Parts.{class_total, class_names, ImageParts, ClassParts, ObjectParts, superclass_in, superclasses, depth_in, methods_in, methods_of}
use Rattle.msg_image.specs.Plain.{object_parts, imp_parts, image_parts}
use Rattle.msg_image.specs.Inside.{IsKept}
use Rattle.msg_image.specs.Opened.{origin_of}
use Rattle.msg_image.specs.Sound.{IsSound, IsSoundClass, IsSoundImp, AreListed as Listed}
use Rattle.msg_tables.specs.Attached.{category_lists}
use Rattle.msg_tables.specs.Methods.{MethodsOf}
use Rattle.msg_tables.specs.Origin.{OriginView}
use Rattle.msg_tables.proofs.TakeLemmas.{element}
use Rattle.msg_image.proofs.KeptLemmas.{list-at, length-lists}

-- what was read is what is seen at that place
pub seen : {A B : Type 0} (view : A → B) (xs : List A) (parts : List B) (i : ℕ) (x : A) → map view xs ≡ parts → i < length parts → x ≡ get_or xs i x → slice_get parts i ≡ Some (view x)
seen view xs parts i x is in_range read =
    let i_in : i < length xs = omega (arith, ap length is, length-map xs view) in
    ap (λ ps. slice_get ps i) (sym is) ∙ slice_get-map view xs i ∙ ap (option_map view) (slice_get_read xs (length xs) i x refl i_in read)

-- what holds of all holds of the one at a place
pub All-at : {A : Type 0} (P : A → Type 0) (xs : List A) (i : ℕ) (x : A) → All P xs → slice_get xs i ≡ Some x → P x
All-at P xs i x all at = subst P (get_or_from_slice_get xs i x x at) (all i x (slice_get_within xs i x at))

pub superclass_in-at : (image : ImageParts) (c : ClassRef) (k : ClassParts) (o : Option ℕ) → slice_get image.classes c.class ≡ Some k → k.superclass ≡ o → superclass_in image c ≡ above c o
superclass_in-at image c k o at is = rw (at, is) refl

-- the name of a listed class, and of one that may be made
names-listed : (cs : List ClassParts) (made : List (List ℕ)) (k : ℕ) (c : ClassParts) → slice_get cs k ≡ Some c → slice_get (map (λ (d : ClassParts). d.name) cs ++ made) k ≡ Some c.name
names-listed [] made k c at = cc
names-listed (d ∷ cs) made zero c at = ap Some (ap (λ (e : ClassParts). e.name) (same_Some d c at))
names-listed (d ∷ cs) made (suc k) c at = names-listed cs made k c at

names-made : (cs : List ClassParts) (made : List (List ℕ)) (k : ℕ) (name : List ℕ) → length cs ≤ k → slice_get made (k - length cs) ≡ Some name → slice_get (map (λ (d : ClassParts). d.name) cs ++ made) k ≡ Some name
names-made [] made k name past at = let same : k - 0 ≡ k = omega arith in subst (λ j. slice_get made j ≡ Some name) same at
names-made (d ∷ cs) made zero name past at = absurd (omega (arith, past))
names-made (d ∷ cs) made (suc k) name past at =
    let same : suc k - length (d ∷ cs) ≡ k - length cs = omega arith in
    names-made cs made k name (omega (arith, past)) (subst (λ j. slice_get made j ≡ Some name) same at)

-- the superclass of a class that was read
pub super_at : (supers : List (Option ℕ)) (k : ℕ) (d : Option ℕ) → slice_get supers k ≡ Some d → super_of supers k ≡ d
super_at [] k d at = cc
super_at (o ∷ os) zero d at = same_Some o d at
super_at (o ∷ os) (suc k) d at = super_at os k d at

-- going up to it: it is listed, one less deep, and the class isn't so deep that a number of 32 bits
-- is too small
pub record GoesUp (supers : List (Option ℕ)) (k d : ℕ) : Type 0 where
  pub listed : d < length supers
  pub deeper : depth_of supers k ≡ suc (depth_of supers d)

pub goes_up : (supers : List (Option ℕ)) (k d : ℕ) (x : Option ℕ) → AreListed supers → has_cycle supers ≡ false → k < length supers → slice_get supers k ≡ Some x → x ≡ Some d → GoesUp supers k d
goes_up supers k d x listed chains inside at e =
    let up = super_at supers k x at ∙ e in
    record { listed = listed.above k d up; deeper = depth-step supers k d chains inside up }

pub stays_below : (supers : List (Option ℕ)) (k : ℕ) → has_cycle supers ≡ false → k < length supers → depth_of supers k < length supers
stays_below supers k chains inside = depth-fewer supers k chains inside

pub at_root : (supers : List (Option ℕ)) (k : ℕ) (x : Option ℕ) → slice_get supers k ≡ Some x → x ≡ None → depth_of supers k ≡ 0
at_root supers k x at e = depth-root supers k (super_at supers k x at ∙ e)

-- superclasses that are listed, as numbers among as many
supers-listed : (cs : List ClassParts) (n : ℕ) → All (λ (c : ClassParts). IfSome c.superclass (λ d. d < n)) cs → (k d : ℕ) → super_of (map (λ (c : ClassParts). c.superclass) cs) k ≡ Some d → d < n
supers-listed [] n all k d e = cc
supers-listed (c ∷ cs) n all zero d e = at c.superclass (all 0 c (omega arith)) e
  where
    at : (o : Option ℕ) → IfSome o (λ x. x < n) → o ≡ Some d → d < n
    at None h e = cc
    at (Some x) h e = let same = same_Some x d e in omega (arith, h, same)
supers-listed (c ∷ cs) n all (suc k) d e = supers-listed cs n (λ j x inside. all (suc j) x (omega (arith, inside))) k d e

pub classes-listed : (image : ImageParts) → IsSound image → AreListed (superclasses image)
classes-listed image sound =
    let n = length-map image.classes (λ (c : ClassParts). c.superclass) in
    record { above = λ k d e. let inside = supers-listed image.classes (length image.classes) (λ j x few. (sound.classes j x few).superclass) k d e in omega (arith, inside, n) }

-- what is above a listed class, by its superclass
pub depth-above : (image : ImageParts) (k : ℕ) → IsSound image → k < length image.classes → depth_in image k ≡ option_map_or (λ d. suc (depth_in image d)) (super_of (superclasses image) k) 0
depth-above image k sound inside = at (super_of (superclasses image) k) refl
  where
    at : (o : Option ℕ) → super_of (superclasses image) k ≡ o → depth_in image k ≡ option_map_or (λ d. suc (depth_in image d)) o 0
    at None e = depth-root (superclasses image) k e
    at (Some d) e = let n = length-map image.classes (λ (c : ClassParts). c.superclass) in depth-step (superclasses image) k d sound.chains (omega (arith, inside, n)) e

module _ (i : Inside) (image : ImageParts) (view_is : image_parts i ≡ image) (kept : IsKept i) where
  pub sound : IsSound image
  sound = subst IsSound view_is kept.sound

  -- the names that are kept are the listed classes'
  pub names_seen : map string_bytes i.listed.items ≡ map (λ (c : ClassParts). c.name) image.classes
  names_seen = kept.listed ∙ ap (λ (p : ImageParts). map (λ (c : ClassParts). c.name) p.classes) view_is

  -- how many are listed, and how many may be made
  pub count_seen : vec_len i.listed ≡ length image.classes
  count_seen = omega (arith, i.listed.ok.0, length-map i.listed.items string_bytes, ap length names_seen, length-map image.classes (λ (c : ClassParts). c.name))

  pub made_seen : vec_len i.made ≡ length image.made
  made_seen = omega (arith, i.made.ok.0, length-map i.made.items string_bytes, ap (λ (p : ImageParts). length p.made) view_is)

  -- what tables are opened of
  pub origin_seen : i.origin ≡ origin_of image
  origin_seen = kept.origin ∙ ap origin_of view_is

  pub name_listed : (k : ℕ) (x : String Global) → k < length image.classes → x ≡ get_or i.listed.items k x → slice_get (class_names image) k ≡ Some (string_bytes x)
  name_listed k x in_range read =
      let (c, at) = element image.classes k in_range in
      let names = map (λ (d : ClassParts). d.name) image.classes in
      let count = length-map image.classes (λ (d : ClassParts). d.name) in
      let here = seen string_bytes i.listed.items names k x names_seen (omega (arith, count, in_range)) read in
      names-listed image.classes image.made k c at ∙ sym (slice_get-map (λ (d : ClassParts). d.name) image.classes k ∙ ap (option_map (λ (d : ClassParts). d.name)) at) ∙ here

  pub name_made : (k : ℕ) (x : String Global) → length image.classes ≤ k → k < class_total image → x ≡ get_or i.made.items (k - length image.classes) x → slice_get (class_names image) k ≡ Some (string_bytes x)
  name_made k x past in_range read =
      names-made image.classes image.made k (string_bytes x) past
      (seen string_bytes i.made.items image.made (k - length image.classes) x (ap (λ p. p.made) view_is) (omega (arith, past, in_range)) read)

  -- a superclass is listed
  pub superclass_listed : (k : ℕ) (d : Option ℕ) → k < length image.classes → slice_get i.origin.superclasses k ≡ Some d → IfSome d (λ e. e < length image.classes)
  superclass_listed k d inside at =
      let (c, here) = element image.classes k inside in
      let is : c.superclass ≡ d =
      same_Some c.superclass d (sym (slice_get-map (λ (e : ClassParts). e.superclass) image.classes k ∙ ap (option_map (λ (e : ClassParts). e.superclass)) here) ∙ ap (λ (o : OriginView). slice_get o.superclasses k) (sym origin_seen) ∙ at) in
      subst (λ o. IfSome o (λ e. e < length image.classes)) is (All-at (IsSoundClass image) image.classes k c sound.classes here).superclass

  -- a listed class has its lists
  pub lists_enough : (k : ℕ) → k < length image.classes → 2 * k < length i.origin.lists
  lists_enough k inside =
      let many = length-lists 0 image.classes (category_lists image.categories) in
      omega (arith, many, inside, ap (λ (o : OriginView). length o.lists) origin_seen)

  -- the methods of a class reference that is listed
  pub methods_seen : (c : ClassRef) (l : MethodsOf) → c.class < length image.classes → slice_get i.origin.lists (2 * c.class + cond c.meta 1 0) ≡ Some l → (l.methods ≡ methods_in image c) × Listed image l.methods
  methods_seen c l inside at =
      let (k, here) = element image.classes c.class inside in
      let lists = ap (λ (o : OriginView). o.lists) origin_seen in
      let read = list-at 0 image.classes (category_lists image.categories) c.class c.meta k here in
      let is : cond c.meta k.class_methods k.methods ≡ l.methods =
      ap (λ (m : MethodsOf). m.methods) (same_Some _ l (sym read ∙ ap (λ ls. slice_get ls (2 * c.class + cond c.meta 1 0)) (sym lists) ∙ at)) in
      let whole = All-at (IsSoundClass image) image.classes c.class k sound.classes here in
      (sym is ∙ sym (ap (λ o. option_map_or (methods_of c) o []) here), subst (Listed image) is (either c.meta k.class_methods k.methods whole.class_methods whole.methods))
    where
      either : (m : Bool) (a b : List (ℕ × ℕ)) → Listed image a → Listed image b → Listed image (cond m a b)
      either true a b ha hb = ha
      either false a b ha hb = hb

  pub object_sound : (k : ℕ) (x : Object) → k < length image.objects → x ≡ get_or i.objects.items k x → x.class < class_total image
  object_sound k x in_range read =
      All-at (λ (o : ObjectParts). o.class < class_total image) image.objects k (object_parts x) sound.objects (seen object_parts i.objects.items image.objects k x (ap (λ p. p.objects) view_is) in_range read)

  pub imp_sound : (k : ℕ) (x : Imp) → k < length image.imps → x ≡ get_or i.imps.items k x → IsSoundImp image (imp_parts x)
  imp_sound k x in_range read =
      All-at (IsSoundImp image) image.imps k (imp_parts x) sound.imps (seen imp_parts i.imps.items image.imps k x (ap (λ p. p.imps) view_is) in_range read)
