-- One more class in an order in which those below a class come right after it.
use Rattle.std.proofs.Common.{◌≡◌, ◌≢◌, ◌<◌, ◌+◌, ◌++◌, ◌⊎◌, inl, inr, ℕ, zero, suc, List, [], ◌∷◌, length, Option, Some, None, Bool, true, false, cond, replicate, take, slice_get, refl, sym, ap, ◌∙◌, subst, arith}
use Rattle.std.specs.Prelude.{◌==◌, ◌||◌, is_some, slice_set, IfSome}
use Rattle.std.specs.Option.{option_map_or}
use Rattle.std.proofs.lemmas.Bool.{true≢false, or_cases, false_from_ne_true, cases_Bool}
use Rattle.std.proofs.lemmas.List.{length-set, length-replicate, get_or-set_same, get_or-set_other}
use Rattle.std.proofs.lemmas.List.Folds.{list_any-append}
use Rattle.std.proofs.lemmas.Option.{slice_get_within}
use Rattle.std.proofs.Math.Seq.{take-length}
use Rattle.msg_names.proofs.TestLemmas.{same_number, other_number}
use Rattle.msg_names.proofs.ClassRefLemmas.{same_class-is}
use Rattle.msg_names.specs.declared.value.ClassRef.{ClassRef}
use Rattle.msg_names.specs.ClassRef.{above, same_class}
use Rattle.msg_tables.specs.declared.presence.Presence.{Presence}
use Rattle.msg_tables.specs.After.{of_class}
use Rattle.msg_tables.specs.Chain.{presence_of, is_present, super_of, steps_of, is_member, descends}
use Rattle.msg_tables.specs.Order.{IsOrder, present_count}
use Rattle.msg_tables.specs.Preorder.{is_in, first_depth, AreFollowed, next_in, depth_at, next_at, IsPreorder, HavePreorder, depths_with, nexts_with}
use Rattle.msg_tables.proofs.DescentLemmas.{descends-step, up, itself}
use Rattle.msg_tables.proofs.OrderLemmas.{count-le, present-inside, super-is, super-fewer}
use Rattle.msg_tables.proofs.OnceLemmas.{in-take, once, take-in}
use Rattle.msg_tables.proofs.MadeLemmas.{made-order, present_count-made}
use Rattle.msg_tables.proofs.PresenceLemmas.{chain_of-stays}
use Rattle.msg_tables.proofs.TakeLemmas.{take-next}
use Rattle.msg_tables.proofs.PreorderLemmas.{in-order, first-in, later-in, apart-in, unlike, placed, placed-in, placed-length, placed-first, first-same, preorder-grown, preorder-placed, followed-new, next-same, linked-same, linked-placed}

-- a root class before all others, and another right after its superclass
abbrev pub placed_with : List ℕ → ℕ → Option ℕ → List ℕ
placed_with ks k None = k ∷ ks
placed_with ks k (Some d) = placed d k ks

-- a class that is in no chain of the others
pub out-of-chains : (supers : List (Option Presence)) (order : List ℕ) → IsOrder supers order → (ks : List ℕ) (k : ℕ) → is_in k ks ≡ false
    → ((j e : ℕ) (p : Presence) → is_in j ks ≡ true → presence_of supers j ≡ Some p → p.superclass ≡ Some e → is_in e ks ≡ true)
    → (j : ℕ) → is_in j ks ≡ true → descends supers (of_class k) (of_class j) ≡ false
out-of-chains supers order before ks k fresh closed j there = false_from_ne_true (descends supers (of_class k) (of_class j)) (walk (suc (steps_of order (of_class j))) j (omega arith) there)
  where
    walk : (n j : ℕ) → steps_of order (of_class j) < n → is_in j ks ≡ true → descends supers (of_class k) (of_class j) ≡ true → ⊥
    walk zero j less there down = absurd (omega (arith, less))
    walk (suc n) j less there down = at (up supers order (of_class k) (of_class j) before down) (walk n)
      where
        further : (d : ClassRef) → ((p : Presence) × (presence_of supers j ≡ Some p) × (p.superclass ≡ Some d.class) × (d.meta ≡ false)) ⊎ ((d ≡ of_class j) × (false ≡ true) × (is_present supers j ≡ true))
            → steps_of order d < steps_of order (of_class j) → descends supers (of_class k) d ≡ true → ((i : ℕ) → steps_of order (of_class i) < n → is_in i ks ≡ true → descends supers (of_class k) (of_class i) ≡ true → ⊥) → ⊥
        further d (inl (p, here, upward, m)) fewer down rest =
            let same : d ≡ of_class d.class = λ i. record { class = d.class; meta = m i } in
            let fewer' : steps_of order (of_class d.class) < steps_of order (of_class j) = subst (λ z. steps_of order z < steps_of order (of_class j)) same fewer in
            rest d.class (omega (arith, fewer', less)) (closed j d.class p there here upward) (subst (λ z. descends supers (of_class k) z ≡ true) same down)
        further d (inr (same, clash, here)) fewer down rest = cc

        at : (same_class (of_class k) (of_class j) ≡ true) ⊎ ((d : ClassRef) × (super_of supers (of_class j) ≡ Some d) × (descends supers (of_class k) d ≡ true))
            → ((i : ℕ) → steps_of order (of_class i) < n → is_in i ks ≡ true → descends supers (of_class k) (of_class i) ≡ true → ⊥) → ⊥
        at (inl e) rest = apart-in j k ks there fresh (sym (ap (λ (c : ClassRef). c.class) (same_class-is (of_class k) (of_class j) e)))
        at (inr (d, e, down)) rest = further d (super-is supers (of_class j) d e) (super-fewer supers order before (of_class j) d e) down rest

-- A class is placed.
module _ (supers : List (Option Presence)) (order : List ℕ) (before : IsOrder supers order) (depths : List ℕ) (nexts : List (Option ℕ)) (ks : List ℕ) (k : ℕ)
    (is : IsPreorder supers depths nexts ks)
    (present : (j : ℕ) → is_in j ks ≡ true → is_present supers j ≡ true)
    (closed : (j e : ℕ) (p : Presence) → is_in j ks ≡ true → presence_of supers j ≡ Some p → p.superclass ≡ Some e → is_in e ks ≡ true)
    (fresh : is_in k ks ≡ false)
    (depth_room : length depths ≡ length supers) (next_room : length nexts ≡ length supers) where
  leaf : (j : ℕ) → is_in j ks ≡ true → descends supers (of_class k) (of_class j) ≡ false
  leaf = out-of-chains supers order before ks k fresh closed

  other : (j : ℕ) → is_in j ks ≡ true → j ≢ k
  other j e = apart-in j k ks e fresh

  -- what a class descends from
  from : (o : Option ℕ) → presence_of supers k ≡ Some (record { superclass = o }) → (x : ℕ) → x ≢ k → descends supers (of_class x) (of_class k) ≡ option_map_or (λ d. descends supers (of_class x) (of_class d)) o false
  from o here x ne =
      descends-step supers order (of_class x) (of_class k) before (ap is_some here)
      ∙ ap (λ q. same_class (of_class x) (of_class k) || option_map_or (descends supers (of_class x)) (option_map_or (λ (p : Presence). above (of_class k) p.superclass) q None) false) here
      ∙ at o
    where
      apart : same_class (of_class x) (of_class k) ≡ false
      apart = false_from_ne_true (same_class (of_class x) (of_class k)) (λ e. ne (ap (λ (c : ClassRef). c.class) (same_class-is (of_class x) (of_class k) e)))

      at : (o : Option ℕ) → (same_class (of_class x) (of_class k) || option_map_or (descends supers (of_class x)) (above (of_class k) o) false) ≡ option_map_or (λ d. descends supers (of_class x) (of_class d)) o false
      at None = ap (λ b. b || false) apart
      at (Some d) = ap (λ b. b || descends supers (of_class x) (of_class d)) apart

  preorder-root : presence_of supers k ≡ Some (record { superclass = None }) → k < length supers → IsPreorder supers (slice_set depths k 0) (slice_set nexts k None) (k ∷ ks)
  preorder-root here inside = record {
    followed = (
      followed-new supers (depth_at depths) depth' ks (k ∷ ks) k grown fresh same ks fresh (omega (arith, first', is.root)) own leaf,
      preorder-grown supers (depth_at depths) depth' ks (k ∷ ks) k grown fresh same ks is.followed (λ j e. e) (λ j e. from None here j (other j e)),
    );
    linked = (
      get_or-set_same nexts k None None (omega (arith, inside, next_room)) ∙ sym (next-same (depth_at depths) depth' (next_at nexts) next' ks same ∙ none ks is.root),
      linked-same (depth_at depths) depth' (next_at nexts) next' ks same (λ j e. get_or-set_other nexts k j None None (other j e)) is.linked,
    );
    root = deep;
    shallow = λ j e. at j (or_cases (k == j) (is_in j ks) e);
  }
    where
      depth' : ℕ → ℕ
      depth' = depth_at (slice_set depths k 0)

      next' : ℕ → Option ℕ
      next' = next_at (slice_set nexts k None)

      same : (j : ℕ) → is_in j ks ≡ true → depth_at (slice_set depths k 0) j ≡ depth_at depths j
      same j e = get_or-set_other depths k j 0 0 (other j e)

      deep : depth_at (slice_set depths k 0) k ≡ 0
      deep = get_or-set_same depths k 0 0 (omega (arith, inside, depth_room))

      first' : first_depth (depth_at (slice_set depths k 0)) ks ≡ first_depth (depth_at depths) ks
      first' = first-same (depth_at (slice_set depths k 0)) (depth_at depths) ks same

      own : descends supers (of_class k) (of_class k) ≡ true
      own = itself supers order before (of_class k) (ap is_some here)

      grown : (j : ℕ) → is_in j (k ∷ ks) ≡ true → (is_in j ks ≡ true) ⊎ (j ≡ k)
      grown j e = pick (or_cases (k == j) (is_in j ks) e)
        where
          pick : ((k == j) ≡ true) ⊎ (is_in j ks ≡ true) → (is_in j ks ≡ true) ⊎ (j ≡ k)
          pick (inl h) = inr (sym (same_number k j h))
          pick (inr h) = inl h

      none : (js : List ℕ) → first_depth (depth_at depths) js ≡ 0 → next_in (depth_at depths) js ≡ None
      none [] e = refl
      none (j ∷ js) e = ap (λ d. cond (d == 0) None (Some j)) e

      at : (j : ℕ) → ((k == j) ≡ true) ⊎ (is_in j ks ≡ true) → depth_at (slice_set depths k 0) j < length (k ∷ ks)
      at j (inl h) = let zero' : depth_at (slice_set depths k 0) j ≡ 0 = subst (λ z. depth_at (slice_set depths k 0) z ≡ 0) (same_number k j h) deep in omega (arith, zero')
      at j (inr h) = let kept = same j h in let few = is.shallow j h in omega (arith, kept, few)

  preorder-below : (d : ℕ) → presence_of supers k ≡ Some (record { superclass = Some d }) → k < length supers → is_in d ks ≡ true
      → IsPreorder supers (slice_set depths k (suc (depth_at depths d))) (slice_set (slice_set nexts k (next_at nexts d)) d (Some k)) (placed d k ks)
  preorder-below d here inside above' = record {
    followed = preorder-placed supers (depth_at depths) depth' ks (placed d k ks) k grown fresh same d above' deep (itself supers order before (of_class d) (present d above')) (itself supers order before (of_class k) (ap is_some here)) leaf
        (λ x e. from (Some d) here x (other x e)) ks is.followed (λ j e. e);
    linked = linked-placed (depth_at depths) depth' (next_at nexts) next' supers ks d k ks is.followed same
        (λ j e ne. get_or-set_other (slice_set nexts k (next_at nexts d)) d j (Some k) None ne ∙ get_or-set_other nexts k j (next_at nexts d) None (other j e))
        (get_or-set_same (slice_set nexts k (next_at nexts d)) d (Some k) None (omega (arith, length-set nexts k (next_at nexts d), next_room, inside-d)))
        (get_or-set_other (slice_set nexts k (next_at nexts d)) d k (Some k) None (λ e. other d above' (sym e)) ∙ get_or-set_same nexts k (next_at nexts d) None (omega (arith, inside, next_room)))
        (unlike (depth_at (slice_set depths k (suc (depth_at depths d))) k) 0 (λ e. absurd (omega (arith, deep, e)))) is.linked;
    root = placed-first depth' d k ks ∙ first-same depth' (depth_at depths) ks same ∙ is.root;
    shallow = λ j e. at j (grown j e);
  }
    where
      depth' : ℕ → ℕ
      depth' = depth_at (slice_set depths k (suc (depth_at depths d)))

      next' : ℕ → Option ℕ
      next' = next_at (slice_set (slice_set nexts k (next_at nexts d)) d (Some k))

      inside-d : d < length supers
      inside-d = present-inside supers d (present d above')

      same : (j : ℕ) → is_in j ks ≡ true → depth_at (slice_set depths k (suc (depth_at depths d))) j ≡ depth_at depths j
      same j e = get_or-set_other depths k j (suc (depth_at depths d)) 0 (other j e)

      deep : depth_at (slice_set depths k (suc (depth_at depths d))) k ≡ suc (depth_at depths d)
      deep = get_or-set_same depths k (suc (depth_at depths d)) 0 (omega (arith, inside, depth_room))

      grown : (j : ℕ) → is_in j (placed d k ks) ≡ true → (is_in j ks ≡ true) ⊎ (j ≡ k)
      grown j e = pick (or_cases (is_in j ks) (cond (is_in d ks) (k == j) false) (sym (placed-in d k j ks) ∙ e))
        where
          pick : (is_in j ks ≡ true) ⊎ (cond (is_in d ks) (k == j) false ≡ true) → (is_in j ks ≡ true) ⊎ (j ≡ k)
          pick (inl h) = inl h
          pick (inr h) = inr (sym (same_number k j (sym (ap (λ b. cond b (k == j) false) above') ∙ h)))

      count : length (placed d k ks) ≡ suc (length ks)
      count = placed-length d k ks above'

      at : (j : ℕ) → (is_in j ks ≡ true) ⊎ (j ≡ k) → depth_at (slice_set depths k (suc (depth_at depths d))) j < length (placed d k ks)
      at j (inl h) = let kept = same j h in let few = is.shallow j h in omega (arith, kept, few, count)
      at j (inr h) =
          let deep' : depth_at (slice_set depths k (suc (depth_at depths d))) j ≡ suc (depth_at depths d) = subst (λ z. depth_at (slice_set depths k (suc (depth_at depths d))) z ≡ suc (depth_at depths d)) (sym h) deep in
          let few = is.shallow d above' in
          omega (arith, deep', few, count)

  pub preorder-with : (o : Option ℕ) → presence_of supers k ≡ Some (record { superclass = o }) → k < length supers → IfSome o (λ d. is_in d ks ≡ true) → IsPreorder supers (depths_with depths k o) (nexts_with nexts k o) (placed_with ks k o)
  preorder-with None here inside above' = preorder-root here inside
  preorder-with (Some d) here inside above' = preorder-below d here inside above'

-- the classes that are there afterwards, and their number
pub placed_with-in : (ks : List ℕ) (k : ℕ) (o : Option ℕ) → IfSome o (λ d. is_in d ks ≡ true) → (j : ℕ) → is_in j (placed_with ks k o) ≡ ((k == j) || is_in j ks)
placed_with-in ks k None up j = refl
placed_with-in ks k (Some d) up j = placed-in d k j ks ∙ ap (λ b. is_in j ks || cond b (k == j) false) up ∙ swap (is_in j ks) (k == j)
  where
    swap : (a b : Bool) → (a || b) ≡ (b || a)
    swap true true = refl
    swap true false = refl
    swap false true = refl
    swap false false = refl

pub placed_with-length : (ks : List ℕ) (k : ℕ) (o : Option ℕ) → IfSome o (λ d. is_in d ks ≡ true) → length (placed_with ks k o) ≡ suc (length ks)
placed_with-length ks k None up = refl
placed_with-length ks k (Some d) up = placed-length d k ks up

pub length-depths_with : (depths : List ℕ) (k : ℕ) (o : Option ℕ) → length (depths_with depths k o) ≡ length depths
length-depths_with depths k None = length-set depths k 0
length-depths_with depths k (Some d) = length-set depths k (suc (depth_at depths d))

pub length-nexts_with : (nexts : List (Option ℕ)) (k : ℕ) (o : Option ℕ) → length (nexts_with nexts k o) ≡ length nexts
length-nexts_with nexts k None = length-set nexts k None
length-nexts_with nexts k (Some d) = length-set (slice_set nexts k (next_at nexts d)) d (Some k) ∙ length-set nexts k (next_at nexts d)

-- ---- the classes of an order, one by one

-- of the classes before a place of an order
pub record PlacedTo (supers : List (Option Presence)) (order : List ℕ) (depths : List ℕ) (nexts : List (Option ℕ)) (place : ℕ) : Type 0 where
  pub classes : List ℕ
  pub is : IsPreorder supers depths nexts classes
  pub those : (j : ℕ) → is_in j classes ≡ is_in j (take place order)
  pub count : length classes ≡ place
  pub depth_room : length depths ≡ length supers
  pub next_room : length nexts ≡ length supers

-- ---- an order's classes are placed

pub placed-begin : (supers : List (Option Presence)) (order : List ℕ) (depths : List ℕ) (nexts : List (Option ℕ)) → depths ≡ replicate (length supers) 0 → nexts ≡ replicate (length supers) None → PlacedTo supers order depths nexts 0
placed-begin supers order depths nexts d n = record {
  classes = [];
  is = record { followed = tt; linked = tt; root = refl; shallow = λ k e. cc };
  those = λ j. refl;
  count = refl;
  depth_room = ap length d ∙ length-replicate (length supers) 0;
  next_room = ap length n ∙ length-replicate (length supers) None;
}

module _ (supers : List (Option Presence)) (order : List ℕ) (before : IsOrder supers order) (depths : List ℕ) (nexts : List (Option ℕ)) (place k : ℕ) (o : Option ℕ)
    (so_far : PlacedTo supers order depths nexts place) (at-place : slice_get order place ≡ Some k) (here : presence_of supers k ≡ Some (record { superclass = o })) where
  up-in : (o : Option ℕ) → presence_of supers k ≡ Some (record { superclass = o }) → IfSome o (λ d. is_in d so_far.classes ≡ true)
  up-in None e = tt
  up-in (Some d) e =
      let stands = before.above place k d (record { superclass = Some d }) at-place e refl in
      so_far.those d ∙ in-take order stands.at place d stands.before stands.is

  -- the superclass was placed already
  pub above-ready : IfSome o (λ d. (d < length depths) × (d < length nexts) × (depth_at depths d < length supers))
  above-ready = at o (up-in o here)
    where
      at : (o : Option ℕ) → IfSome o (λ d. is_in d so_far.classes ≡ true) → IfSome o (λ d. (d < length depths) × (d < length nexts) × (depth_at depths d < length supers))
      at None e = tt
      at (Some d) e =
          let stands = take-in order place d (sym (so_far.those d) ∙ e) in
          let inside = present-inside supers d (before.present stands.at d stands.is) in
          let few = so_far.is.shallow d e in
          (omega (arith, inside, so_far.depth_room), omega (arith, inside, so_far.next_room), omega (arith, few, so_far.count, slice_get_within order place k at-place, before.count, count-le supers))

  pub placed-on : PlacedTo supers order (depths_with depths k o) (nexts_with nexts k o) (place + 1)
  placed-on = record {
    classes = placed_with so_far.classes k o;
    is = preorder-with supers order before depths nexts so_far.classes k so_far.is
        (λ j e. let stands = take-in order place j (sym (so_far.those j) ∙ e) in before.present stands.at j stands.is)
        (λ j e p there of' upward.
        let stands = take-in order place j (sym (so_far.those j) ∙ there) in
        let above' = before.above stands.at j e p stands.is of' upward in
        so_far.those e ∙ in-take order above'.at place e (omega (arith, above'.before, stands.before)) above'.is)
        (so_far.those k ∙ once supers order before place k at-place) so_far.depth_room so_far.next_room o here (present-inside supers k (ap is_some here)) (up-in o here);
    those = λ j.
        placed_with-in so_far.classes k o (up-in o here) j ∙ ap (λ b. (k == j) || b) (so_far.those j) ∙ swap (k == j) (is_in j (take place order))
        ∙ sym (ap (is_in j) (take-next order place k at-place) ∙ list_any-append (λ x. x == j) (take place order) (k ∷ []));
    count = placed_with-length so_far.classes k o (up-in o here) ∙ ap suc so_far.count ∙ omega arith;
    depth_room = length-depths_with depths k o ∙ so_far.depth_room;
    next_room = length-nexts_with nexts k o ∙ so_far.next_room;
  }
    where
      swap : (a b : Bool) → (a || b) ≡ (b || (a || false))
      swap true true = refl
      swap true false = refl
      swap false true = refl
      swap false false = refl

pub placed-end : (supers : List (Option Presence)) (order : List ℕ) (depths : List ℕ) (nexts : List (Option ℕ)) → IsOrder supers order → PlacedTo supers order depths nexts (length order) → HavePreorder supers depths nexts
placed-end supers order depths nexts before so_far = record {
  classes = so_far.classes;
  is = so_far.is;
  present = λ k. so_far.those k ∙ ap (is_in k) (take-length order) ∙ all k (is_present supers k) refl;
  count = so_far.count ∙ before.count;
  depth_room = so_far.depth_room;
  next_room = so_far.next_room;
}
  where
    all : (k : ℕ) (b : Bool) → is_present supers k ≡ b → is_in k order ≡ is_present supers k
    all k true e = let stands = before.whole k e in in-order order stands.at k stands.is ∙ sym e
    all k false e =
        false_from_ne_true (is_in k order) (λ there.
        let stands = take-in order (length order) k (ap (is_in k) (take-length order) ∙ there) in
        true≢false (sym (before.present stands.at k stands.is) ∙ e))
        ∙ sym e

-- ---- a class that is made

preorder-stays : (supers supers' : List (Option Presence)) (depth : ℕ → ℕ) (all : List ℕ) → ((x j : ℕ) → is_in x all ≡ true → is_in j all ≡ true → descends supers' (of_class x) (of_class j) ≡ descends supers (of_class x) (of_class j))
    → (ks : List ℕ) → ((j : ℕ) → is_in j ks ≡ true → is_in j all ≡ true) → AreFollowed supers depth all ks → AreFollowed supers' depth all ks
preorder-stays supers supers' depth all stays [] sub is = tt
preorder-stays supers supers' depth all stays (k ∷ ks) sub is = (
  record { below = λ j e. is.0.below j e ∙ sym (stays k j (sub k (first-in k ks)) e); once = is.0.once; step = is.0.step },
  preorder-stays supers supers' depth all stays ks (λ j e. sub j (later-in j k ks e)) is.1,
)

module _ (supers : List (Option Presence)) (order : List ℕ) (before : IsOrder supers order) (depths : List ℕ) (nexts : List (Option ℕ)) (k : ℕ) (o : Option ℕ)
    (inside : k < length supers) (absent : is_present supers k ≡ false) (up' : IfSome o (λ e. is_present supers e ≡ true)) (are : HavePreorder supers depths nexts) where
  supers' : List (Option Presence)
  supers' = slice_set supers k (Some (record { superclass = o }))

  fresh : is_in k are.classes ≡ false
  fresh = are.present k ∙ absent

  kept : (j : ℕ) → is_in j are.classes ≡ true → j ≢ k
  kept j e = apart-in j k are.classes e fresh

  presence-kept : (j : ℕ) → j ≢ k → presence_of supers' j ≡ presence_of supers j
  unfolding supers'
  presence-kept j ne = get_or-set_other supers k j (Some (record { superclass = o })) None ne

  here' : presence_of supers' k ≡ Some (record { superclass = o })
  unfolding supers'
  here' = get_or-set_same supers k (Some (record { superclass = o })) None inside

  up-placed : (o : Option ℕ) → IfSome o (λ e. is_present supers e ≡ true) → IfSome o (λ d. is_in d are.classes ≡ true)
  up-placed None e = tt
  up-placed (Some d) e = are.present d ∙ e

  -- the superclass is there
  pub made-ready : IfSome o (λ d. (d < length depths) × (d < length nexts) × (depth_at depths d < length supers))
  made-ready = at o up'
    where
      at : (o : Option ℕ) → IfSome o (λ e. is_present supers e ≡ true) → IfSome o (λ d. (d < length depths) × (d < length nexts) × (depth_at depths d < length supers))
      at None e = tt
      at (Some d) e =
          let less = present-inside supers d e in
          let few = are.is.shallow d (are.present d ∙ e) in
          (omega (arith, less, are.depth_room), omega (arith, less, are.next_room), omega (arith, few, are.count, count-le supers))

  stays : (x j : ℕ) → is_in x are.classes ≡ true → is_in j are.classes ≡ true → descends supers' (of_class x) (of_class j) ≡ descends supers (of_class x) (of_class j)
  unfolding supers' descends
  stays x j ex ej = ap (is_member (of_class x)) (chain_of-stays supers order before k (record { superclass = o }) absent (of_class j) (kept j ej))

  room' : length supers' ≡ length supers
  unfolding supers'
  room' = length-set supers k (Some (record { superclass = o }))

  closed' : (j e : ℕ) (p : Presence) → is_in j are.classes ≡ true → presence_of supers' j ≡ Some p → p.superclass ≡ Some e → is_in e are.classes ≡ true
  closed' j e p there of' upward =
      let was : presence_of supers j ≡ Some p = sym (presence-kept j (kept j there)) ∙ of' in
      let stands = before.whole j (ap is_some was) in
      let above' = before.above stands.at j e p stands.is was upward in
      are.present e ∙ before.present above'.at e above'.is

  count' : length (placed_with are.classes k o) ≡ present_count supers'
  unfolding supers'
  count' = placed_with-length are.classes k o (up-placed o up') ∙ ap suc are.count ∙ sym (present_count-made supers k (record { superclass = o }) inside absent)

  pub made-preorder : HavePreorder (slice_set supers k (Some (record { superclass = o }))) (depths_with depths k o) (nexts_with nexts k o)
  unfolding supers'
  made-preorder =
      let made = made-order supers order before k o inside absent up' in
      record {
        classes = placed_with are.classes k o;
        is = preorder-with supers' (order ++ k ∷ []) made depths nexts are.classes k
            (record {
              followed = preorder-stays supers supers' (depth_at depths) are.classes stays are.classes (λ j e. e) are.is.followed;
              linked = are.is.linked;
              root = are.is.root;
              shallow = are.is.shallow;
            })
            (λ j e. ap is_some (presence-kept j (kept j e)) ∙ sym (are.present j) ∙ e) closed' fresh (are.depth_room ∙ sym room') (are.next_room ∙ sym room') o here' (omega (arith, inside, room')) (up-placed o up');
        present = λ j. placed_with-in are.classes k o (up-placed o up') j ∙ present j (cases_Bool (k == j));
        count = count';
        depth_room = length-depths_with depths k o ∙ are.depth_room ∙ sym room';
        next_room = length-nexts_with nexts k o ∙ are.next_room ∙ sym room';
      }
    where
      present : (j : ℕ) → ((k == j) ≡ true) ⊎ ((k == j) ≡ false) → ((k == j) || is_in j are.classes) ≡ is_present supers' j
      present j (inl e) = ap (λ b. b || is_in j are.classes) e ∙ sym (ap is_some (ap (presence_of supers') (sym (same_number k j e)) ∙ here'))
      present j (inr e) = ap (λ b. b || is_in j are.classes) e ∙ are.present j ∙ sym (ap is_some (presence-kept j (λ same. other_number k j e (sym same))))
