-- A class with no class below it leaves the preorder, in which it comes right after its superclass.
use Rattle.std.proofs.Common.{◌≡◌, ◌≢◌, ◌<◌, ◌≤◌, ◌+◌, ◌++◌, ℕ, suc, List, [], ◌∷◌, length, length-append, Option, Some, None, Bool, true, false, refl, sym, ap, ◌∙◌, subst, append_assoc, arith}
use Rattle.std.specs.Prelude.{◌==◌, ◌||◌, if◌then◌else◌, is_some, nat_lt, slice_set}
use Rattle.std.proofs.lemmas.Bool.Decides.{nat_tests}
use Rattle.std.proofs.lemmas.List.{length-set, get_or-set_same, get_or-set_other}
use Rattle.std.proofs.lemmas.List.Folds.{list_any-append}
use Rattle.std.proofs.lemmas.Option.{same_Some}
use Rattle.msg_names.proofs.TestLemmas.{neither, same_number, other_number, equal}
use Rattle.msg_tables.specs.declared.presence.Presence.{Presence}
use Rattle.msg_tables.specs.After.{of_class}
use Rattle.msg_tables.specs.Chain.{chain_of, descends, has_subclass, is_member, is_present}
use Rattle.msg_tables.specs.Order.{present_count}
use Rattle.msg_tables.specs.Preorder.{AreFollowed, AreLinked, HavePreorder, IsFollowed, deeper, depth_at, first_depth, is_in, next_at, next_in}
use Rattle.msg_tables.proofs.ClassLemmas.{gone-other, gone-same}
use Rattle.msg_tables.proofs.DisposedLemmas.{present_count-gone}
use Rattle.msg_tables.proofs.OrderLemmas.{present-inside}
use Rattle.msg_tables.proofs.PresenceLemmas.{chain-apart, chain_of-gone}

-- ---- different numbers

apart : (a b : ℕ) → a ≢ b → (a == b) ≡ false
apart a b ne = step (a == b) refl
  where
    step : (t : Bool) → (a == b) ≡ t → (a == b) ≡ false
    step true e = absurd (ne (same_number a b e))
    step false e = e

turned : (a b : ℕ) → (a == b) ≡ false → (b == a) ≡ false
turned a b e = apart b a (λ same. other_number a b e (sym same))

-- ---- a list with one between two parts

in-parts : (j : ℕ) (xs ys : List ℕ) → is_in j (xs ++ ys) ≡ (is_in j xs || is_in j ys)
in-parts j xs ys = list_any-append (λ x. x == j) xs ys

in-mid : (k j : ℕ) (xs ys : List ℕ) → (k == j) ≡ false → is_in j (xs ++ ys) ≡ is_in j (xs ++ k ∷ ys)
in-mid k j [] ys other = ap (λ b. b || is_in j ys) (sym other)
in-mid k j (x ∷ xs) ys other = ap (λ b. (x == j) || b) (in-mid k j xs ys other)

module _ (depth : ℕ → ℕ) (k : ℕ) (ys : List ℕ) (flat : first_depth depth ys ≤ depth k) where
  none-deeper : (d : ℕ) → nat_lt d (depth k) ≡ false → deeper depth d ys ≡ []
  none-deeper d above = at ys flat
    where
      at : (zs : List ℕ) → first_depth depth zs ≤ depth k → deeper depth d zs ≡ []
      at [] few = refl
      at (z ∷ zs) few =
          let not : nat_lt d (depth z) ≡ false = grind (arith, nat_tests, above, few) in
          ap (λ b. if b then z ∷ deeper depth d zs else []) not

  deeper-mid : (d j : ℕ) (xs : List ℕ) → (k == j) ≡ false → is_in j (deeper depth d (xs ++ ys)) ≡ is_in j (deeper depth d (xs ++ k ∷ ys))
  deeper-mid d j [] other = step (nat_lt d (depth k)) refl
    where
      step : (b : Bool) → nat_lt d (depth k) ≡ b → is_in j (deeper depth d ys) ≡ is_in j (if b then k ∷ deeper depth d ys else [])
      step true e = ap (λ t. t || is_in j (deeper depth d ys)) (sym other)
      step false e = ap (is_in j) (none-deeper d e)
  deeper-mid d j (x ∷ xs) other = step (nat_lt d (depth x)) (deeper-mid d j xs other)
    where
      step : (b : Bool) → is_in j (deeper depth d (xs ++ ys)) ≡ is_in j (deeper depth d (xs ++ k ∷ ys)) → is_in j (if b then x ∷ deeper depth d (xs ++ ys) else []) ≡ is_in j (if b then x ∷ deeper depth d (xs ++ k ∷ ys) else [])
      step true rest = ap (λ t. (x == j) || t) rest
      step false rest = refl

  first-mid : (xs : List ℕ) → first_depth depth (xs ++ ys) ≤ first_depth depth (xs ++ k ∷ ys)
  first-mid [] = flat
  first-mid (x ∷ xs) = omega arith

-- ---- those that stay have the same classes after them

module _ (supers : List (Option Presence)) (depth : ℕ → ℕ) (k : ℕ) (leaf : has_subclass supers k ≡ false) where
  below-same : (x j : ℕ) → (k == j) ≡ false → descends (slice_set supers k None) (of_class x) (of_class j) ≡ descends supers (of_class x) (of_class j)
  unfolding descends
  below-same x j other = ap (is_member (of_class x)) (chain_of-gone supers k leaf (of_class j) (λ same. other_number k j other (sym same)))

  -- nothing is below it
  none-below : (j : ℕ) → (k == j) ≡ false → descends supers (of_class k) (of_class j) ≡ false
  unfolding descends
  none-below j other = step (is_member (of_class k) (chain_of supers (of_class j))) refl
    where
      step : (b : Bool) → is_member (of_class k) (chain_of supers (of_class j)) ≡ b → is_member (of_class k) (chain_of supers (of_class j)) ≡ false
      step true e = absurd (chain-apart supers k leaf (of_class j) (of_class k) (λ same. other_number k j other (sym same)) e refl)
      step false e = e

  module _ (all left : List ℕ) (inside : (j : ℕ) → is_in j left ≡ true → (is_in j all ≡ true) × ((k == j) ≡ false)) where
    -- a list that it isn't in
    followed-keep : (xs : List ℕ) → AreFollowed supers depth all xs → AreFollowed (slice_set supers k None) depth left xs
    followed-keep [] f = f
    followed-keep (x ∷ xs) f = (
      record {
        below = λ j there. let (among, other) = inside j there in f.0.below j among ∙ sym (below-same x j other);
        once = f.0.once;
        step = f.0.step;
      },
      followed-keep xs f.1,
    )

    module _ (ys : List ℕ) (flat : first_depth depth ys ≤ depth k) where
      followed-mid : (xs : List ℕ) → AreFollowed supers depth all (xs ++ k ∷ ys) → AreFollowed (slice_set supers k None) depth left (xs ++ ys)
      followed-mid [] f = followed-keep ys f.1
      followed-mid (x ∷ xs) f = (
        record {
          below = λ j there. let (among, other) = inside j there in ap (λ b. (x == j) || b) (deeper-mid depth k ys flat (depth x) j xs other) ∙ f.0.below j among ∙ sym (below-same x j other);
          once = in-mid k x xs ys (turned x k (mid-apart x xs f.0.once)) ∙ f.0.once;
          step = let less = first-mid depth k ys flat xs in let was = f.0.step in omega (arith, less, was);
        },
        followed-mid xs f.1,
      )
        where
          mid-apart : (x : ℕ) (xs : List ℕ) → is_in x (xs ++ k ∷ ys) ≡ false → (x == k) ≡ false
          mid-apart x [] none = turned k x (neither (k == x) (is_in x ys) none).0
          mid-apart x (z ∷ xs) none = mid-apart x xs (neither (z == x) (is_in x (xs ++ k ∷ ys)) none).1

-- ---- if each is there once

once-before : (supers : List (Option Presence)) (depth : ℕ → ℕ) (all : List ℕ) (x : ℕ) (xs ys : List ℕ) → AreFollowed supers depth all (xs ++ x ∷ ys) → is_in x xs ≡ false
once-before supers depth all x [] ys f = refl
once-before supers depth all x (z ∷ xs) ys f =
    let none = (neither (is_in z xs) (is_in z (x ∷ ys)) (sym (in-parts z xs (x ∷ ys)) ∙ f.0.once)).1 in
    let other = (neither (x == z) (is_in z ys) none).0 in
    ap (λ b. b || is_in x xs) (turned x z other) ∙ once-before supers depth all x xs ys f.1

once-after : (supers : List (Option Presence)) (depth : ℕ → ℕ) (all : List ℕ) (x : ℕ) (xs ys : List ℕ) → AreFollowed supers depth all (xs ++ x ∷ ys) → is_in x ys ≡ false
once-after supers depth all x [] ys f = f.0.once
once-after supers depth all x (z ∷ xs) ys f = once-after supers depth all x xs ys f.1

followed-at : (supers : List (Option Presence)) (depth : ℕ → ℕ) (all : List ℕ) (x : ℕ) (xs ys : List ℕ) → AreFollowed supers depth all (xs ++ x ∷ ys) → IsFollowed supers depth all x ys
followed-at supers depth all x [] ys f = f.0
followed-at supers depth all x (z ∷ xs) ys f = followed-at supers depth all x xs ys f.1

-- what comes after a class with no class below it isn't deeper
flat-after : (supers : List (Option Presence)) (depth : ℕ → ℕ) (all : List ℕ) (k : ℕ) (ys : List ℕ) → has_subclass supers k ≡ false → ((j : ℕ) → is_in j ys ≡ true → is_in j all ≡ true) → IsFollowed supers depth all k ys → first_depth depth ys ≤ depth k
flat-after supers depth all k [] leaf among f = omega arith
flat-after supers depth all k (y ∷ ys) leaf among f = step (nat_lt (depth k) (depth y)) refl
  where
    other : (k == y) ≡ false
    other = turned y k (neither (y == k) (is_in k ys) f.once).0

    below : is_in y (k ∷ deeper depth (depth k) (y ∷ ys)) ≡ false
    below = f.below y (among y (ap (λ b. b || is_in y ys) (equal y))) ∙ none-below supers depth k leaf y other

    step : (b : Bool) → nat_lt (depth k) (depth y) ≡ b → depth y ≤ depth k
    step true e =
        let here : is_in y (k ∷ y ∷ deeper depth (depth k) ys) ≡ false = sym (ap (λ b. is_in y (k ∷ (if b then y ∷ deeper depth (depth k) ys else []))) e) ∙ below in
        let mine = (neither (y == y) (is_in y (deeper depth (depth k) ys)) (neither (k == y) (is_in y (y ∷ deeper depth (depth k) ys)) here).1).0 in
        let clash : true ≡ false = sym (equal y) ∙ mine in cc
    step false e = grind (arith, nat_tests, e)

-- ---- links

module _ (depth : ℕ → ℕ) (next : ℕ → Option ℕ) (k : ℕ) (ys : List ℕ) where
  -- it comes right after its superclass d, whose next is then the one after it
  module _ (d : ℕ) (now : ℕ → Option ℕ) (mine : now d ≡ next_in depth ys) (others : (x : ℕ) → (x == d) ≡ false → now x ≡ next x) where
    linked-keep : (xs : List ℕ) → is_in d xs ≡ false → AreLinked depth next xs → AreLinked depth now xs
    linked-keep [] none l = l
    linked-keep (x ∷ xs) none l = let parts = neither (x == d) (is_in d xs) none in (others x parts.0 ∙ l.0, linked-keep xs parts.1 l.1)

    linked-mid : (xs : List ℕ) → is_in d xs ≡ false → is_in d ys ≡ false → AreLinked depth next (xs ++ d ∷ k ∷ ys) → AreLinked depth now (xs ++ d ∷ ys)
    linked-mid [] before after l = (mine, linked-keep ys after l.1.1)
    linked-mid (x ∷ xs) before after l = let parts = neither (x == d) (is_in d xs) before in (others x parts.0 ∙ l.0 ∙ same xs, linked-mid xs parts.1 after l.1)
      where
        same : (zs : List ℕ) → next_in depth (zs ++ d ∷ k ∷ ys) ≡ next_in depth (zs ++ d ∷ ys)
        same [] = refl
        same (z ∷ zs) = refl

-- ---- its place

pub record Splits (ks : List ℕ) (k : ℕ) : Type 0 where
  pub before : List ℕ
  pub after : List ℕ
  pub is : ks ≡ before ++ k ∷ after

split-at : (ks : List ℕ) (k : ℕ) → is_in k ks ≡ true → Splits ks k
split-at [] k there = cc
split-at (x ∷ xs) k there = step (x == k) refl (λ rest. split-at xs k rest)
  where
    step : (b : Bool) → (x == k) ≡ b → (is_in k xs ≡ true → Splits xs k) → Splits (x ∷ xs) k
    step true e rest = record { before = []; after = xs; is = ap (λ z. z ∷ xs) (same_number x k e) }
    step false e rest =
        let s = rest (ap (λ b. b || is_in k xs) (sym e) ∙ there) in
        record { before = x ∷ s.before; after = s.after; is = ap (λ zs. x ∷ zs) s.is }

-- no class has as great a depth as there are classes
shallow-all : (supers : List (Option Presence)) (depth : ℕ → ℕ) (all ks : List ℕ) (n k : ℕ) → AreFollowed supers depth all ks → first_depth depth ks ≤ n → is_in k ks ≡ true → depth k < n + length ks
shallow-all supers depth all [] n k f few there = cc
shallow-all supers depth all (x ∷ xs) n k f few there = step (x == k) refl (λ rest. shallow-all supers depth all xs (suc n) k f.1 (let s = f.0.step in omega (arith, s, few)) rest)
  where
    step : (b : Bool) → (x == k) ≡ b → (is_in k xs ≡ true → depth k < suc n + length xs) → depth k < n + suc (length xs)
    step true e rest = subst (λ z. depth z < n + suc (length xs)) (same_number x k e) (omega (arith, few))
    step false e rest = let less = rest (ap (λ b. b || is_in k xs) (sym e) ∙ there) in omega (arith, less)

-- ---- it leaves

module _ (supers : List (Option Presence)) (depths : List ℕ) (nexts : List (Option ℕ)) (h : HavePreorder supers depths nexts) (k d : ℕ) (here : is_present supers k ≡ true) (above : is_present supers d ≡ true) (leaf : has_subclass supers k ≡ false)
    (first : next_at nexts d ≡ Some k) where
  depth : ℕ → ℕ
  depth = depth_at depths

  at-super : Splits h.classes d
  at-super = split-at h.classes d (h.present d ∙ above)

  -- after the superclass comes the class
  record Next : Type 0 where
    after : List ℕ
    is : h.classes ≡ at-super.before ++ d ∷ k ∷ after

  linked-at : (xs ys : List ℕ) → AreLinked depth (next_at nexts) (xs ++ d ∷ ys) → next_at nexts d ≡ next_in depth ys
  linked-at [] ys l = l.0
  linked-at (x ∷ xs) ys l = linked-at xs ys l.1

  comes : Next
  unfolding depth
  comes = at at-super.after at-super.is (linked-at at-super.before at-super.after (subst (AreLinked (depth_at depths) (next_at nexts)) at-super.is h.is.linked))
    where
      at : (zs : List ℕ) → h.classes ≡ at-super.before ++ d ∷ zs → next_at nexts d ≡ next_in (depth_at depths) zs → Next
      at [] is e = let clash : Some k ≡ None = sym first ∙ e in cc
      at (z ∷ zs) is e = step (depth_at depths z == 0) refl
        where
          step : (b : Bool) → (depth_at depths z == 0) ≡ b → Next
          step true flat = let clash : Some k ≡ None = sym first ∙ e ∙ ap (λ b. if b then None else Some z) flat in cc
          step false deep =
              let same : Some k ≡ Some z = sym first ∙ e ∙ ap (λ b. if b then None else Some z) deep in
              record { after = zs; is = is ∙ ap (λ y. at-super.before ++ d ∷ y ∷ zs) (sym (same_Some k z same)) }

  xs : List ℕ
  xs = at-super.before

  ys : List ℕ
  ys = comes.after

  -- its superclass and those before it, then it, and then the others
  parted : (zs us : List ℕ) → (zs ++ d ∷ []) ++ us ≡ zs ++ d ∷ us
  parted zs us = append_assoc zs (d ∷ []) us

  whole : h.classes ≡ (xs ++ d ∷ []) ++ k ∷ ys
  unfolding xs ys
  whole = comes.is ∙ sym (parted xs (k ∷ ys))

  followed : AreFollowed supers depth h.classes ((xs ++ d ∷ []) ++ k ∷ ys)
  unfolding depth
  followed = subst (AreFollowed supers (depth_at depths) h.classes) whole h.is.followed

  not-before : is_in k (xs ++ d ∷ []) ≡ false
  not-before = once-before supers depth h.classes k (xs ++ d ∷ []) ys followed

  not-after : is_in k ys ≡ false
  not-after = once-after supers depth h.classes k (xs ++ d ∷ []) ys followed

  left : List ℕ
  left = (xs ++ d ∷ []) ++ ys

  gone : is_in k left ≡ false
  unfolding left
  gone = in-parts k (xs ++ d ∷ []) ys ∙ ap (λ b. b || is_in k ys) not-before ∙ not-after

  stays : (j : ℕ) → (k == j) ≡ false → is_in j left ≡ is_in j h.classes
  unfolding left
  stays j other = in-mid k j (xs ++ d ∷ []) ys other ∙ sym (ap (is_in j) whole)

  inside : (j : ℕ) → is_in j left ≡ true → (is_in j h.classes ≡ true) × ((k == j) ≡ false)
  inside j there = step (k == j) refl
    where
      step : (b : Bool) → (k == j) ≡ b → (is_in j h.classes ≡ true) × ((k == j) ≡ false)
      step true same = let clash : true ≡ false = sym there ∙ ap (λ i. is_in i left) (sym (same_number k j same)) ∙ gone in cc
      step false other = (sym (stays j other) ∙ there, other)

  flat : first_depth depth ys ≤ depth k
  flat = flat-after supers depth h.classes k ys leaf (λ j there. ap (is_in j) whole ∙ in-parts j (xs ++ d ∷ []) (k ∷ ys) ∙ ors (is_in j (xs ++ d ∷ [])) (k == j) (is_in j ys) there) (followed-at supers depth h.classes k (xs ++ d ∷ []) ys followed)
    where
      ors : (a b c : Bool) → c ≡ true → (a || (b || c)) ≡ true
      ors true b c e = refl
      ors false true c e = refl
      ors false false c e = e

  followed' : AreFollowed (slice_set supers k None) depth left left
  unfolding left
  followed' = followed-mid supers depth k leaf h.classes left inside ys flat (xs ++ d ∷ []) followed

  nexts' : List (Option ℕ)
  nexts' = slice_set nexts d (next_at nexts k)

  linked' : AreLinked depth (next_at nexts') left
  unfolding depth left nexts' xs ys
  linked' =
      let l = subst (AreLinked (depth_at depths) (next_at nexts)) comes.is h.is.linked in
      let d-inside : d < length nexts = let n = h.next_room in let m = present-inside supers d above in omega (arith, n, m) in
      subst (AreLinked (depth_at depths) (next_at nexts')) (sym (parted xs ys))
      (linked-mid (depth_at depths) (next_at nexts) k ys d (next_at nexts') (get_or-set_same nexts d (next_at nexts k) None d-inside ∙ linked-k xs l)
      (λ x other. get_or-set_other nexts d x (next_at nexts k) None (other_number x d other))
      xs (once-before supers (depth_at depths) h.classes d xs (k ∷ ys) (subst (AreFollowed supers (depth_at depths) h.classes) comes.is h.is.followed))
      (neither (k == d) (is_in d ys) (once-after supers (depth_at depths) h.classes d xs (k ∷ ys) (subst (AreFollowed supers (depth_at depths) h.classes) comes.is h.is.followed))).1 l)
    where
      linked-k : (zs : List ℕ) → AreLinked (depth_at depths) (next_at nexts) (zs ++ d ∷ k ∷ ys) → next_at nexts k ≡ next_in (depth_at depths) ys
      linked-k [] l = l.1.0
      linked-k (z ∷ zs) l = linked-k zs l.1

  root' : first_depth depth left ≡ 0
  unfolding depth left
  root' = at xs (sym (ap (first_depth (depth_at depths)) whole) ∙ h.is.root)
    where
      at : (zs : List ℕ) → first_depth (depth_at depths) ((zs ++ d ∷ []) ++ k ∷ ys) ≡ 0 → first_depth (depth_at depths) ((zs ++ d ∷ []) ++ ys) ≡ 0
      at [] e = e
      at (z ∷ zs) e = e

  pub preorder-left : HavePreorder (slice_set supers k None) depths (slice_set nexts d (next_at nexts k))
  unfolding depth left nexts'
  preorder-left = record {
    classes = left;
    is = record {
      followed = followed';
      linked = linked';
      root = root';
      shallow = λ j there. let less = shallow-all (slice_set supers k None) depth left left 0 j followed' (omega (arith, root')) there in omega (arith, less);
    };
    present = λ j. present j (k == j) refl;
    count = count;
    depth_room = let n = length-set supers k None in let m = h.depth_room in omega (arith, n, m);
    next_room = let n = length-set supers k None in let m = h.next_room in let l = length-set nexts d (next_at nexts k) in omega (arith, n, m, l);
  }
    where
      present : (j : ℕ) (b : Bool) → (k == j) ≡ b → is_in j left ≡ is_present (slice_set supers k None) j
      present j true same =
          let at = same_number k j same in
          subst (λ i. is_in i left ≡ is_present (slice_set supers k None) i) at (gone ∙ sym (ap is_some (gone-same supers k (present-inside supers k here))))
      present j false other = stays j other ∙ h.present j ∙ sym (ap is_some (gone-other supers k j (λ same. other_number k j other (sym same))))

      count : length left ≡ present_count (slice_set supers k None)
      count =
          let all = h.count in
          let parts = ap length whole in
          let before = length-append (xs ++ d ∷ []) (k ∷ ys) in
          let after = length-append (xs ++ d ∷ []) ys in
          let less = present_count-gone supers k here in
          omega (arith, all, parts, before, after, less)
