-- Rows in buckets.
use Rattle.std.proofs.Common.{◌≡◌, ◌≢◌, ◌<◌, ◌≤◌, ◌+◌, ◌-◌, ◌⊎◌, inl, inr, ℕ, zero, suc, List, [], ◌∷◌, ◌++◌, length, length-append, get_or, set, replicate, Bool, true, false, cond, Option, Some, None, option_map, subst, refl, sym, ap, ◌∙◌, arith}
use Rattle.std.specs.Prelude.{◌==◌, nat_lt, nat_eq}
use Rattle.std.proofs.lemmas.Bool.Decides.{nat_tests}
use Rattle.std.proofs.lemmas.Grind.{get_or_default_zero}
use Rattle.std.proofs.lemmas.List.{length-map, length-set, map-append, map-set, get_or-set_same, get_or-set_other, get_or-replicate}
use Rattle.std.proofs.Math.ListN.{get_or-append}
use Rattle.std.proofs.Math.Seq.{get_or-append_seam}
use Rattle.std.proofs.lemmas.Option.{same_Some}
use Rattle.msg_names.proofs.TestLemmas.{same_number}
use Rattle.msg_names.specs.declared.value.ImpRef.{ImpRef}
use Rattle.msg_names.specs.declared.value.Selector.{Selector}
use Rattle.msg_names.specs.Number.{selector_number, imp_number}
use Rattle.msg_rows.specs.Buckets.{bucket_of, bucket_at, IsLast, AreLinked}
use Rattle.msg_rows.specs.Methods.{method_numbers}
use Rattle.msg_rows.specs.RowList.{or_else, last_index}

-- a place below the next one is below this one, or this one
below : (j k : ℕ) → j < k + 1 → (j < k) ⊎ (j ≡ k)
below j k less = step (nat_lt j k) refl
  where
    step : (b : Bool) → nat_lt j k ≡ b → (j < k) ⊎ (j ≡ k)
    step true e = inl (grind (arith, nat_tests, e))
    step false e = inr (grind (arith, nat_tests, e, less))

beside : (j k : ℕ) → (j < k) ⊎ (k ≤ j)
beside j k = step (nat_lt j k) refl
  where
    step : (b : Bool) → nat_lt j k ≡ b → (j < k) ⊎ (k ≤ j)
    step true e = inl (grind (arith, nat_tests, e))
    step false e = inr (grind (arith, nat_tests, e))

same : (j k : ℕ) → (j ≡ k) ⊎ (j ≢ k)
same j k = step (nat_eq j k) refl
  where
    step : (b : Bool) → nat_eq j k ≡ b → (j ≡ k) ⊎ (j ≢ k)
    step true e = inl (same_number j k e)
    step false e = inr (λ is. grind (arith, nat_tests, e, is))

-- the first k rows are of the same selectors
abbrev pub Alike : List (ℕ × ℕ) → List (ℕ × ℕ) → ℕ → Type 0
Alike xs ys k = (i : ℕ) → i < k → (get_or xs i (0, 0)).0 ≡ (get_or ys i (0, 0)).0

-- it depends neither on the rows that follow nor on implementations
pub last-same : (count : ℕ) (xs ys : List (ℕ × ℕ)) (b k link : ℕ) → Alike xs ys k → IsLast count xs b k link → IsLast count ys b k link
last-same count xs ys b k link alike l = record {
  within = l.within;
  there = λ i e. ap (bucket_of count) (sym (alike i (omega (arith, e, l.within)))) ∙ l.there i e;
  last = λ j from inside e. l.last j from inside (ap (bucket_of count) (alike j inside) ∙ e);
}

-- the row at k is in the bucket
pub last-here : (count : ℕ) (ms : List (ℕ × ℕ)) (b k : ℕ) → bucket_at count ms k ≡ b → IsLast count ms b (k + 1) (k + 1)
last-here count ms b k is = record {
  within = omega arith;
  there = λ i e. ap (bucket_at count ms) (omega (arith, e)) ∙ is;
  last = λ j from inside e. absurd (omega (arith, from, inside));
}

-- the row at k is in another one
pub last-other : (count : ℕ) (ms : List (ℕ × ℕ)) (b k link : ℕ) → bucket_at count ms k ≢ b → IsLast count ms b k link → IsLast count ms b (k + 1) link
last-other count ms b k link isnt l = record {
  within = omega (arith, l.within);
  there = l.there;
  last = λ j from inside. step j from (below j k inside);
}
  where
    step : (j : ℕ) → link ≤ j → (j < k) ⊎ (j ≡ k) → bucket_at count ms j ≢ b
    step j from (inl less) = l.last j from less
    step j from (inr e) = λ is. isnt (ap (bucket_at count ms) (sym e) ∙ is)

pub last-less : (count : ℕ) (ms : List (ℕ × ℕ)) (b k link : ℕ) → bucket_at count ms k ≢ b → IsLast count ms b (k + 1) link → IsLast count ms b k link
last-less count ms b k link isnt l = record {
  within = step (same link (k + 1));
  there = l.there;
  last = λ j from inside. l.last j from (omega (arith, inside));
}
  where
    step : (link ≡ k + 1) ⊎ (link ≢ k + 1) → link ≤ k
    step (inl e) = absurd (isnt (l.there k e))
    step (inr other) = grind (arith, other, l.within)

pub linked-same : (xs ys : List (ℕ × ℕ)) (k : ℕ) (older newest : List ℕ) → Alike xs ys k → AreLinked xs k older newest → AreLinked ys k older newest
linked-same xs ys k older newest alike l =
    let count = length newest in
    record {
      buckets = λ b inside. last-same count xs ys b k (get_or newest b 0) alike (l.buckets b inside);
      before = λ i inside.
          let named : bucket_at count xs i ≡ bucket_at count ys i = ap (bucket_of count) (alike i inside) in
          last-same count xs ys (bucket_at count ys i) i (get_or older i 0) (λ j less. alike j (omega (arith, less, inside))) (subst (λ b. IsLast count xs b i (get_or older i 0)) named (l.before i inside));
    }

-- one row more
module _ (ms : List (ℕ × ℕ)) (k : ℕ) (older newest after : List ℕ) (b : ℕ) (is : b ≡ bucket_at (length newest) ms k) (there : b < length newest) (kept : (i : ℕ) → i < k → get_or after i 0 ≡ get_or older i 0) where
  pub linked-more : get_or after k 0 ≡ get_or newest b 0 → AreLinked ms k older newest → AreLinked ms (k + 1) after (set newest b (k + 1))
  linked-more next l = record {
    buckets = λ c inside. rw wide (bucket c (omega (arith, inside, wide)) (same c b));
    before = λ i inside. rw wide (row i (below i k inside));
  }
    where
      count : ℕ
      count = length newest

      wide : length (set newest b (k + 1)) ≡ count
      wide = length-set newest b (k + 1)

      bucket : (c : ℕ) → c < count → (c ≡ b) ⊎ (c ≢ b) → IsLast count ms c (k + 1) (get_or (set newest b (k + 1)) c 0)
      bucket c inside (inl e) = rw (e, get_or-set_same newest b (k + 1) 0 there) (last-here count ms b k (sym is))
      bucket c inside (inr other) = rw (get_or-set_other newest b c (k + 1) 0 other) (last-other count ms c k (get_or newest c 0) (λ e. other (sym e ∙ sym is)) (l.buckets c inside))

      row : (i : ℕ) → (i < k) ⊎ (i ≡ k) → IsLast count ms (bucket_at count ms i) i (get_or after i 0)
      row i (inl less) = rw (kept i less) (l.before i less)
      row i (inr e) = rw (e, next, ← is) (l.buckets b there)

  -- one row fewer
  pub linked-less : AreLinked ms (k + 1) older newest → AreLinked ms k after (set newest b (get_or older k 0))
  linked-less l = record {
    buckets = λ c inside. rw wide (bucket c (omega (arith, inside, wide)) (same c b));
    before = λ i inside. rw (wide, kept i inside) (l.before i (omega (arith, inside)));
  }
    where
      count : ℕ
      count = length newest

      wide : length (set newest b (get_or older k 0)) ≡ count
      wide = length-set newest b (get_or older k 0)

      bucket : (c : ℕ) → c < count → (c ≡ b) ⊎ (c ≢ b) → IsLast count ms c k (get_or (set newest b (get_or older k 0)) c 0)
      bucket c inside (inl e) = rw (e, get_or-set_same newest b (get_or older k 0) 0 there, is) (l.before k (omega arith))
      bucket c inside (inr other) = rw (get_or-set_other newest b c (get_or older k 0) 0 other) (last-less count ms c k (get_or newest c 0) (λ e. other (sym e ∙ sym is)) (l.buckets c inside))

-- no row from a place on is of a selector
abbrev pub NoneFrom : ℕ → List (ℕ × ℕ) → ℕ → Type 0
NoneFrom s ms at = (j : ℕ) → at ≤ j → j < length ms → (get_or ms j (0, 0)).0 ≢ s

pub last_absent : (s : ℕ) (ms : List (ℕ × ℕ)) → NoneFrom s ms 0 → last_index s ms ≡ None
last_absent s [] none = refl
last_absent s (m ∷ ms) none = step (m.0 == s) refl (last_absent s ms (λ j from inside. none (suc j) (omega arith) (omega (arith, inside))))
  where
    step : (b : Bool) → (m.0 == s) ≡ b → last_index s ms ≡ None → or_else (option_map suc (last_index s ms)) (cond b (Some 0) None) ≡ None
    step true e rest = absurd (none 0 (omega arith) (omega arith) (same_number m.0 s e))
    step false e rest = rw rest refl

pub last_at : (s : ℕ) (ms : List (ℕ × ℕ)) (i : ℕ) → i < length ms → (get_or ms i (0, 0)).0 ≡ s → NoneFrom s ms (i + 1) → last_index s ms ≡ Some i
last_at s [] i inside is none = absurd (omega (arith, inside))
last_at s (m ∷ ms) zero inside is none =
    let rest : last_index s ms ≡ None = last_absent s ms (λ j from inside. none (suc j) (omega arith) (omega (arith, inside))) in
    let here : (m.0 == s) ≡ true = grind (arith, nat_tests, is) in
    rw (rest, here) refl
last_at s (m ∷ ms) (suc i) inside is none =
    let rest : last_index s ms ≡ Some i = last_at s ms i (omega (arith, inside)) is (λ j from less. none (suc j) (omega (arith, from)) (omega (arith, less))) in
    rw rest refl

-- the row that is looked for isn't after, and may be before
pub record IsSought (count s : ℕ) (ms : List (ℕ × ℕ)) (at : ℕ) : Type 0 where
  pub inside : at ≤ length ms
  pub there : (i : ℕ) → at ≡ i + 1 → bucket_at count ms i ≡ bucket_of count s
  pub none : NoneFrom s ms at

pub sought-on : (count s : ℕ) (ms : List (ℕ × ℕ)) (k link : ℕ) → k ≤ length ms → NoneFrom s ms k → IsLast count ms (bucket_of count s) k link → IsSought count s ms link
sought-on count s ms k link inside none l = record {
  inside = omega (arith, l.within, inside);
  there = l.there;
  none = λ j from less. step j from less (beside j k);
}
  where
    step : (j : ℕ) → link ≤ j → j < length ms → (j < k) ⊎ (k ≤ j) → (get_or ms j (0, 0)).0 ≢ s
    step j from less (inl before) = λ is. l.last j from before (ap (bucket_of count) is)
    step j from less (inr after) = none j after less

-- the row that the search has reached is of another selector
pub sought-next : (count s : ℕ) (ms : List (ℕ × ℕ)) (older newest : List ℕ) (i : ℕ) → count ≡ length newest → AreLinked ms (length ms) older newest → IsSought count s ms (i + 1) → (get_or ms i (0, 0)).0 ≢ s → IsSought count s ms (get_or older i 0)
sought-next count s ms older newest i wide l at other =
    let before : IsLast count ms (bucket_at count ms i) i (get_or older i 0) = rw wide (l.before i (omega (arith, at.inside))) in
    sought-on count s ms i (get_or older i 0) (omega (arith, at.inside)) (λ j from less. step j from less (beside i j)) (subst (λ b. IsLast count ms b i (get_or older i 0)) (at.there i refl) before)
  where
    step : (j : ℕ) → i ≤ j → j < length ms → (i < j) ⊎ (j ≤ i) → (get_or ms j (0, 0)).0 ≢ s
    step j from less (inl before) = at.none j (omega (arith, before)) less
    step j from less (inr after) =
        let here : i ≡ j = omega (arith, from, after) in
        λ is. other (ap (λ n. (get_or ms n (0, 0)).0) here ∙ is)

-- the code's rows

abbrev numbers : Selector × ImpRef → ℕ × ℕ
numbers m = (selector_number m.0, imp_number m.1)

pub number-at : (rows : List (Selector × ImpRef)) (i : ℕ) (m : Selector × ImpRef) → i < length rows → m ≡ get_or rows i m → (get_or (method_numbers rows) i (0, 0)).0 ≡ selector_number m.0
number-at [] i m inside read = absurd (omega (arith, inside))
number-at (r ∷ rows) zero m inside read = ap (λ (x : Selector × ImpRef). selector_number x.0) (sym read)
number-at (r ∷ rows) (suc i) m inside read = number-at rows i m (omega (arith, inside)) read

-- a search
module _ (count s : ℕ) (rows : List (Selector × ImpRef)) (at : ℕ) (sought : IsSought count s (method_numbers rows) at) where
  pub none-sought : at ≡ 0 → None ≡ last_index s (method_numbers rows)
  none-sought e = sym (last_absent s (method_numbers rows) (λ j from less. sought.none j (omega (arith, e)) less))

  module _ (m : Selector × ImpRef) (on : at ≢ 0) (read : m ≡ get_or rows (at - 1) m) where
    one : at ≡ at - 1 + 1
    one = grind (arith, on)

    inside : at - 1 < length rows
    inside = omega (arith, one, sought.inside, length-map rows numbers)

    pub found-sought : selector_number m.0 ≡ s → Some (at - 1) ≡ last_index s (method_numbers rows)
    found-sought is =
        sym (last_at s (method_numbers rows) (at - 1) (omega (arith, inside, length-map rows numbers)) (number-at rows (at - 1) m inside read ∙ is) (λ j from less. sought.none j (omega (arith, one, from)) less))

    pub next-sought : (older newest : List ℕ) (link : ℕ) → count ≡ length newest → length older ≡ length rows → AreLinked (method_numbers rows) (length rows) older newest → selector_number m.0 ≢ s → link ≡ get_or older (at - 1) link
        → IsSought count s (method_numbers rows) link × (link < at)
    next-sought older newest link wide each l other next =
        let ms = method_numbers rows in
        let linked : AreLinked ms (length ms) older newest = subst (λ k. AreLinked ms k older newest) (sym (length-map rows numbers)) l in
        let zero_read : link ≡ get_or older (at - 1) 0 = next ∙ get_or_default_zero older (at - 1) link (omega (arith, inside, each)) in
        let sought-one : IsSought count s ms (at - 1 + 1) = subst (λ k. IsSought count s ms k) one sought in
        let differs : (get_or ms (at - 1) (0, 0)).0 ≢ s = λ e. other (sym (number-at rows (at - 1) m inside read) ∙ e) in
        let before = l.before (at - 1) inside in
        (subst (λ k. IsSought count s ms k) (sym zero_read) (sought-next count s ms older newest (at - 1) wide linked sought-one differs), omega (arith, zero_read, before.within, one))

-- one more row, at the end
pub linked-push : (rows : List (Selector × ImpRef)) (m : Selector × ImpRef) (older newest : List ℕ) (b link : ℕ) → b ≡ bucket_of (length newest) (selector_number m.0) → b < length newest → link ≡ get_or newest b link → length older ≡ length rows
    → AreLinked (method_numbers rows) (length rows) older newest
    → AreLinked (method_numbers (rows ++ m ∷ [])) (length rows + 1) (older ++ link ∷ []) (set newest b (length rows + 1))
linked-push rows m older newest b link named there next each l =
    let ms = method_numbers rows in
    let all = method_numbers (rows ++ m ∷ []) in
    let pairs : all ≡ ms ++ numbers m ∷ [] = map-append numbers rows (m ∷ []) in
    let count : length ms ≡ length rows = length-map rows numbers in
    let alike : Alike ms all (length rows) = λ i inside. ap (λ (x : ℕ × ℕ). x.0) (sym (ap (λ ns. get_or ns i (0, 0)) pairs ∙ get_or-append ms (numbers m ∷ []) (0, 0) i (omega (arith, inside, count)))) in
    let last : get_or all (length rows) (0, 0) ≡ numbers m = ap (λ ns. get_or ns (length rows) (0, 0)) pairs ∙ ap (λ k. get_or (ms ++ numbers m ∷ []) k (0, 0)) (sym count) ∙ get_or-append_seam ms (numbers m) [] (0, 0) in
    let zero_read : link ≡ get_or newest b 0 = next ∙ get_or_default_zero newest b link there in
    let seam : get_or (older ++ link ∷ []) (length rows) 0 ≡ link = ap (λ k. get_or (older ++ link ∷ []) k 0) (sym each) ∙ get_or-append_seam older link [] 0 in
    linked-more all (length rows) older newest (older ++ link ∷ []) b (named ∙ ap (λ (x : ℕ × ℕ). bucket_of (length newest) x.0) (sym last)) there
    (λ i inside. get_or-append older (link ∷ []) 0 i (omega (arith, inside, each))) (seam ∙ zero_read) (linked-same ms all (length rows) older newest alike l)

-- and one fewer
pub linked-pop : (rows rest : List (Selector × ImpRef)) (m : Selector × ImpRef) (older left newest : List ℕ) (b link : ℕ) → rows ≡ rest ++ m ∷ [] → older ≡ left ++ link ∷ [] → b ≡ bucket_of (length newest) (selector_number m.0) → b < length newest
    → length older ≡ length rows → AreLinked (method_numbers rows) (length rows) older newest
    → AreLinked (method_numbers rest) (length rest) left (set newest b link)
linked-pop rows rest m older left newest b link is was named there each l =
    let ms = method_numbers rows in
    let some = method_numbers rest in
    let k = length rest in
    let pairs : ms ≡ some ++ numbers m ∷ [] = ap method_numbers is ∙ map-append numbers rest (m ∷ []) in
    let count : length some ≡ k = length-map rest numbers in
    let more : length rows ≡ k + 1 = ap length is ∙ length-append rest (m ∷ []) in
    let fewer : length left ≡ k = omega (arith, each, more, ap length was, length-append left (link ∷ [])) in
    let alike : Alike ms some k = λ i inside. ap (λ (x : ℕ × ℕ). x.0) (ap (λ ns. get_or ns i (0, 0)) pairs ∙ get_or-append some (numbers m ∷ []) (0, 0) i (omega (arith, inside, count))) in
    let last : get_or ms k (0, 0) ≡ numbers m = ap (λ ns. get_or ns k (0, 0)) pairs ∙ ap (λ n. get_or (some ++ numbers m ∷ []) n (0, 0)) (sym count) ∙ get_or-append_seam some (numbers m) [] (0, 0) in
    let seam : get_or older k 0 ≡ link = ap (λ ns. get_or ns k 0) was ∙ ap (λ n. get_or (left ++ link ∷ []) n 0) (sym fewer) ∙ get_or-append_seam left link [] 0 in
    let linked : AreLinked ms (k + 1) older newest = subst (λ n. AreLinked ms n older newest) more l in
    let less = linked-less ms k older newest left b (named ∙ ap (λ (x : ℕ × ℕ). bucket_of (length newest) x.0) (sym last)) there
    (λ i inside. sym (ap (λ ns. get_or ns i 0) was ∙ get_or-append left (link ∷ []) 0 i (omega (arith, inside, fewer)))) linked in
    linked-same ms some k left (set newest b link) alike (subst (λ n. AreLinked ms k left (set newest b n)) seam less)

-- a row that was there is linked
pub linked-there : (rows : List (Selector × ImpRef)) (at : ℕ) (m : Selector × ImpRef) (older newest : List ℕ) (b : ℕ) → at < length rows → m ≡ get_or rows at m → b ≡ bucket_of (length newest) (selector_number m.0) → b < length newest → length older ≡ length rows
    → AreLinked (method_numbers rows) at older newest
    → AreLinked (method_numbers rows) (at + 1) (set older at (get_or newest b 0)) (set newest b (at + 1))
linked-there rows at m older newest b inside read named there each l =
    linked-more (method_numbers rows) at older newest (set older at (get_or newest b 0)) b (named ∙ ap (bucket_of (length newest)) (sym (number-at rows at m inside read))) there
    (λ i less. get_or-set_other older at i (get_or newest b 0) 0 (λ e. absurd (omega (arith, e, less)))) (get_or-set_same older at (get_or newest b 0) 0 (omega (arith, inside, each))) l

-- another implementation changes no link
last_named : (s : ℕ) (ms : List (ℕ × ℕ)) (p : ℕ) → last_index s ms ≡ Some p → (get_or ms p (0, 0)).0 ≡ s
last_named s [] p e = cc
last_named s (m ∷ ms) p e = step (last_index s ms) (m.0 == s) refl (λ q. last_named s ms q) e
  where
    step : (o : Option ℕ) (b : Bool) → (m.0 == s) ≡ b → ((q : ℕ) → o ≡ Some q → (get_or ms q (0, 0)).0 ≡ s) → or_else (option_map suc o) (cond b (Some 0) None) ≡ Some p → (get_or (m ∷ ms) p (0, 0)).0 ≡ s
    step (Some q) b is rest e =
        let at : suc q ≡ p = same_Some (suc q) p e in
        ap (λ n. (get_or (m ∷ ms) n (0, 0)).0) (sym at) ∙ rest q refl
    step None true is rest e =
        let at : 0 ≡ p = same_Some 0 p e in
        ap (λ n. (get_or (m ∷ ms) n (0, 0)).0) (sym at) ∙ same_number m.0 s is
    step None false is rest e = cc

pub linked-set : (rows : List (Selector × ImpRef)) (place : ℕ) (sel : Selector) (imp : ImpRef) (older newest : List ℕ) → last_index (selector_number sel) (method_numbers rows) ≡ Some place → place < length rows
    → AreLinked (method_numbers rows) (length rows) older newest → AreLinked (method_numbers (set rows place (sel, imp))) (length (set rows place (sel, imp))) older newest
linked-set rows place sel imp older newest found inside l =
    let ms = method_numbers rows in
    let all = method_numbers (set rows place (sel, imp)) in
    let pairs : all ≡ set ms place (numbers (sel, imp)) = map-set numbers rows place (sel, imp) in
    let named : (get_or ms place (0, 0)).0 ≡ selector_number sel = last_named (selector_number sel) ms place found in
    let alike : Alike ms all (length rows) = λ i less. step ms all pairs named (omega (arith, inside, length-map rows numbers)) i (same i place) in
    subst (λ k. AreLinked all k older newest) (sym (length-set rows place (sel, imp))) (linked-same ms all (length rows) older newest alike l)
  where
    step : (ms all : List (ℕ × ℕ)) → all ≡ set ms place (numbers (sel, imp)) → (get_or ms place (0, 0)).0 ≡ selector_number sel → place < length ms → (i : ℕ) → (i ≡ place) ⊎ (i ≢ place) → (get_or ms i (0, 0)).0 ≡ (get_or all i (0, 0)).0
    step ms all pairs named inside i (inl e) =
        ap (λ n. (get_or ms n (0, 0)).0) e ∙ named
        ∙ ap (λ (x : ℕ × ℕ). x.0) (sym (ap (λ ns. get_or ns i (0, 0)) pairs ∙ ap (λ n. get_or (set ms place (numbers (sel, imp))) n (0, 0)) e ∙ get_or-set_same ms place (numbers (sel, imp)) (0, 0) inside))
    step ms all pairs named inside i (inr other) = ap (λ (x : ℕ × ℕ). x.0) (sym (ap (λ ns. get_or ns i (0, 0)) pairs ∙ get_or-set_other ms place i (numbers (sel, imp)) (0, 0) other))
