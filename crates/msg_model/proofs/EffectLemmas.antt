-- How a machine changes when one of its lists is changed.
use Rattle.std.proofs.Common.{◌≡◌, ◌≢◌, ◌<◌, ◌+◌, ◌-◌, ℕ, zero, suc, List, [], ◌∷◌, ◌++◌, length, map, replicate, set, get_or, take, drop, Option, Some, None, Bool, true, false, cond, refl, sym, ap, ◌∙◌, subst, ⊎_elim, arith, eq-eqb, ne_eqb, add-one}
use Rattle.std.specs.Prelude.{◌==◌, slice_index, slice_index_or, slice_set}
use Rattle.std.proofs.lemmas.Grind.{get_or-set_at}
use Rattle.std.proofs.lemmas.List.{get_or-set_other, length-set, length-map}
use Rattle.std.proofs.Math.Seq.{map-set_same}
use Rattle.msg_tables.specs.Origin.{class_total}
use Rattle.msg_names.specs.declared.value.ClassRef.{ClassRef}
use Rattle.msg_names.specs.ClassRef.{slot_of}
use Rattle.msg_names.proofs.ClassRefLemmas.{slot_of-inside, slot_of-same}
use Rattle.msg_model.specs.declared.state.Standing.{Standing}
use Rattle.msg_model.specs.declared.state.Standing.TheVariants.{Free}
use Rattle.msg_tables.specs.declared.limits.TheConstants.{MOST_SENDERS}
use Rattle.msg_model.specs.declared.state.Whereabouts.{Whereabouts}
use Rattle.msg_model.specs.declared.state.Whereabouts.TheVariants.{Out}
use Rattle.msg_model.specs.Happens.{Becomes}
use Rattle.msg_model.specs.State.{capacity}
use Rattle.msg_model.specs.Steps.{at, at_class, stored, everyone, seen_out}
use Rattle.msg_model.specs.View.{MachineView, IsWhole, layout_of, state_of, live_at, word_at, standing_at}
use Rattle.msg_model.proofs.KeepLemmas.{looked_live}
use Rattle.msg_model.proofs.PointLemmas.{number_or, class_or, at_class_same, at_class_other}
use Rattle.msg_model.proofs.WholeLemmas.{array_count, capacity_is, words_read}

-- ---- lists

everyone_next : (k m : ℕ) → set (replicate k true ++ replicate (suc m) false) k true ≡ replicate (suc k) true ++ replicate m false
everyone_next zero m = refl
everyone_next (suc k) m = ap (λ bs. true ∷ bs) (everyone_next k m)

-- one more sender
pub everyone_step : (k : ℕ) → k < MOST_SENDERS → set (everyone k) k true ≡ everyone (k + 1)
everyone_step k lt =
    let rest : MOST_SENDERS - k ≡ suc (MOST_SENDERS - suc k) = omega arith in
    ap (λ n. set (replicate k true ++ replicate n false) k true) rest ∙ everyone_next k (MOST_SENDERS - suc k) ∙ ap everyone (sym (add-one k))

map_next : {A : Type 0} (f : A → A) (xs : List A) (k : ℕ) (d : A) → k < length xs
    → set (map f (take k xs) ++ drop k xs) k (f (get_or (map f (take k xs) ++ drop k xs) k d)) ≡ map f (take (suc k) xs) ++ drop (suc k) xs
map_next f [] k d lt = absurd (omega arith)
map_next f (x ∷ xs) zero d lt = refl
map_next f (x ∷ xs) (suc k) d lt = ap (λ ys. f x ∷ ys) (map_next f xs k d (omega arith))

-- a list of which one more element is mapped
pub map_step : {A : Type 0} (f : A → A) (xs ys : List A) (k : ℕ) (x d : A) → k < length xs → ys ≡ map f (take k xs) ++ drop k xs → x ≡ f (get_or ys k d)
    → set ys k x ≡ map f (take (k + 1) xs) ++ drop (k + 1) xs
map_step f xs ys k x d lt is next =
    ap (λ y. set ys k y) next ∙ ap (λ zs. set zs k (f (get_or zs k d))) is ∙ map_next f xs k d lt ∙ ap (λ n. map f (take n xs) ++ drop n xs) (sym (add-one k))

-- a list that was set at a place, as a function
read_set : {A : Type 0} (xs : List A) (n : ℕ) (x d : A) → n < length xs → (m : ℕ) → get_or (set xs n x) m d ≡ at (λ k. get_or xs k d) n x m
read_set xs n x d lt m = ⊎_elim
    (λ (e : m ≡ n). get_or-set_at xs n m x d e lt ∙ sym (ap (λ b. cond b x (get_or xs m d)) (eq-eqb m n e)))
    (λ (ne : m ≢ n). get_or-set_other xs n m x d ne ∙ sym (ap (λ b. cond b x (get_or xs m d)) (ne_eqb m n ne)))
    (number_or m n)

standing_mapped : (n : ℕ) (ss : List Standing) (a : ℕ) → standing_at (map (seen_out n) ss) a ≡ seen_out n (standing_at ss a)
standing_mapped n [] a = refl
standing_mapped n (s ∷ ss) zero = refl
standing_mapped n (s ∷ ss) (suc a) = standing_mapped n ss a

-- ---- machines

module _ (v : MachineView) (whole : IsWhole v) where
  array_inside : (a : ℕ) → a < length (layout_of v).capacities → a < length v.arrays
  array_inside a lt = subst (λ n. a < n) (array_count v.arrays) lt

  standing_inside : (a : ℕ) → a < length (layout_of v).capacities → a < length v.standings
  standing_inside a lt = subst (λ n. a < n) (sym whole.standings) (array_inside a lt)

  pub whereabouts_set : (n : ℕ) (p : Whereabouts) → n < length v.whereabouts → Becomes v (record v { whereabouts = slice_set v.whereabouts n p }) (record (state_of v) { whereabouts = at (state_of v).whereabouts n p })
  whereabouts_set n p lt = record {
    layout = λ i. record { classes = class_total v.history.origin; senders = length-set v.whereabouts n p i; capacities = map length v.arrays };
    state = λ i. record (state_of v) { whereabouts = λ m. read_set v.whereabouts n p Out lt m i };
  }

  pub live_set : (c : ClassRef) (o : Option ℕ) → c.class < class_total v.history.origin
      → Becomes v (record v { live = slice_set v.live (slot_of c) o }) (record (state_of v) { live = at_class (state_of v).live c o })
  live_set c o inside = record {
    layout = refl;
    state = λ i. record (state_of v) { live = λ d. read d i };
  }
    where
      read : (d : ClassRef) → live_at (slice_set v.live (slot_of c) o) d ≡ at_class (live_at v.live) c o d
      read d = ⊎_elim
          (λ (e : d ≡ c). get_or-set_at v.live (slot_of c) (slot_of d) o None (ap slot_of e) (slot_of-inside c (class_total v.history.origin) (length v.live) whole.headers inside)
          ∙ sym (ap (at_class (live_at v.live) c o) e ∙ at_class_same (live_at v.live) c o))
          (λ (ne : d ≢ c). get_or-set_other v.live (slot_of c) (slot_of d) o None (λ e. ne (slot_of-same d c e)) ∙ sym (at_class_other (live_at v.live) c o d ne))
          (class_or d c)

  pub standings_set : (a : ℕ) (s : Standing) → a < length (layout_of v).capacities → Becomes v (record v { standings = slice_set v.standings a s }) (record (state_of v) { standing = at (state_of v).standing a s })
  standings_set a s lt = record {
    layout = refl;
    state = λ i. record (state_of v) { standing = λ b. read_set v.standings a s Free (standing_inside a lt) b i };
  }

  pub word_set : (a p w : ℕ) → a < length (layout_of v).capacities → p < capacity (layout_of v) a
      → Becomes v (record v { arrays = slice_set v.arrays a (slice_set (slice_index_or v.arrays a []) p w) }) (record (state_of v) { word = stored (state_of v).word (Some a) p w })
  word_set a p w lt below = record {
    layout = λ i. record { classes = class_total v.history.origin; senders = length v.whereabouts; capacities = map-set_same length v.arrays a (slice_set words p w) [] (length-set words p w) i };
    state = λ i. record (state_of v) { word = λ b q. (read b q ∙ by_array b q) i };
  }
    where
      words : List ℕ
      words = slice_index_or v.arrays a []

      inside : p < length words
      inside = subst (λ n. p < n) (capacity_is v.arrays a lt) below

      read : (b q : ℕ) → word_at (slice_set v.arrays a (slice_set words p w)) b q ≡ slice_index (at (λ k. slice_index_or v.arrays k []) a (slice_set words p w) b) q
      read b q = ap (λ ws. slice_index ws q) (read_set v.arrays a (slice_set words p w) [] (array_inside a lt) b)

      by_array : (b q : ℕ) → slice_index (at (λ k. slice_index_or v.arrays k []) a (slice_set words p w) b) q ≡ stored (word_at v.arrays) (Some a) p w b q
      by_array b q = step (b == a)
        where
          step : (t : Bool) → slice_index (cond t (slice_set words p w) (slice_index_or v.arrays b [])) q ≡ cond t (at (word_at v.arrays a) p w) (word_at v.arrays b) q
          step true = read_set words p w 0 inside q
          step false = refl

  pub standings_mapped : (n : ℕ) → Becomes v (record v { standings = map (seen_out n) v.standings }) (record (state_of v) { standing = λ a. seen_out n ((state_of v).standing a) })
  standings_mapped n = record {
    layout = refl;
    state = λ i. record (state_of v) { standing = λ a. standing_mapped n v.standings a i };
  }

  -- ---- machines stay whole

  pub standings_whole : (n : ℕ) → IsWhole (record v { standings = map (seen_out n) v.standings })
  standings_whole n = record {
    headers = whole.headers;
    standings = length-map v.standings (seen_out n) ∙ whole.standings;
    few_senders = whole.few_senders;
    live_arrays = whole.live_arrays;
    held_arrays = whole.held_arrays;
    live_classes = λ a c e. whole.live_classes a c (looked_live n c (standing_at v.standings a) (sym (standing_mapped n v.standings a) ∙ e));
  }

  -- the same, with the list by an equation
  pub standings_become : (n : ℕ) (ss : List Standing) → ss ≡ map (seen_out n) v.standings
      → Becomes v (record v { standings = ss }) (record (state_of v) { standing = λ a. seen_out n ((state_of v).standing a) })
  standings_become n ss e = subst (λ xs. Becomes v (record v { standings = xs }) (record (state_of v) { standing = λ a. seen_out n ((state_of v).standing a) })) (sym e) (standings_mapped n)

  pub standings_stay_whole : (n : ℕ) (ss : List Standing) → ss ≡ map (seen_out n) v.standings → IsWhole (record v { standings = ss })
  standings_stay_whole n ss e = subst (λ xs. IsWhole (record v { standings = xs })) (sym e) (standings_whole n)

  pub word_becomes : (a p w : ℕ) (before words : List ℕ) → a < length (layout_of v).capacities → p < capacity (layout_of v) a → before ≡ slice_index_or v.arrays a before → words ≡ slice_set before p w
      → Becomes v (record v { arrays = slice_set v.arrays a words }) (record (state_of v) { word = stored (state_of v).word (Some a) p w })
  word_becomes a p w before words lt below read e =
      subst (λ xs. Becomes v (record v { arrays = slice_set v.arrays a xs }) (record (state_of v) { word = stored (state_of v).word (Some a) p w })) (sym (e ∙ ap (λ xs. slice_set xs p w) (words_read v.arrays a before lt read))) (word_set a p w lt below)
