-- If every chain of superclasses ends, classes have an order.
use Rattle.std.proofs.Common.{◌≡◌, ◌<◌, ◌≤◌, ℕ, zero, suc, List, [], ◌∷◌, ◌++◌, length, Option, Some, None, Bool, true, false, refl, sym, ◌∙◌, subst, arith}
use Rattle.std.specs.Prelude.{slice_index_or, slice_set, replicate, IfSome}
use Rattle.std.specs.Option.{option_map_or}
use Rattle.std.proofs.lemmas.List.{get_or-set_same, get_or-set_other}
use Rattle.std.proofs.lemmas.Bool.Decides.{nat_tests}
use Rattle.std.specs.Prelude.{◌==◌}
use Rattle.msg_order.specs.Order.{ArePlaced, IsClassOrder, Stay}
use Rattle.msg_order.specs.Superclasses.{super_of, AreListed, depth_up, depth_of, has_cycle}
use Rattle.msg_order.proofs.DepthLemmas.{depth-fewer}
use Rattle.msg_order.proofs.PlacingLemmas.{placed-none, placed-more, order-whole}

-- the classes that were placed, and one more
record Places (supers : List (Option ℕ)) (old : List Bool) (k : ℕ) : Type 0 where
  pub marks : List Bool
  pub order : List ℕ
  pub are : ArePlaced supers marks order
  pub stays : Stay old marks
  pub marked : slice_index_or marks k false ≡ true

marks-stay : (marks : List Bool) (k : ℕ) → Stay marks (slice_set marks k true)
marks-stay marks k j e = at (j == k) refl
  where
    marked : (ms : List Bool) (i : ℕ) → slice_index_or ms i false ≡ true → slice_index_or (slice_set ms i true) i false ≡ true
    marked [] i e = cc
    marked (b ∷ ms) zero e = refl
    marked (b ∷ ms) (suc i) e = marked ms i e

    at : (b : Bool) → (j == k) ≡ b → slice_index_or (slice_set marks k true) j false ≡ true
    at true same = let is : j ≡ k = grind (arith, nat_tests, same) in subst (λ i. slice_index_or (slice_set marks k true) i false ≡ true) (sym is) (marked marks k (subst (λ i. slice_index_or marks i false ≡ true) is e))
    at false other = get_or-set_other marks k j true false (λ same. grind (arith, nat_tests, other, same)) ∙ e

-- a class whose superclass is placed
push : (supers : List (Option ℕ)) (marks : List Bool) (order : List ℕ) (k : ℕ) → ArePlaced supers marks order → k < length supers → IfSome (super_of supers k) (λ d. slice_index_or marks d false ≡ true) → Places supers marks k
push supers marks order k are inside up = at (slice_index_or marks k false) refl
  where
    at : (b : Bool) → slice_index_or marks k false ≡ b → Places supers marks k
    at true here = record { marks = marks; order = order; are = are; stays = λ j e. e; marked = here }
    at false here = record {
      marks = slice_set marks k true;
      order = order ++ k ∷ [];
      are = placed-more supers marks order k are inside here up;
      stays = marks-stay marks k;
      marked = get_or-set_same marks k true false (omega (arith, inside, are.sizes));
    }

-- and a class with those above it
place : (n : ℕ) (supers : List (Option ℕ)) (marks : List Bool) (order : List ℕ) (k : ℕ) → AreListed supers → ArePlaced supers marks order → k < length supers → depth_up n supers k < n → Places supers marks k
place zero supers marks order k listed are inside few = absurd (omega (arith, few))
place (suc n) supers marks order k listed are inside few = at (super_of supers k) refl few (λ d within less. place n supers marks order d listed are within less)
  where
    at : (o : Option ℕ) → super_of supers k ≡ o → option_map_or (λ d. suc (depth_up n supers d)) o 0 < suc n → ((d : ℕ) → d < length supers → depth_up n supers d < n → Places supers marks d) → Places supers marks k
    at None e few rest = push supers marks order k are inside (subst (λ o. IfSome o (λ d. slice_index_or marks d false ≡ true)) (sym e) tt)
    at (Some d) e few rest =
        let first = rest d (listed.above k d e) (omega (arith, few)) in
        let last = push supers first.marks first.order k first.are inside (subst (λ o. IfSome o (λ d. slice_index_or first.marks d false ≡ true)) (sym e) first.marked) in
        record { marks = last.marks; order = last.order; are = last.are; stays = λ j h. last.stays j (first.stays j h); marked = last.marked }

-- the first n classes are placed
record First (supers : List (Option ℕ)) (n : ℕ) : Type 0 where
  pub marks : List Bool
  pub order : List ℕ
  pub are : ArePlaced supers marks order
  pub all : (k : ℕ) → k < n → slice_index_or marks k false ≡ true

first : (supers : List (Option ℕ)) (n : ℕ) → AreListed supers → has_cycle supers ≡ false → n ≤ length supers → First supers n
unfolding depth_of
first supers zero listed none few = record { marks = replicate (length supers) false; order = []; are = placed-none supers (replicate (length supers) false) [] refl refl; all = λ k inside. absurd (omega (arith, inside)) }
first supers (suc n) listed none few =
    let before = first supers n listed none (omega (arith, few)) in
    let next = place (length supers) supers before.marks before.order n listed before.are (omega (arith, few)) (depth-fewer supers n none (omega (arith, few))) in
    record {
      marks = next.marks;
      order = next.order;
      are = next.are;
      all = λ k inside. at before next k inside (k == n) refl;
    }
  where
    at : (before : First supers n) (next : Places supers before.marks n) (k : ℕ) → k < suc n → (b : Bool) → (k == n) ≡ b → slice_index_or next.marks k false ≡ true
    at before next k inside true same = let is : k ≡ n = grind (arith, nat_tests, same) in subst (λ j. slice_index_or next.marks j false ≡ true) (sym is) next.marked
    at before next k inside false other = next.stays k (before.all k (grind (arith, nat_tests, other, inside)))

pub order_exists : (supers : List (Option ℕ)) → AreListed supers → has_cycle supers ≡ false → (order : List ℕ) × IsClassOrder supers order
order_exists supers listed none =
    let all = first supers (length supers) listed none (omega arith) in
    (all.order, order-whole supers all.marks all.order all.are all.all)
