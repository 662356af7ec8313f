-- Lookups in lists that hold the rows.
use Rattle.std.proofs.Common.{◌≡◌, length, ◌<◌, ℕ, zero, suc, List, [], ◌∷◌, Option, Some, None, option_map, Bool, true, false, cond, refl, sym, ◌∙◌, ap}
use Rattle.std.specs.Prelude.{◌==◌, ◌&&◌, unwrap_or, is_some}
use Rattle.std.specs.Option.{option_map_or}
use Rattle.msg_rows.proofs.OrElseLemmas.{or_else_none}
use Rattle.msg_names.specs.declared.value.ClassRef.{ClassRef}
use Rattle.msg_names.specs.ClassRef.{same_class}
use Rattle.msg_tables.specs.Chain.{chain_up, chain_of, super_of, steps_of, only_present, is_present}
use Rattle.msg_tables.specs.declared.presence.Presence.{Presence}
use Rattle.msg_tables.specs.Rows.{Row, own, holder_in, lookup_in}
use Rattle.msg_rows.specs.RowList.{or_else, own_in}
use Rattle.msg_tables.specs.Log.{Log, table, lookup, holder, superclass}
use Rattle.msg_tables.specs.Stands.{Holds, StandsAt, pairs_at}
use Rattle.msg_tables.specs.View.{TablesView, kept, kept_method}
use Rattle.msg_tables.proofs.ChainLemmas.{chain_from, Suffices, chain_up-step}

-- the own row is the last of the pairs
pub own-pairs_at : (c : ClassRef) (s : ℕ) (rows : List Row) → own rows c s ≡ own_in s (pairs_at c rows)
own-pairs_at c s [] = refl
own-pairs_at c s (r ∷ rs) = step (same_class r.class c) (own-pairs_at c s rs)
  where
    step : (b : Bool) → own rs c s ≡ own_in s (pairs_at c rs) → or_else (own rs c s) (cond (b && (r.sel == s)) (Some r.imp) None) ≡ own_in s (cond b ((r.sel, r.imp) ∷ pairs_at c rs) (pairs_at c rs))
    step true e = ap (λ o. or_else o (cond (r.sel == s) (Some r.imp) None)) e
    step false e = or_else_none (own rs c s) ∙ e

-- where the first class reference with the method is
pub holder_in-kept : (lists : List (List (ℕ × ℕ))) (rows : List Row) → Holds lists rows → (cs : List ClassRef) (s : ℕ) → holder_in rows cs s ≡ option_map (λ m. m.0) (kept_method lists cs s)
holder_in-kept lists rows holds [] s = refl
holder_in-kept lists rows holds (c ∷ cs) s =
    rw (own-pairs_at c s rows, ← holds.at c) (step (own_in s (kept lists c)) (holder_in-kept lists rows holds cs s))
  where
    step : (o : Option ℕ) → holder_in rows cs s ≡ option_map (λ m. m.0) (kept_method lists cs s) → cond (is_some o) (Some c) (holder_in rows cs s) ≡ option_map (λ (m : ClassRef × ℕ). m.0) (option_map_or (λ i. Some (c, i)) o (kept_method lists cs s))
    step None e = e
    step (Some i) e = refl

-- and its implementation
pub lookup_in-kept : (lists : List (List (ℕ × ℕ))) (rows : List Row) → Holds lists rows → (cs : List ClassRef) (s : ℕ) → lookup_in rows cs s ≡ option_map_or (λ m. m.1) (kept_method lists cs s) 0
lookup_in-kept lists rows holds [] s = refl
lookup_in-kept lists rows holds (c ∷ cs) s =
    rw (own-pairs_at c s rows, ← holds.at c) (step (own_in s (kept lists c)) (lookup_in-kept lists rows holds cs s))
  where
    step : (o : Option ℕ) → lookup_in rows cs s ≡ option_map_or (λ m. m.1) (kept_method lists cs s) 0 → unwrap_or o (lookup_in rows cs s) ≡ option_map_or (λ (m : ClassRef × ℕ). m.1) (option_map_or (λ i. Some (c, i)) o (kept_method lists cs s)) 0
    step None e = e
    step (Some i) e = refl

-- the method that the kept rows have
abbrev pub method_of : TablesView → ClassRef → ℕ → Option (ClassRef × ℕ)
method_of t c s = kept_method t.lists (chain_of t.supers c) s

module _ (t : TablesView) (h : Log) (stands : StandsAt t h) (c : ClassRef) where
  pub superclass-stands : super_of t.supers c ≡ superclass h c
  unfolding superclass
  superclass-stands = ap (λ supers. super_of supers c) stands.supers

  pub holder-stands : (s : ℕ) → holder h c s ≡ option_map (λ m. m.0) (method_of t c s)
  unfolding holder
  holder-stands s = holder_in-kept t.lists (table h).rows stands.rows (chain_of (table h).supers c) s ∙ ap (λ supers. option_map (λ (m : ClassRef × ℕ). m.0) (kept_method t.lists (chain_of supers c) s)) (sym stands.supers)

  pub lookup-stands : (s : ℕ) → lookup h c s ≡ option_map_or (λ m. m.1) (method_of t c s) 0
  unfolding lookup
  lookup-stands s = lookup_in-kept t.lists (table h).rows stands.rows (chain_of (table h).supers c) s ∙ ap (λ supers. option_map_or (λ (m : ClassRef × ℕ). m.1) (kept_method t.lists (chain_of supers c) s) 0) (sym stands.supers)

-- the chain begins at the class reference, if that is present
pub chain-begins : (supers : List (Option Presence)) (c : ClassRef) → chain_of supers c ≡ chain_from (length supers) supers (only_present supers c)
unfolding chain_of
chain-begins supers c = at (is_present supers c.class)
  where
    at : (b : Bool) → cond b (chain_up (length supers) supers c) [] ≡ chain_from (length supers) supers (cond b (Some c) None)
    at true = refl
    at false = refl

-- one turn up the chain
module _ (lists : List (List (ℕ × ℕ))) (supers : List (Option Presence)) (order : List ℕ) (s n : ℕ) (at : Option ClassRef) (here : ClassRef) (whole : Option (ClassRef × ℕ)) (is : at ≡ Some here) where
  pub stops : (i : ℕ) → own_in s (kept lists here) ≡ Some i → kept_method lists (chain_from n supers at) s ≡ whole → Some (here, i) ≡ whole
  stops i found so_far = sym (answer n) ∙ (rw is at so_far)
    where
      answer : (m : ℕ) → kept_method lists (chain_up m supers here) s ≡ Some (here, i)
      answer zero = rw found refl
      answer (suc m) = rw found refl

  pub goes_on : (up : Option ClassRef) → Suffices order n at → own_in s (kept lists here) ≡ None → up ≡ super_of supers here → ((d : ClassRef) → up ≡ Some d → steps_of order d < steps_of order here) → kept_method lists (chain_from n supers at) s ≡ whole
      → (m : ℕ) × Suffices order m up × (kept_method lists (chain_from m supers up) s ≡ whole)
  goes_on up enough none above fewer so_far =
      let (m, more, split) = chain_up-step order n supers here up (sym above) (rw is at enough) fewer in
      (m, more, sym (ap (λ cs. kept_method lists cs s) split ∙ rw none refl) ∙ (rw is at so_far))

pub is_some-map : {A B : Type 0} (f : A → B) (o : Option A) → is_some (option_map f o) ≡ is_some o
is_some-map f None = refl
is_some-map f (Some x) = refl
