-- The number of superclasses above a listed class, at a log.
use Rattle.std.proofs.Common.{◌≡◌, ◌<◌, ◌≤◌, ℕ, zero, suc, [], ◌∷◌, length, Option, Some, None, option_map, cond, refl, sym, ap, ◌∙◌, arith}
use Rattle.std.specs.Prelude.{is_some}
use Rattle.std.specs.Option.{option_map_or}
use Rattle.std.proofs.lemmas.Option.{get_or_from_slice_get}
use Rattle.msg_names.specs.declared.value.ClassRef.{ClassRef}
use Rattle.msg_names.specs.ClassRef.{above}
use Rattle.msg_order.specs.Superclasses as order
use Rattle.msg_order.proofs.DepthLemmas.{depth-fewer, depth-root, depth-step}
use Rattle.msg_tables.specs.Origin.{OriginView, IsSound}
use Rattle.msg_tables.specs.declared.presence.Presence.{Presence}
use Rattle.msg_tables.specs.After.{of_class, opening_table, opened_supers}
use Rattle.msg_tables.specs.Chain.{presence_of, super_of, chain_up, chain_of}
use Rattle.msg_tables.specs.Log.{Log, empty, table, chain_at}
use Rattle.msg_tables.specs.Refusal.{IsLog}
use Rattle.msg_tables.proofs.LogLemmas.{length-supers}
use Rattle.msg_tables.proofs.ListedOrderLemmas.{opened-class, opened-is_present}
use Rattle.msg_tables.proofs.PresenceLemmas.{presence-on}
use Rattle.msg_tables.proofs.TakeLemmas.{element}

opened-presence_of : (o : OriginView) (k : ℕ) → k < length o.superclasses → presence_of (opened_supers o) k ≡ Some (record { superclass = order.super_of o.superclasses k })
opened-presence_of o k inside =
    let (d, at) = element o.superclasses k inside in
    let is : order.super_of o.superclasses k ≡ d = get_or_from_slice_get o.superclasses k d None at in
    get_or_from_slice_get (opened_supers o) k (Some (record { superclass = order.super_of o.superclasses k })) None
    (opened-class o k (order.super_of o.superclasses k) (at ∙ ap Some (sym is)))

module _ (h : Log) (sound : IsSound h.origin) (log : IsLog h) where
  -- a listed class stays as it was at the opening
  listed-presence : (k : ℕ) → k < length h.origin.superclasses → presence_of (table h).supers k ≡ Some (record { superclass = order.super_of h.origin.superclasses k })
  unfolding table opening_table IsLog
  listed-presence k inside = presence-on (empty h.origin) h.changes k log inside (opened-is_present h.origin k inside) ∙ opened-presence_of h.origin k inside

  up-listed : (k : ℕ) (o : Option ℕ) → k < length h.origin.superclasses → order.super_of h.origin.superclasses k ≡ o → super_of (table h).supers (of_class k) ≡ option_map of_class o
  up-listed k o inside e = ap (λ p. option_map_or (λ (q : Presence). above (of_class k) q.superclass) p None) (listed-presence k inside) ∙ ap (above (of_class k)) e ∙ at o
    where
      at : (o : Option ℕ) → above (of_class k) o ≡ option_map of_class o
      at None = refl
      at (Some d) = refl

  chain-length : (n k : ℕ) → k < length h.origin.superclasses → order.depth_of h.origin.superclasses k ≤ n → length (chain_up n (table h).supers (of_class k)) ≡ suc (order.depth_of h.origin.superclasses k)
  chain-length zero k inside few = let none : order.depth_of h.origin.superclasses k ≡ 0 = omega (arith, few) in omega (arith, none)
  chain-length (suc n) k inside few = at (order.super_of h.origin.superclasses k) refl (chain-length n)
    where
      at : (o : Option ℕ) → order.super_of h.origin.superclasses k ≡ o → ((d : ℕ) → d < length h.origin.superclasses → order.depth_of h.origin.superclasses d ≤ n → length (chain_up n (table h).supers (of_class d)) ≡ suc (order.depth_of h.origin.superclasses d))
          → length (chain_up (suc n) (table h).supers (of_class k)) ≡ suc (order.depth_of h.origin.superclasses k)
      at None e rest =
          let up = up-listed k None inside e in
          let root = depth-root h.origin.superclasses k e in
          ap (λ (o : Option ClassRef). length (of_class k ∷ option_map_or (chain_up n (table h).supers) o [])) up ∙ ap suc (sym root)
      at (Some d) e rest =
          let up = up-listed k (Some d) inside e in
          let listed = sound.classes.above k d e in
          let deeper = depth-step h.origin.superclasses k d sound.chains inside e in
          ap (λ (o : Option ClassRef). length (of_class k ∷ option_map_or (chain_up n (table h).supers) o [])) up ∙ ap suc (rest d listed (omega (arith, few, deeper)) ∙ sym deeper)

  pub listed-depth : (k : ℕ) → k < length h.origin.superclasses → length (chain_at h (of_class k)) ≡ suc (order.depth_of h.origin.superclasses k)
  unfolding chain_at chain_of
  listed-depth k inside =
      let fewer = depth-fewer h.origin.superclasses k sound.chains inside in
      let n = length-supers h in
      ap (λ b. length (cond b (chain_up (length (table h).supers) (table h).supers (of_class k)) [])) (ap is_some (listed-presence k inside))
      ∙ chain-length (length (table h).supers) k inside (omega (arith, fewer, n))
