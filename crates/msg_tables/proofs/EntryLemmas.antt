-- What an entry of a journal describes.
use Rattle.std.proofs.Common.{◌≡◌, ℕ, Bool, true, false, [], ◌∷◌, Option, Some, refl, ap, ap₂, ◌∙◌}
use Rattle.std.specs.Prelude.{◌||◌, ◌==◌}
use Rattle.std.specs.Option.{option_map_or}
use Rattle.msg_names.specs.declared.value.ClassRef.{ClassRef}
use Rattle.msg_tables.specs.Chain.{is_member}
use Rattle.msg_tables.specs.Journal.{classes_of, place_of, places_of}
use Rattle.msg_tables.specs.Log.{Log, chain_at}
use Rattle.msg_tables.specs.Making.{is_told}
use Rattle.msg_tables.specs.Several.{is_below, is_of_one}
use Rattle.msg_tables.specs.declared.entry.Entry.{Entry}
use Rattle.msg_tables.specs.declared.entry.Entry.TheVariants as entries

pub or-none : (a : Bool) → (a || false) ≡ a
or-none true = refl
or-none false = refl

-- an entry of a class, and of no place, describes only that class
pub told-class : (h : Log) (e : Entry) (k : ℕ) (c : ClassRef) → classes_of (e ∷ []) ≡ k ∷ [] → places_of (e ∷ []) ≡ [] → is_told h (e ∷ []) c ≡ (c.class == k)
told-class h e k c classes places = ap₂ (λ ks ps. is_of_one ks c || is_below h ps c) classes places ∙ or-none ((c.class == k) || false) ∙ or-none (c.class == k)

same-some : (c p : ClassRef) → Some c ≡ Some p → c ≡ p
same-some c p e = ap (λ (o : Option ClassRef). option_map_or (λ q. q) o c) e

-- an entry of a place describes that place and those below
pub told-place : (h : Log) (e : Entry) (p c : ClassRef) → place_of e ≡ Some p → is_told h (e ∷ []) c ≡ is_member p (chain_at h c)
told-place h (entries.Added q s) p c is = or-none (is_member q (chain_at h c)) ∙ ap (λ z. is_member z (chain_at h c)) (same-some q p is)
told-place h (entries.Rewrote q s i) p c is = or-none (is_member q (chain_at h c)) ∙ ap (λ z. is_member z (chain_at h c)) (same-some q p is)
told-place h (entries.Removed q s i at) p c is = or-none (is_member q (chain_at h c)) ∙ ap (λ z. is_member z (chain_at h c)) (same-some q p is)
told-place h (entries.Made k) p c is = cc
told-place h (entries.Disposed k s at) p c is = cc
