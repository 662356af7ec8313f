-- Dispatches and the bodies that they enter.
use Rattle.std.proofs.Common.{◌≡◌, ◌<◌, ◌≤◌, ◌+◌, ◌-◌, ℕ, zero, suc, List, Some, refl, ap, subst, arith}
use Rattle.std.specs.Prelude.{Result, Ok, Err, slice_get}
use Rattle.msg_names.specs.Number.{selector_number}
use Rattle.msg_names.specs.declared.value.ClassRef.{ClassRef}
use Rattle.msg_names.specs.declared.value.Selector.{Selector}
use Rattle.msg_names.specs.declared.value.Value.{Value}
use Rattle.msg_image.specs.Parts.{ImageParts, ImpParts}
use Rattle.msg_eval.specs.declared.reply.SendFault.{SendFault}
use Rattle.msg_eval.specs.declared.reply.SendFault.TheVariants.{Depth}
use Rattle.msg_eval.specs.Evaluation.{bodies, eval, eval_body}
use Rattle.msg_eval.specs.Finder.{Steps}
use Rattle.msg_eval.specs.Meaning.{Meaning, Rest, Bodies, fault, go_on, ask}
use Rattle.msg_eval.specs.Message.{if_found, forward, dispatch}
use Rattle.msg_eval.specs.Step.{Gives, ComesTo}
use Rattle.msg_eval.proofs.StepLemmas.{then_gives, then_part, gives_fault}

module _ (image : ImageParts) (body : Bodies) (me : Value) (c from : ClassRef) (s : Selector) (xs : List Value) where
  -- what follows the lookup of a dispatch, after which at most t receivers come
  abbrev pub answered : ℕ → ℕ → ℕ → Rest → Meaning
  answered t i n k = if_found i (body i me xs n k) (forward image body me c s n (λ r n. dispatch image body t r.0 r.1 r.1 s xs n k))

  -- a dispatch begins with a lookup
  pub looks_up : (t n : ℕ) → n ≤ t → (u : ℕ) × (t ≤ suc u) × ((k : Rest) → dispatch image body t me c from s xs n k ≡ ask from (selector_number s) n (λ i m. answered u i m k))
  looks_up zero zero le = (zero, omega arith, λ k. refl)
  looks_up zero (suc n) le = absurd (omega arith)
  looks_up (suc t) n le = (t, omega arith, λ k. refl)

  module _ {P : Type 0} (step : Steps P) (is_in later : P → Type 0) (h : P) (whole : (Value → ℕ → Meaning) → Meaning) (t n : ℕ) (le : n ≤ t) (so_far : ComesTo step is_in h whole (dispatch image body t me c from s xs n)) where
    after_lookup : (r : Result ℕ SendFault) (m : ℕ) → ((p : P) → is_in p → Gives {A = ℕ} step later p (ask from (selector_number s) n) r m) → (u : ℕ) × (t ≤ suc u) × ComesTo step later h whole (λ k. go_on r m (λ i l. answered u i l k))
    after_lookup r m found =
        let (u, more, is) = looks_up t n le in
        (u, more, then_part step is_in later h whole (ask from (selector_number s) n) (answered u) r m (record { state = so_far.state; there = so_far.there; follows = λ k g w x. so_far.follows k g w (rw (is k) x) }) found)

    -- no lookup is left
    pub lookup_fails : (f : SendFault) (m : ℕ) → ((p : P) → is_in p → Gives {A = ℕ} step later p (ask from (selector_number s) n) (Err f) m) → Gives {A = Value} step later h whole (Err f) m
    lookup_fails f m found = let (u, more, comes) = after_lookup (Err f) m found in gives_fault step later h whole f m comes

    -- an implementation was found
    pub body_gives : (last : P → Type 0) (i m l : ℕ) (r : Result Value SendFault) → 0 < i → ((p : P) → is_in p → Gives {A = ℕ} step later p (ask from (selector_number s) n) (Ok i) m) → ((p : P) → later p → Gives {A = Value} step last p (body i me xs m) r l) → Gives {A = Value} step last h whole r l
    body_gives last zero m l r real found second = absurd (omega arith)
    body_gives last (suc i) m l r real found second = let (u, more, comes) = after_lookup (Ok (suc i)) m found in then_gives step later last h whole (body (suc i) me xs m) r l comes second

    -- none was found, and the receiver was asked for a target
    after_forwarding : (last : P → Type 0) (i m l : ℕ) (r : Result (Value × ClassRef) SendFault) → i ≡ 0 → ((p : P) → is_in p → Gives {A = ℕ} step later p (ask from (selector_number s) n) (Ok i) m) → ((p : P) → later p → Gives {A = Value × ClassRef} step last p (forward image body me c s m) r l) → (u : ℕ) × (t ≤ suc u) × ComesTo step last h whole (λ k. go_on r l (λ w j. dispatch image body u w.0 w.1 w.1 s xs j k))
    after_forwarding last zero m l r none found second =
        let (u, more, comes) = after_lookup (Ok zero) m found in
        (u, more, then_part step later last h whole (forward image body me c s m) (λ w j k. dispatch image body u w.0 w.1 w.1 s xs j k) r l comes second)
    after_forwarding last (suc i) m l r none found second = absurd (omega (arith, none))

    pub forwarding_fails : (last : P → Type 0) (i m l : ℕ) (f : SendFault) → i ≡ 0 → ((p : P) → is_in p → Gives {A = ℕ} step later p (ask from (selector_number s) n) (Ok i) m) → ((p : P) → later p → Gives {A = Value × ClassRef} step last p (forward image body me c s m) (Err f) l) → Gives {A = Value} step last h whole (Err f) l
    forwarding_fails last i m l f none found second = let (u, more, comes) = after_forwarding last i m l (Err f) none found second in gives_fault step last h whole f l comes

    -- it answered a new receiver, and the dispatch starts again
    pub starts_again : (last : P → Type 0) (i m l : ℕ) (w : Value × ClassRef) → i ≡ 0 → m < n → l ≤ m → ((p : P) → is_in p → Gives {A = ℕ} step later p (ask from (selector_number s) n) (Ok i) m) → ((p : P) → later p → Gives {A = Value × ClassRef} step last p (forward image body me c s m) (Ok w) l) → (u : ℕ) × (l ≤ u) × ComesTo step last h whole (dispatch image body u w.0 w.1 w.1 s xs l)
    starts_again last i m l w none fewer no_more found second =
        let (u, more, comes) = after_forwarding last i m l (Ok w) none found second in
        (u, omega (arith, more, fewer, no_more, le), record { state = comes.state; there = comes.there; follows = comes.follows })

-- no more bodies may be active
pub no_body : (image : ImageParts) (d i : ℕ) (me : Value) (xs : List Value) (n : ℕ) (k : Rest) → d ≡ 0 → bodies image d i me xs n k ≡ fault Depth
unfolding bodies
no_body image zero i me xs n k e = refl
no_body image (suc d) i me xs n k e = absurd (omega (arith, e))

body_at : (image : ImageParts) (d i : ℕ) (me : Value) (xs : List Value) (n : ℕ) (parts : ImpParts) (k : Rest) → slice_get image.imps (i - 1) ≡ Some parts → bodies image (suc d) i me xs n k ≡ eval image (bodies image d) (record { me = me; args = xs; home = parts.home }) parts.body n k
unfolding bodies
body_at image d i me xs n parts k found = ap (eval_body image (bodies image d) me xs n k) found

-- the body of a listed implementation
pub body_of : (image : ImageParts) (d e i : ℕ) (me : Value) (xs : List Value) (n : ℕ) (parts : ImpParts) (k : Rest) → e + 1 ≡ d → slice_get image.imps (i - 1) ≡ Some parts → bodies image d i me xs n k ≡ eval image (bodies image e) (record { me = me; args = xs; home = parts.home }) parts.body n k
body_of image zero e i me xs n parts k is found = absurd (omega (arith, is))
body_of image (suc d) e i me xs n parts k is found =
    let same : d ≡ e = omega (arith, is) in
    subst (λ z. bodies image (suc d) i me xs n k ≡ eval image (bodies image z) (record { me = me; args = xs; home = parts.home }) parts.body n k) same (body_at image d i me xs n parts k found)
