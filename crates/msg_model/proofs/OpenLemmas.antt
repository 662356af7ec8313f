-- The machine before the first event.
use Rattle.std.proofs.Common.{◌≡◌, ◌≤◌, ◌*◌, ℕ, zero, suc, List, [], ◌∷◌, length, map, replicate, get_or, Some, None, refl, sym, ap, ◌∙◌, subst}
use Rattle.std.proofs.lemmas.List.{length-map, length-replicate}
use Rattle.msg_names.specs.declared.value.ClassRef.{ClassRef}
use Rattle.msg_tables.specs.Origin.{class_total, OriginView}
use Rattle.msg_tables.specs.History.{History, empty}
use Rattle.msg_names.specs.ClassRef.{slot_of}
use Rattle.msg_model.specs.declared.state.Standing.TheVariants.{Free, Live}
use Rattle.msg_tables.specs.declared.limits.TheConstants.{MOST_SENDERS}
use Rattle.msg_model.specs.declared.state.Whereabouts.TheVariants.{Out, Holding}
use Rattle.msg_model.specs.Runs.{opening}
use Rattle.msg_model.specs.View.{MachineView, IsWhole, layout_of, state_of, live_at, word_at, standing_at, sender_at}

same_everywhere : {A : Type 0} (n : ℕ) (x : A) (k : ℕ) → get_or (replicate n x) k x ≡ x
same_everywhere zero x k = refl
same_everywhere (suc n) x zero = refl
same_everywhere (suc n) x (suc k) = same_everywhere n x k

empty_words : (capacities : List ℕ) (a p : ℕ) → word_at (map (λ n. replicate n 0) capacities) a p ≡ 0
empty_words [] a p = refl
empty_words (n ∷ ns) zero p = same_everywhere n 0 p
empty_words (n ∷ ns) (suc a) p = empty_words ns a p

empty_lengths : (capacities : List ℕ) → map (length {A = ℕ}) (map (λ n. replicate {A = ℕ} n 0) capacities) ≡ capacities
empty_lengths [] = refl
empty_lengths (n ∷ ns) = let zero : ℕ = 0 in λ i. length-replicate n zero i ∷ empty_lengths ns i

-- a machine of an origin that was just opened
pub record IsNew (origin : OriginView) (senders : ℕ) (capacities : List ℕ) (v : MachineView) : Type 0 where
  pub history : v.history ≡ empty origin
  pub live : v.live ≡ replicate (2 * class_total origin) None
  pub arrays : v.arrays ≡ map (λ n. replicate n 0) capacities
  pub standings : v.standings ≡ replicate (length capacities) Free
  pub whereabouts : v.whereabouts ≡ replicate senders Out

module _ (origin : OriginView) (senders : ℕ) (capacities : List ℕ) (v : MachineView) (new : IsNew origin senders capacities v) where
  no_live : (c : ClassRef) → live_at v.live c ≡ None
  no_live c = ap (λ live. live_at live c) new.live ∙ same_everywhere (2 * class_total origin) None (slot_of c)

  all_free : (a : ℕ) → standing_at v.standings a ≡ Free
  all_free a = ap (λ standings. standing_at standings a) new.standings ∙ same_everywhere (length capacities) Free a

  all_out : (n : ℕ) → sender_at v.whereabouts n ≡ Out
  all_out n = ap (λ whereabouts. sender_at whereabouts n) new.whereabouts ∙ same_everywhere senders Out n

  pub new_layout : layout_of v ≡ record { classes = class_total origin; senders = senders; capacities = capacities }
  new_layout = λ i. record {
    classes = class_total (new.history i).origin;
    senders = (ap length new.whereabouts ∙ length-replicate senders Out) i;
    capacities = (ap (map (length {A = ℕ})) new.arrays ∙ empty_lengths capacities) i;
  }

  pub new_state : state_of v ≡ opening origin
  new_state = λ i. record {
    history = new.history i;
    live = λ c. no_live c i;
    word = λ a p. (ap (λ arrays. word_at arrays a p) new.arrays ∙ empty_words capacities a p) i;
    standing = λ a. all_free a i;
    whereabouts = λ n. all_out n i;
  }

  pub new_whole : senders ≤ MOST_SENDERS → IsWhole v
  new_whole few = record {
    headers = ap length new.live ∙ length-replicate (2 * class_total origin) None ∙ ap (λ (h : History). 2 * class_total h.origin) (sym new.history);
    standings = ap length new.standings ∙ length-replicate (length capacities) Free ∙ sym (ap length new.arrays ∙ length-map capacities (λ n. replicate n 0));
    few_senders = subst (λ n. n ≤ MOST_SENDERS) (sym (ap length new.whereabouts ∙ length-replicate senders Out)) few;
    live_arrays = λ c a e. let u : None ≡ Some a = sym (no_live c) ∙ e in absurd (cc);
    held_arrays = λ n c a e. let u : Out ≡ Holding c a = sym (all_out n) ∙ e in absurd (cc);
    live_classes = λ a c e. let u : Free ≡ Live c = sym (all_free a) ∙ e in absurd (cc);
  }
