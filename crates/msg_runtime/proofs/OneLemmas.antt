-- A change that is made alone, as a list of one.
use Rattle.std.proofs.Common.{◌≡◌, ◌<◌, ◌≤◌, ◌+◌, ℕ, true, inl, inr, [], ◌∷◌, Option, None, Some, length, take, refl, sym, ap, subst, ◌∙◌, arith}
use Rattle.std.specs.Prelude.{◌⊎◌, option_map}
use Rattle.std.proofs.lemmas.Bool.{cases_lt}
use Rattle.msg_tables.specs.declared.apply_all.Refused.{Refused}
use Rattle.msg_tables.specs.declared.change.Change.{Change}
use Rattle.msg_tables.specs.declared.fault.ChangeFault.{ChangeFault}
use Rattle.msg_tables.specs.declared.fault.ChangeFault.TheVariants.{Memory}
use Rattle.msg_tables.specs.History.{History, log}
use Rattle.msg_tables.specs.Made.{AreMade, AreRefused}
use Rattle.msg_tables.specs.Refusal.{refusal}
use Rattle.msg_tables.specs.Several.{refused_from}
use Rattle.msg_tables.proofs.SeveralLemmas.{refused-one_at}
use Rattle.msg_tables.specs.RoomLaws.{adds_no_row}
use Rattle.msg_tables.proofs.NoRowLemmas.{no-row-wants-none}
use Rattle.msg_runtime.specs.Calls.{HasRoomForRows, LacksRoomFor, WantsRoom}
use Rattle.msg_runtime.specs.Changed.{IsAccepted, IsMadeAt, IsRefusedAt}
use Rattle.msg_runtime.specs.View.{RuntimeView}
use Rattle.msg_runtime.specs.declared.runtime.TheConstants.{OPENING_ENTRIES}

none-alone : (o : Option ChangeFault) → option_map (λ f. (let p : ℕ × ChangeFault = (0, f) in p)) o ≡ None → o ≡ None
none-alone None e = refl
none-alone (Some f) e = cc

some-alone : (o : Option ChangeFault) (n : ℕ) (f : ChangeFault) → option_map (λ g. (let p : ℕ × ChangeFault = (0, g) in p)) o ≡ Some (n, f) → o ≡ Some f
some-alone None n f e = cc
some-alone (Some g) n f e = ap (λ o. option_map (λ (p : ℕ × ChangeFault). p.1) o) e

accepted-alone : (h : History) (x : Change) → refused_from 0 (log h) (x ∷ []) ≡ None → IsAccepted h x
accepted-alone h x none = none-alone (refusal (log h) x) (sym (refused-one_at (log h) x) ∙ none)

pub made_alone : (old new : History) (x : Change) (n : ℕ) → AreMade (x ∷ []) old new → n ≡ length new.changes → IsMadeAt old x new n
made_alone old new x n made count = (accepted-alone old x made.accepted, made.history, count)

pub refused_alone : (h : History) (x : Change) (r : Refused) → AreRefused (x ∷ []) h r → IsRefusedAt h x r.fault
refused_alone h x r refused = λ other. some-alone (refusal (log h) x) r.place r.fault (sym (refused-one_at (log h) x) ∙ refused.fault other)

-- if memory was lacking for it, it was accepted
pub wanting_alone : (h : History) (x : Change) (r : Refused) → AreRefused (x ∷ []) h r → r.fault ≡ Memory → IsAccepted h x
wanting_alone h x r refused memory =
    let first : r.place ≡ 0 = omega (arith, refused.place) in
    accepted-alone h x (subst (λ n. refused_from 0 (log h) (take (n + 1) (x ∷ [])) ≡ None) first (refused.memory memory))

-- a change that adds no row needs no memory, if there is room for two entries
pub no_row_alone : (v : RuntimeView) (x : Change) (r : Refused) → AreRefused (x ∷ []) v.keeper.history r → HasRoomForRows v → WantsRoom v (x ∷ []) r → r.fault ≡ Memory → adds_no_row x ≡ true
    → v.written.room < OPENING_ENTRIES
no_row_alone v x r refused rows wants memory none = split (cases_lt v.written.room 2)
  where
    first : r.place ≡ 0
    first = omega (arith, refused.place)

    lacks : LacksRoomFor v (x ∷ [])
    lacks = subst (λ n. LacksRoomFor v (take (n + 1) (x ∷ []))) first (wants memory)

    split : (v.written.room < 2) ⊎ (2 ≤ v.written.room) → v.written.room < OPENING_ENTRIES
    split (inl few) = few
    split (inr many) = absurd (no-row-wants-none (log v.keeper.history) v.rooms v.written.room x none rows many lacks)
