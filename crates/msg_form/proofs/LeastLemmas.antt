-- The first of the conditions that a form meets has the least number.
use Rattle.std.proofs.Common.{◌≡◌, ◌≤◌, ℕ, zero, suc, List, [], ◌∷◌, length, Bool, true, false, cond, Some, slice_get, refl, sym, ap, ◌∙◌, arith, rules}
use Rattle.std.specs.Prelude.{Contains}
use Rattle.std.proofs.lemmas.Option.{same_Some, slice_get_read}
use Rattle.msg_form.specs.FaultNumber.{document_fault_number}
use Rattle.msg_form.specs.Faults.{Condition, conditions, first_of, fault_of}
use Rattle.msg_form.specs.Form.{Form}
use Rattle.msg_form.specs.declared.faults.DocumentFault.{DocumentFault}

-- the numbers rise from a least one
abbrev Rise : ℕ → List Condition → Type 0
Rise least [] = Unit {0}
Rise least (c ∷ cs) = (least ≤ document_fault_number c.0) × Rise (document_fault_number c.0) cs

-- the fault of a condition that holds isn't below the fault that is returned
at_most : (least place : ℕ) (cs : List Condition) (f : Form) (told : DocumentFault) (c : Condition) → Rise least cs → first_of cs f ≡ Some told → slice_get cs place ≡ Some c → c.1 f ≡ true → document_fault_number told ≤ document_fault_number c.0
at_most least place [] f told c rise e at met = cc
at_most least zero (d ∷ cs) f told c rise e at met =
    let same : d ≡ c = same_Some d c at in
    let first : d.1 f ≡ true = ap (λ (x : Condition). x.1 f) same ∙ met in
    let is : told ≡ d.0 = sym (same_Some d.0 told (rw first at e)) in
    omega (arith, ap document_fault_number is, ap (λ (x : Condition). document_fault_number x.0) same)
at_most least (suc place) (d ∷ cs) f told c rise e at met = at_test (d.1 f) refl e (λ rest. at_most (document_fault_number d.0) place cs f told c rise.1 rest at met) (λ rest. met_above (document_fault_number d.0) place cs c rise.1 at)
  where
    met_above : (n p : ℕ) (xs : List Condition) (x : Condition) → Rise n xs → slice_get xs p ≡ Some x → n ≤ document_fault_number x.0
    met_above n p [] x r h = cc
    met_above n zero (y ∷ xs) x r h = omega (arith, r.0, ap (λ (z : Condition). document_fault_number z.0) (same_Some y x h))
    met_above n (suc p) (y ∷ xs) x r h = omega (arith, r.0, met_above (document_fault_number y.0) p xs x r.1 h)

    at_test : (b : Bool) → d.1 f ≡ b → cond b (Some d.0) (first_of cs f) ≡ Some told → (first_of cs f ≡ Some told → document_fault_number told ≤ document_fault_number c.0) → (Unit {0} → document_fault_number d.0 ≤ document_fault_number c.0)
        → document_fault_number told ≤ document_fault_number c.0
    at_test true is h later above = omega (arith, ap document_fault_number (same_Some d.0 told h), above tt)
    at_test false is h later above = later h

pub least_told : (f : Form) (told : DocumentFault) (c : Condition) → fault_of f ≡ Some told → Contains conditions c → c.1 f ≡ true → document_fault_number told ≤ document_fault_number c.0
unfolding fault_of
least_told f told c e listed met = at_most 0 listed.0 conditions f told c rise e (slice_get_read conditions (length conditions) listed.0 c refl listed.1 (sym listed.2)) met
  where
    rise : Rise 0 conditions
    rise = search rules
