-- From the answer on a value to the answer on bytes, of which there is one.
use Rattle.std.proofs.Common.{◌≡◌, ◌≢◌, ℕ, ◌≤◌, List, length, Bool, true, false, Option, None, Some, Result, Ok, Err, refl, sym, ap, ◌∙◌, arith}
use Rattle.std.specs.Prelude.{nat_lt}
use Rattle.std.proofs.lemmas.Bool.Decides.{nat_tests}
use Rattle.std.specs.Result.{IfOk, IfErr}
use Rattle.serde_json.specs.Data.{Data}
use Rattle.msg_form.specs.declared.faults.DocumentFault.TheVariants.{Memory}
use Rattle.msg_image.specs.declared.document.Document.{Document}
use Rattle.msg_image.specs.DocumentParts.{document_parts}
use Rattle.msg_form.specs.declared.faults.DocumentFault.{DocumentFault}
use Rattle.msg_form.specs.declared.faults.ReadFault.{ReadFault}
use Rattle.msg_form.specs.declared.faults.ReadFault.TheVariants as reading
use Rattle.msg_form.specs.Gives.{Fails}
use Rattle.msg_form.specs.Shape.{form_of}
use Rattle.msg_form.specs.Unread.{unread}
use Rattle.msg_form.specs.Form.{Form}
use Rattle.msg_image.specs.Answer.{IsJson, IsAnswer, IsJudged, Spells, judged, answer, most_bytes}
use Rattle.msg_image.specs.Items.{DocumentParts}

pub answered : (bytes : List ℕ) (o : Option Data) (r : Result DocumentParts DocumentFault) → length bytes ≤ most_bytes → IsJson bytes o → answer o ≡ r → IsAnswer bytes r
answered bytes o r le is e = let k : nat_lt most_bytes (length bytes) ≡ false = grind (arith, nat_tests) in rw k (o, is, sym e)

-- of a form, as it is judged
pub answers-ok : (bytes : List ℕ) (f : Form) (r : Result Document DocumentFault) → length bytes ≤ most_bytes → Spells bytes f → IfOk r (λ x. judged (Some f) ≡ Ok (document_parts x)) → IfOk r (λ x. IsAnswer bytes (Ok (document_parts x)))
answers-ok bytes f (Ok x) le is h = answered bytes (Some is.0) (Ok (document_parts x)) le is.1 (ap judged is.2 ∙ h)
answers-ok bytes f (Err e) le is h = tt

pub answers-err : (bytes : List ℕ) (f : Form) (r : Result Document DocumentFault) → length bytes ≤ most_bytes → Spells bytes f → IfErr r (λ e. e ≢ Memory → judged (Some f) ≡ Err e) → IfErr r (λ e. e ≢ Memory → IsAnswer bytes (Err e))
answers-err bytes f (Ok x) le is h = tt
answers-err bytes f (Err e) le is h = λ other. answered bytes (Some is.0) (Err e) le is.1 (ap judged is.2 ∙ h other)

-- a value that spells no form, as the program tells it
pub not_spelled : (bytes : List ℕ) (d : Data) (f : ReadFault) (e : DocumentFault) → IsJson bytes (Some d) → Fails f (form_of d) → e ≡ unread f → e ≢ Memory → IsJudged bytes (Err e)
not_spelled bytes d reading.Memory e is none same other = absurd (other same)
not_spelled bytes d reading.Shape e is none same other = (Some d, is, ap Err same ∙ sym (ap judged none))

-- where there is no form
pub refused : (bytes : List ℕ) (e : DocumentFault) → length bytes ≤ most_bytes → IsJudged bytes (Err e) → IsAnswer bytes (Err e)
refused bytes e le is = answered bytes is.0 (Err e) le is.1 (sym is.2)

same_value : (bytes : List ℕ) (o p : Option Data) → IsJson bytes o → IsJson bytes p → o ≡ p
same_value bytes None None g h = refl
same_value bytes None (Some d) g h = absurd (g d h.0 h.1)
same_value bytes (Some c) None g h = absurd (h c g.0 g.1)
same_value bytes (Some c) (Some d) g h = sym g.1 ∙ h.1

one_at : (over : Bool) (bytes : List ℕ) (r s : Result DocumentParts DocumentFault) → nat_lt most_bytes (length bytes) ≡ over → IsAnswer bytes r → IsAnswer bytes s → r ≡ s
one_at true bytes r s k g h = (rw k at g) ∙ sym (rw k at h)
one_at false bytes r s k g h =
    let a = rw k at g in
    let b = rw k at h in
    a.2 ∙ ap answer (same_value bytes a.0 b.0 a.1 b.1) ∙ sym b.2

-- there is one answer at most
pub one : (bytes : List ℕ) (r s : Result DocumentParts DocumentFault) → IsAnswer bytes r → IsAnswer bytes s → r ≡ s
one bytes r s g h = one_at _ bytes r s refl g h
