-- What is noted of a send.
use Rattle.std.proofs.Common.{◌≡◌, ℕ, suc, List, [], ◌∷◌, ◌++◌, length, refl, sym, ap, subst, ◌∙◌, append_assoc, append-nil}
use Rattle.msg_tables.specs.History.{History, lookup}
use Rattle.msg_eval.specs.declared.reply.Reply.{Reply}
use Rattle.msg_eval.specs.Meaning.{Meaning, Ends, Asks}
use Rattle.msg_eval.specs.Points.{plain_reply}
use Rattle.msg_eval.specs.Step.{Leads}
use Rattle.msg_reasons.specs.Looked.{all_looked}
use Rattle.msg_reasons.specs.Lookups.{Looked, looked_at, lookups_of}
use Rattle.msg_reasons.specs.Noted.{Noted, NotesLookup}
use Rattle.msg_reasons.specs.declared.notes.Lookup.{Lookup}

abbrev pub noted_at : History → List Looked → Noted
noted_at h ls = record { history = h; lookups = ls }

-- A send's lookups were noted after those before it, and it ends with its reply.
pub noted-after : (h : History) (done : List Looked) (send : Meaning) (q : Noted) (r : Reply) → Leads NotesLookup send (noted_at h done) q r → (q.lookups ≡ done ++ lookups_of h send) × (r ≡ plain_reply h send)
noted-after h done (Ends e) q r (is, same) = (ap (λ (p : Noted). p.lookups) (sym same) ∙ sym (append-nil done), sym is)
noted-after h done (Asks c s go) q r (next, i, (found, is), more) =
    let here : Leads NotesLookup (go (lookup h c s)) (noted_at h (done ++ looked_at h c s ∷ [])) q r =
    subst (λ (j : ℕ). Leads NotesLookup (go j) (noted_at h (done ++ looked_at h c s ∷ [])) q r) found
    (subst (λ (p : Noted). Leads NotesLookup (go i) p q r) is more) in
    let (lookups, reply) = noted-after h (done ++ looked_at h c s ∷ []) (go (lookup h c s)) q r here in
    (lookups ∙ append_assoc done (looked_at h c s ∷ []) (lookups_of h (go (lookup h c s))), reply)

-- as many were looked up as were noted
pub count_looked : (ls : List Lookup) → length (all_looked ls) ≡ length ls
count_looked [] = refl
count_looked (l ∷ ls) = ap suc (count_looked ls)
