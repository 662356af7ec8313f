-- The lookups of a send, by what the send means.
use Rattle.std.specs.Prelude.{ℕ, List, [], ◌∷◌, Option}
use Rattle.msg_names.specs.declared.value.ClassRef.{ClassRef}
use Rattle.msg_tables.specs.History.{History, lookup, holder}
use Rattle.msg_eval.specs.Meaning.{Meaning, Ends, Asks}

-- A lookup: the class reference that was asked, for which selector, the implementation that was
-- found, or 0 for forwarding, and the class reference where its method is.
pub record Looked : Type 0 where
  pub class : ClassRef
  pub sel : ℕ
  pub imp : ℕ
  pub holder : Option ClassRef

-- the lookup of a selector at a history
abbrev pub looked_at : History → ClassRef → ℕ → Looked
looked_at h c s = record { class = c; sel = s; imp = lookup h c s; holder = holder h c s }

-- the lookups that a send makes at a history, in their order
abbrev pub lookups_of : History → Meaning → List Looked
lookups_of h (Ends r) = []
lookups_of h (Asks c s go) = looked_at h c s ∷ lookups_of h (go (lookup h c s))
