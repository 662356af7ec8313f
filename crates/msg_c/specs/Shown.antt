-- How a report is shown to C.
use Rattle.std.specs.Prelude.{◌≡◌, ◌<◌, ℕ, List, [], ◌∷◌, length, slice_index}
use Rattle.msg_cache.specs.declared.answer.Report.{Report}
use Rattle.msg_host.specs.Config.{word_at}

-- a report's counts, one after another
abbrev pub counts_of : Report → List ℕ
counts_of r = r.fills ∷ r.growths ∷ r.flushes ∷ r.retired ∷ r.given_again ∷ r.collections ∷ r.freed
    ∷ slice_index r.no_array 0 ∷ slice_index r.no_array 1 ∷ slice_index r.no_array 2 ∷ slice_index r.no_array 3 ∷ slice_index r.no_array 4
    ∷ slice_index r.no_array 5 ∷ slice_index r.no_array 6 ∷ slice_index r.no_array 7 ∷ slice_index r.no_array 8 ∷ r.refused_senders ∷ []

-- words are a report's counts, as many as there is room for, and 0 beyond the last
pub record IsShown (words : List ℕ) (r : Report) : Type 0 where
  pub counts : (place : ℕ) → place < length words → word_at words place ≡ word_at (counts_of r) place
