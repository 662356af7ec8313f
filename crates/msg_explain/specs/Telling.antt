-- How a place is told.
use Rattle.std.specs.Prelude.{ℕ, List, [], ◌∷◌, ◌++◌, codes}
use Rattle.msg_io.specs.Decimal.{digits}
use Rattle.msg_explain.specs.declared.place.Step.{Step}
use Rattle.msg_explain.specs.declared.place.Step.TheVariants.{Key, Place}

-- `.key` or `[place]`
abbrev pub step_text : Step → List ℕ
step_text (Key k) = codes "." ++ k.now
step_text (Place i) = codes "[" ++ digits i ++ codes "]"

abbrev pub steps_text : List Step → List ℕ
steps_text [] = []
steps_text (s ∷ path) = step_text s ++ steps_text path

-- a path, as `items[3].send[1]`
abbrev pub path_text : List Step → List ℕ
path_text [] = codes "the document"
path_text (Key k ∷ path) = k.now ++ steps_text path
path_text (Place i ∷ path) = steps_text (Place i ∷ path)
