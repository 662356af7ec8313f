-- The fields of `Texts`.
use Rattle.std.specs.Prelude.{◌≤◌, ℕ, List, length}
use Rattle.msg_names.specs.Numbering.{AreNumbered}
use Rattle.msg_names.specs.declared.texts.TheConstants.{MAX_TEXTS}
use Rattle.msg_names.specs.declared.texts.Texts.TheInside.{Inside}
use Rattle.msg_names.specs.Texts.{texts_of}

-- what contracts see of texts
abbrev pub view_of : Inside → List (List ℕ)
view_of t = texts_of t.set.keys

-- each text has a number, and no text occurs twice
pub record AreTexts (t : Inside) : Type 0 where
  pub few : length t.set.keys ≤ MAX_TEXTS
  pub numbered : AreNumbered (texts_of t.set.keys)
