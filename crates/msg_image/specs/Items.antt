-- Items and documents, with no pointers.
use Rattle.std.specs.Prelude.{List}
use Rattle.msg_names.specs.declared.value.Selector.{Selector}
use Rattle.msg_names.specs.declared.value.Value.{Value}
use Rattle.msg_tables.specs.declared.change.Change.{Change}
use Rattle.msg_image.specs.Parts.{ImageParts}

-- an item, with numbers for names
pub data ItemParts : Type 0 where
  -- receiver, selector, arguments
  SendItem : Value → Selector → List Value → ItemParts
  ChangeItem : Change → ItemParts
  -- changes that are made as one
  ChangeAllItem : List Change → ItemParts

-- a document: an image and what is to be done with it
pub record DocumentParts : Type 0 where
  pub image : ImageParts
  pub items : List ItemParts
