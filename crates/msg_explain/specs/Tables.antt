-- What is wanted at the keys and places of a part, as the format's table has them.
use Rattle.std.specs.Prelude.{ℕ, ◌+◌, ◌==◌, ◌&&◌, ◌||◌, nat_le, ℤ, List, [], ◌∷◌, Bool, codes, if◌then◌else◌, Option, None, Some, unwrap_or}
use Rattle.std.specs.Borrow.{Bor}
use Rattle.serde_json.specs.Data.{Data}
use Rattle.serde_json.specs.Find.{as_str}
use Rattle.msg_form.specs.ExprShape.{is_word, operator_of}
use Rattle.msg_form.specs.Json.{field_of, value_of, whole_of}
use Rattle.msg_form.specs.Text.{Text}
use Rattle.msg_form.specs.Version.{is_second, is_third}
use Rattle.msg_form.specs.declared.form.Operator.{Operator}
use Rattle.msg_explain.specs.declared.part.Edition.{Edition}
use Rattle.msg_explain.specs.declared.part.Edition.TheVariants.{First, Second, Third}
use Rattle.msg_explain.specs.declared.part.Naming.TheVariants as names
use Rattle.msg_explain.specs.declared.part.Part.{Part}
use Rattle.msg_explain.specs.declared.part.Part.TheVariants.{Document, Version, Class, Category, Object, Imp, Item, Name, Superclass, MadeUnder, Pair, Attached, Truth, Args, Body, Send, Changes, Change, Constant, Selector, Index}
use Rattle.msg_explain.specs.declared.part.Wanted.{Wanted}
use Rattle.msg_explain.specs.declared.part.Wanted.TheVariants.{One, Many}

-- a key, and what is wanted there
abbrev pub Key : Type 0
Key = Text × Wanted

-- a key without its pointer
abbrev pub key_view : Bor Text × Wanted → Key
key_view k = (k.0.now, k.1)

-- ---- the keys of an object

abbrev pub version_key : Key
version_key = (codes "version", One Version)

abbrev pub made_key : Key
made_key = (codes "made", Many (Name names.NewClass))

-- the lists that each document has
abbrev pub list_keys : Edition → List Key
list_keys e =
    (codes "classes", Many Class) ∷
    (codes "categories", Many Category) ∷
    (codes "objects", Many Object) ∷
    (codes "imps", Many Imp) ∷
    (codes "items", Many (Item e)) ∷
    []

-- the keys of an object that is to spell a part
abbrev pub part_keys : Part → List Key
part_keys (Document First) = version_key ∷ list_keys First
part_keys (Document Second) = version_key ∷ made_key ∷ list_keys Second
part_keys (Document Third) = version_key ∷ made_key ∷ list_keys Third
part_keys Class = (codes "name", One (Name names.NewClass)) ∷ (codes "super", One Superclass) ∷ (codes "methods", Many Pair) ∷ (codes "class_methods", Many Pair) ∷ []
part_keys Category = (codes "class", One (Name names.Listed)) ∷ (codes "methods", Many Pair) ∷ (codes "class_methods", Many Pair) ∷ []
part_keys Object = (codes "name", One (Name names.NewObject)) ∷ (codes "class", One (Name names.Class)) ∷ []
part_keys Imp = (codes "name", One (Name names.NewImp)) ∷ (codes "class", One (Name names.Listed)) ∷ (codes "meta", One Truth) ∷ (codes "args", One Args) ∷ (codes "body", One Body) ∷ []
part_keys (Item e) = (codes "send", One Send) ∷ (codes "change", One (Changes e)) ∷ []
part_keys p = []

-- the keys of what is wanted
abbrev pub keys : Wanted → List Key
keys (One p) = part_keys p
keys (Many p) = []

-- ---- the places of a list, by the word that it begins with

-- what is wanted at the only place behind the word
abbrev pub only : Part → ℕ → Option Wanted
only p i = if i == 1 then Some (One p) else None

-- `["obj",N]`, `["class",N]` or `["sel",S]`
abbrev pub at_constant : Text → ℕ → Option Wanted
at_constant word i =
    if is_word word (codes "obj") then only (Name names.Object) i else
    (if is_word word (codes "class") then only (Name names.Class) i else
    (if is_word word (codes "sel") then only Selector i else
    None))

-- bodies at so many places behind the word
abbrev pub bodies : ℕ → ℕ → Option Wanted
bodies count i = if nat_le 1 i && nat_le i count then Some (One Body) else None

-- bodies from a place on, and a selector before them
abbrev pub arguments : ℕ → ℕ → Option Wanted
arguments selector i = if i == selector then Some (One Selector) else (if nat_le selector i then Some (One Body) else None)

abbrev pub at_operation : Option Operator → Text → ℕ → Option Wanted
at_operation (Some o) word i = bodies 2 i
at_operation None word i = at_constant word i

-- an expression E
abbrev pub at_body : Text → ℕ → Option Wanted
at_body word i =
    if is_word word (codes "arg") then only Index i else
    (if is_word word (codes "if") then bodies 3 i else
    (if is_word word (codes "send") then (if i == 1 then Some (One Body) else arguments 2 i) else
    (if is_word word (codes "super") then arguments 1 i else
    at_operation (operator_of word) word i)))

-- `N,meta,S`, from a place on
abbrev pub at_method : ℕ → ℕ → Option Wanted
at_method from i = if i == from then Some (One (Name names.Class)) else (if i == from + 1 then Some (One Truth) else (if i == from + 2 then Some (One Selector) else None))

abbrev pub is_edit : Text → Bool
is_edit word = is_word word (codes "add") || is_word word (codes "replace") || is_word word (codes "set")

-- a change X
abbrev pub at_change : Text → ℕ → Option Wanted
at_change word i =
    if is_edit word then (if i == 4 then Some (One (Name names.Imp)) else at_method 1 i) else
    (if is_word word (codes "exchange") then (if nat_le 4 i then at_method 4 i else at_method 1 i) else
    (if is_word word (codes "attach") then (if i == 1 then Some (One (Name names.Class)) else (if i == 2 || i == 3 then Some (Many Attached) else None)) else
    (if is_word word (codes "make") then (if i == 1 then Some (One (Name names.Class)) else (if i == 2 then Some (One MadeUnder) else None)) else
    (if is_word word (codes "remove") then at_method 1 i else
    (if is_word word (codes "dispose") then only (Name names.Class) i else
    None)))))

-- `["all",X,X,..]` of version 3, or a change X
abbrev pub at_changes : Edition → Text → ℕ → Option Wanted
at_changes First word i = at_change word i
at_changes Second word i = at_change word i
at_changes Third word i = if is_word word (codes "all") then (if nat_le 1 i then Some (One Change) else None) else at_change word i

-- an entry `[S,N]`
abbrev pub at_pair : ℕ → Option Wanted
at_pair i = if i == 0 then Some (One Selector) else only (Name names.Imp) i

abbrev pub at_part : Part → Text → ℕ → Option Wanted
at_part Pair word i = at_pair i
at_part Attached word i = at_pair i
at_part Body word i = at_body word i
at_part Send word i = if i == 1 then Some (One Selector) else Some (One Constant)
at_part (Changes e) word i = at_changes e word i
at_part Change word i = at_change word i
at_part Constant word i = at_constant word i
at_part p word i = None

-- what is wanted at a place of a list that begins with a word
abbrev pub at_place : Wanted → Text → ℕ → Option Wanted
at_place (One p) word i = at_part p word i
at_place (Many p) word i = Some (One p)

-- the word that a list begins with, or no text
abbrev pub word_of : List Data → Text
word_of ds = unwrap_or (value_of as_str 0 ds) []

-- ---- versions

abbrev pub edition_by : Option ℤ → Edition
edition_by None = First
edition_by (Some v) = if is_third v then Third else (if is_second v then Second else First)

-- the edition of a document
abbrev pub edition_of : Data → Edition
edition_of d = edition_by (field_of whole_of (codes "version") d)
