-- What two machines agree on that take equal steps: all that a run asks of what the program answers, at the types,
-- methods and forms that a run comes to.
use Rattle.std.specs.Prelude.{◌≡◌, ℕ, Bool, true, false, ◌||◌, ◌⊎◌, not, List, [], ◌∷◌, filter, Option, Some, None}
use Rattle.std.specs.List.{list_any}
use Rattle.insn_set.specs.declared.ops.InvokeKind.{InvokeKind}
use Rattle.insn_set.specs.declared.ops.InvokeKind.TheVariants as call
use Rattle.dalvik_defs.specs.Names.{Text, text_eq, array_of, base_of, item_of}
use Rattle.dalvik_defs.specs.Find.{Found, Search, Finds}
use Rattle.dalvik_defs.specs.Face.{Face, Place, Bodies, is_defined, is_concrete}
use Rattle.dalvik_defs.specs.State.{Classes, Done}
use Rattle.dalvik_defs.specs.Legal.{may_reach, may_make}
use Rattle.dalvik_defs.specs.Outer.{Outer}
use Rattle.dalvik_defs.specs.Shown.{reserved, fit_given}
use Rattle.dalvik_defs.specs.declared.names.MethodKey.{MethodKey}
use Rattle.dalvik_defs.specs.declared.names.FieldKey.{FieldKey}
use Rattle.dalvik_defs.specs.declared.forms.Form.{Form}
use Rattle.dalvik_defs.specs.declared.forms.Form.TheVariants as form
use Rattle.dalvik_defs.specs.declared.script.Given.TheVariants as given
use Rattle.dalvik_defs.specs.declared.program.NamedBody.{NamedBody}
use Rattle.dalvik_defs.specs.declared.program.NamedProgram.{NamedProgram}
use Rattle.pass_defs.specs.Bare.{may_throw}
use Rattle.pass_defs.specs.Walks.{form_at, onward, handlers_at}
use Rattle.pass_defs.specs.Mentions.{fields_in}
use Rattle.removal_law.specs.Left.{In}

-- each element of a list
abbrev pub Each : {A : Type 0} → (A → Type 0) → List A → Type 0
Each P [] = Unit {0}
Each P (x ∷ xs) = P x × Each P xs

-- the classes among some that aren't calm, and a face that names only these as initialised before a class
abbrev pub sieve : (Text → Bool) → List Text → List Text
sieve calm ts = filter (λ t. not (calm t)) ts

abbrev pub sieved : (Text → Bool) → Face → Face
sieved calm face = record face { first = λ t. sieve calm (face.first t) }

-- all calm classes are done
abbrev pub CalmDone : (Text → Bool) → Classes → Type 0
CalmDone calm c = (t : Text) → calm t ≡ true → c t ≡ Done

-- what a call in a method of a class finds, on an object of a type where it is virtual or of an interface
abbrev pub searched : Face → Text → InvokeKind → Text → MethodKey → Search
searched face class call.Static t k = face.statically k
searched face class call.Direct t k = face.statically k
searched face class call.Super t k = face.above class k
searched face class call.Virtual t k = face.virtually t k
searched face class call.Interface t k = face.virtually t k

-- `ok` are the types of objects and of names that a run comes to, `made` those that an object may have, `live` the
-- methods that are entered
module _ (ok made : Text → Type 0) (live : MethodKey → Type 0) where
  -- both find the same, and a method that is live
  pub record AgreeOnCall (a b : Search) : Type 0 where
    pub same : a ≡ b
    pub live_found : (g : Found) → a ≡ Finds g → live g.key

  -- both find the same field, of a type and in a class that a run comes to
  pub record AgreeOnField (k : FieldKey) (a b : Option Place) : Type 0 where
    pub same : a ≡ b
    pub kind : ok k.kind
    pub class : (x : Place) → a ≡ Some x → ok x.class

  -- a method that the framework may not enter
  pub record IsBarred (o : Outer) (face : Face) (f : Found) : Type 0 where
    pub kept : o.methods f.key ≡ false
    pub called : (t : Text) → ok t → made t → may_reach face o t f ≡ false

  -- a live method that the framework enters on the same objects
  pub record IsOpen (o : Outer) (F G : Face) (f : Found) : Type 0 where
    pub lives : live f.key
    pub called : (t : Text) → f.coded ≡ true → ok t → made t → may_reach F o t f ≡ may_reach G o t f

  -- both define such a method, or the first alone one that the framework may not enter
  abbrev pub AgreeOnDeclared : Outer → Face → Face → Option Found → Option Found → Type 0
  AgreeOnDeclared o F G None b = b ≡ None
  AgreeOnDeclared o F G (Some f) b = (IsOpen o F G f × (b ≡ Some f)) ⊎ (IsBarred o F f × (b ≡ None))

  -- `says` are the forms of live methods, `stands` the positions that their frames come to, and `calm` are classes whose initialisation does nothing
  pub record Agree (says : MethodKey → Form → Type 0) (stands : MethodKey → ℕ → Type 0) (calm : Text → Bool) (p : NamedProgram) (o : Outer) (F G : Face) (find other : Bodies) : Type 0 where
    -- types
    pub flags : (t : Text) → ok t → F.flags t ≡ G.flags t
    pub under : (t u : Text) → ok t → F.under t u ≡ G.under t u
    pub known : (t : Text) → list_any (text_eq t) reserved ≡ true → ok t × made t
    pub empty : ok [] × made []
    pub array : (t : Text) → ok t → ok (array_of t) × made (array_of t)
    pub item : (t : Text) → ok (array_of t) → ok t
    pub base : (t : Text) → ok t → ok (base_of t)
    -- values that are given
    pub new_fits : (t : Text) → fit_given p o (given.New t) ≡ true → ok t
    pub new_made : (t : Text) → is_defined F t ≡ false → made t
    pub array_fits : (t : Text) (n : ℕ) → fit_given p o (given.Array t n) ≡ true → ok t
    -- methods
    pub bodies : (k : MethodKey) → live k → find k ≡ other k
    pub class_ok : (k : MethodKey) → live k → ok k.class
    pub result_ok : (k : MethodKey) → live k → ok k.signature.result
    pub parameters_ok : (k : MethodKey) → live k → Each ok k.signature.parameters
    -- what live code says
    pub code : (k : MethodKey) (b : NamedBody) (n : ℕ) (f : Form) → live k → find k ≡ Some b → stands k n → form_at b n ≡ Some f → says k f
    pub entry : (k : MethodKey) (b : NamedBody) → live k → find k ≡ Some b → stands k 0
    pub onwards : (k : MethodKey) (b : NamedBody) (n m : ℕ) (f : Form) → live k → find k ≡ Some b → stands k n → form_at b n ≡ Some f → In m (onward f n) → stands k m
    pub catches : (k : MethodKey) (b : NamedBody) (n m : ℕ) (f : Form) → live k → find k ≡ Some b → stands k n → form_at b n ≡ Some f → may_throw f ≡ true → In m (handlers_at b n) → stands k m
    pub news : (m : MethodKey) (to : ℕ) (t : Text) → says m (form.NewInstance to t) → ok t × made t
    pub arrays : (m : MethodKey) (to size : ℕ) (t : Text) → says m (form.NewArray to size t) → ok (item_of t)
    pub filled : (m : MethodKey) (args : List ℕ) (t : Text) → says m (form.FilledNewArray t args) → ok (item_of t)
    pub fields : (m : MethodKey) (f : Form) (k : FieldKey) → says m f → In k (fields_in f) → AgreeOnField k (F.field k) (G.field k)
    pub calls : (m : MethodKey) (kind : InvokeKind) (k : MethodKey) (args : List ℕ) (t : Text) → says m (form.Invoke kind k args) → ok t → made t
        → AgreeOnCall (searched F m.class kind t k) (searched G m.class kind t k)
    pub answers : (m : MethodKey) (kind : InvokeKind) (k : MethodKey) (args : List ℕ) → says m (form.Invoke kind k args) → ok k.signature.result
    -- classes
    pub initialiser : (t : Text) → ok t → F.initialiser t ≡ G.initialiser t
    pub initialiser_live : (t : Text) (k : MethodKey) → ok t → F.initialiser t ≡ Some k → live k
    pub first : (t : Text) → ok t → sieve calm (F.first t) ≡ G.first t
    pub first_ok : (t : Text) → ok t → Each ok (F.first t)
    -- what the framework may do
    pub declared : (c n q : Text) → AgreeOnDeclared o F G (F.declared c n q) (G.declared c n q)
    pub makes : (t : Text) → (o.classes t || o.constructed t) ≡ true → is_concrete F t ≡ is_concrete G t
    pub made_ok : (t : Text) → may_make F o t ≡ true → ok t × made t
    pub own_field : (k : FieldKey) → o.fields k ≡ true → F.own_field k ≡ G.own_field k
    pub own_kind : (k : FieldKey) (x : Place) → o.fields k ≡ true → F.own_field k ≡ Some x → ok k.kind
