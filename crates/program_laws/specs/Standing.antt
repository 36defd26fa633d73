-- What the law of standing forms asks of a relation between blocks of two programs: on the tops of related blocks stands the
-- same form, with other registers and targets, and what it comes to is related; or the blocks have steps of their own that
-- show nothing and lead to related blocks.
use Rattle.std.specs.Prelude.{◌≡◌, ℕ, suc, true, length, List, [], Option, Some, None}
use Rattle.dalvik_defs.specs.Face.{Bodies}
use Rattle.dalvik_defs.specs.State.{World, Classes, State, On}
use Rattle.dalvik_defs.specs.Effect.{next}
use Rattle.dalvik_defs.specs.Stack.{entry_frame, form_at as form_here}
use Rattle.dalvik_defs.specs.Happens.{Setting}
use Rattle.dalvik_defs.specs.Step.{step}
use Rattle.dalvik_defs.specs.declared.state.Value.{Value}
use Rattle.dalvik_defs.specs.declared.state.Value.TheVariants.{Word}
use Rattle.dalvik_defs.specs.declared.state.Waiting.{Waiting}
use Rattle.dalvik_defs.specs.declared.names.MethodKey.{MethodKey}
use Rattle.dalvik_defs.specs.declared.forms.Form.{Form}
use Rattle.dalvik_defs.specs.declared.script.Move.{Move}
use Rattle.dalvik_defs.specs.declared.program.NamedBody.{NamedBody}
use Rattle.dalvik_defs.proofs.Frames.{Above}
use Rattle.dalvik_defs.proofs.Blocks.{Block, alone, with_top, stacked, catches, Glides}
use Rattle.pass_defs.specs.Bare.{may_throw, continues}
use Rattle.pass_defs.specs.Remade.{remade}
use Rattle.program_laws.specs.Alike.{Holds, Accepts, Awaits, is_return, gets_void}

module _ (s : Setting) (find other : Bodies) (P : Block → Block → Type 0) where
  -- what catches a thrown object is related, or nothing does
  pub data Land : Option Block → Option Block → Type 0 where
    Nowhere : Land None None
    Caught : (x y : Block) → P x y → Land (Some x) (Some y)

  -- one form stands on both tops, and what it comes to is related
  pub record Standing (x y : Block) : Type 0 where
    pub pair : P x y
    pub form : Form
    pub from : ℕ → ℕ
    pub into : ℕ → ℕ
    pub to : ℕ → ℕ
    pub here : form_here find x.top ≡ Some form
    pub there : form_here other y.top ≡ Some (remade from into to form)
    pub class : y.top.method.class ≡ x.top.method.class
    pub holds : Holds form from x.top y.top
    pub accepts : Accepts form into to x.top y.top (λ f g. P (with_top x f) (with_top y g))
    -- where a field of type void is read, which no well-formed program does, nothing is written
    pub voids : gets_void form ≡ true → P (with_top x (next (record x.top { result = Word 0 }))) (with_top y (next (record y.top { result = Word 0 })))
    pub landed : may_throw form ≡ true → (u : World) (v : Value) → Land (catches s.face find u v x) (catches s.face other u v y)
    pub ended : is_return form ≡ true → (x.below ≡ []) × ((y.below ≡ []) × (y.top.method.signature.result ≡ x.top.method.signature.result))

  -- both wait at a form for what stands above
  pub record Waits (a : Above) (x y : Block) : Type 0 where
    pub stands : Standing x y
    pub throws : may_throw stands.form ≡ true
    pub goes_on : continues stands.form ≡ true
    pub awaits : Awaits stands.form a

  -- how two related blocks go on
  pub data Goes (w : World) (c : Classes) : Block → Block → Type 0 where
    Stands : (x y : Block) → Standing x y → Goes w c x y
    -- no form stands on either top
    Past : (x y : Block) → form_here find x.top ≡ None → form_here other y.top ≡ None → Goes w c x y
    -- both have steps of their own, one at least
    Leaps : (x y : Block) (n m : ℕ) (w1 : World) (c1 : Classes) (x1 y1 : Block) → Glides s find w c x (suc n) w1 c1 x1 → Glides s other w c y (suc m) w1 c1 y1 → P x1 y1 → Goes w c x y
    -- the first alone has
    Later : (x y : Block) (n : ℕ) (x1 : Block) → Glides s find w c x (suc n) w c x1 → Goes w c x1 y → Goes w c x y

  -- a method has code in both programs, for as many values and with related entries, or in neither
  pub data Entries (k : MethodKey) (vs : List Value) : Option NamedBody → Option NamedBody → Type 0 where
    Neither : Entries k vs None None
    Both : (b b' : NamedBody) → b'.ins ≡ b.ins → (length vs ≡ b.ins → P (alone (entry_frame k vs b)) (alone (entry_frame k vs b'))) → Entries k vs (Some b) (Some b')

  -- the law's premises, in the states that runs of both programs reach
  pub record GoAlike (I J : State → Type 0) : Type 0 where
    pub goes : (w : World) (c : Classes) (x y : Block) (rest rest' : List Waiting) (script : List Move) → P x y → I (On w c (stacked x rest) script) → J (On w c (stacked y rest') script) → Goes w c x y
    pub entries : (k : MethodKey) (vs : List Value) → Entries k vs (find k) (other k)
    pub keeps : (t : State) → I t → I (step s find t).0
    pub keeps_other : (t : State) → J t → J (step s other t).0
