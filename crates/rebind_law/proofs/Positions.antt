-- What stands at positions of the body that asks, and of a program that asks.
use Rattle.std.proofs.Common.{◌≡◌, ℕ, zero, suc, ◌+◌, Bool, List, [], ◌∷◌, Option, Some, None, refl, ap, ◌∙◌, arith}
use Rattle.std.specs.Prelude.{is_some, slice_get}
use Rattle.std.specs.Option.{option_map, option_and_then}
use Rattle.dalvik_defs.specs.Face.{face_of, bodies_of}
use Rattle.dalvik_defs.specs.Names.{Text}
use Rattle.dalvik_defs.specs.Silence.{key_in}
use Rattle.dalvik_defs.specs.Stack.{form_at, receives, back, handler_at}
use Rattle.dalvik_defs.specs.declared.forms.Form.{Form}
use Rattle.dalvik_defs.specs.declared.forms.Form.TheVariants as form
use Rattle.dalvik_defs.specs.declared.names.MethodKey.{MethodKey}
use Rattle.dalvik_defs.specs.declared.program.NamedBody.{NamedBody}
use Rattle.dalvik_defs.specs.declared.program.NamedProgram.{NamedProgram}
use Rattle.dalvik_defs.specs.declared.state.Frame.{Frame}
use Rattle.dalvik_defs.specs.declared.state.Value.{Value}
use Rattle.dalvik_defs.specs.declared.tables.Framework.{Framework}
use Rattle.program_laws.specs.Bodies.{KeepsCode}
use Rattle.program_laws.specs.Others.{Codes, OtherBodies}
use Rattle.program_laws.proofs.Faces.{others_face}
use Rattle.program_laws.proofs.Found.{others_found}
use Rattle.program_laws.proofs.Named.{others_changed}
use Rattle.rebind_law.specs.Asking.{Asks, asking, asking_from, asking_body, asking_change, asking_program, no_name}

pub at_from : (name : Text) (asks : ℕ → Option Text) (n k : ℕ) (fs : List Form) → slice_get (asking_from name asks n fs) k ≡ option_map (asking name (asks (n + k))) (slice_get fs k)
at_from name asks n k [] = refl
at_from name asks n zero (f ∷ fs) = ap (λ m. Some (asking name (asks m) f)) (itself n)
  where
    itself : (n : ℕ) → n ≡ n + 0
    itself n = omega arith
at_from name asks n (suc k) (f ∷ fs) = at_from name asks (suc n) k fs ∙ ap (λ m. option_map (asking name (asks m)) (slice_get fs k)) (one n k)
  where
    one : (n k : ℕ) → suc n + k ≡ n + suc k
    one n k = omega arith

pub at_body : (name : Text) (asks : ℕ → Option Text) (k : ℕ) (b : NamedBody) → slice_get (asking_body name asks b).forms k ≡ option_map (asking name (asks k)) (slice_get b.forms k)
at_body name asks k b = at_from name asks 0 k b.forms ∙ ap (λ m. option_map (asking name (asks m)) (slice_get b.forms k)) (none k)
  where
    none : (k : ℕ) → 0 + k ≡ k
    none k = omega arith

pub coded : (name : Text) (asks : Asks) → KeepsCode (asking_change name asks)
coded name asks c m = by m.body
  where
    by : (o : Option NamedBody) → is_some (option_map (asking_body name (asks (key_in c m))) o) ≡ is_some o
    by None = refl
    by (Some b) = refl

-- ---- programs

module _ (asks : Asks) (p : NamedProgram) where
  abbrev m : NamedProgram
  m = asking_program asks p

  abbrev name : Text
  name = no_name p

  abbrev Asking : Codes
  Asking k x y = y ≡ option_map (asking_body name (asks k)) x

  pub asking_others : OtherBodies Asking p m
  asking_others = others_changed Asking (asking_change name asks) p (coded name asks) (λ c d. refl)

  pub asking_face : (f : Framework) → face_of m f ≡ face_of p f
  asking_face f = others_face Asking p m asking_others f

  pub asking_found : (k : MethodKey) → bodies_of m k ≡ option_map (asking_body name (asks k)) (bodies_of p k)
  asking_found k = others_found Asking (λ k. refl) p m asking_others k

  -- ---- frames

  pub same_handler : (above : Text → Bool) (n : ℕ) (k : MethodKey) → option_and_then (handler_at above n) (bodies_of m k) ≡ option_and_then (handler_at above n) (bodies_of p k)
  same_handler above n k = ap (option_and_then (handler_at above n)) (asking_found k) ∙ by (bodies_of p k)
    where
      by : (o : Option NamedBody) → option_and_then (handler_at above n) (option_map (asking_body name (asks k)) o) ≡ option_and_then (handler_at above n) o
      by None = refl
      by (Some b) = refl

  pub asking_form : (g : Frame) → form_at (bodies_of m) g ≡ option_map (asking name (asks g.method g.position)) (form_at (bodies_of p) g)
  asking_form g = ap (option_and_then (λ (b : NamedBody). slice_get b.forms g.position)) (asking_found g.method) ∙ by (bodies_of p g.method)
    where
      by : (o : Option NamedBody) → option_and_then (λ (b : NamedBody). slice_get b.forms g.position) (option_map (asking_body name (asks g.method)) o)
          ≡ option_map (asking name (asks g.method g.position)) (option_and_then (λ (b : NamedBody). slice_get b.forms g.position) o)
      by None = refl
      by (Some b) = at_body name (asks g.method) g.position b

  receives_same : (o : Option Text) (x : Form) (g : Frame) (v : Value) → receives (Some (asking name o x)) g v ≡ receives (Some x) g v
  receives_same None x g v = refl
  receives_same (Some t) (form.Invoke kind k args) g v = refl
  receives_same (Some t) x g v = refl

  pub same_back : (g : Frame) (v : Option Value) → back (bodies_of m) g v ≡ back (bodies_of p) g v
  same_back g None = refl
  same_back g (Some v) = ap (λ o. receives o g v) (asking_form g) ∙ by (form_at (bodies_of p) g)
    where
      by : (o : Option Form) → receives (option_map (asking name (asks g.method g.position)) o) g v ≡ receives o g v
      by None = refl
      by (Some x) = receives_same (asks g.method g.position) x g v
